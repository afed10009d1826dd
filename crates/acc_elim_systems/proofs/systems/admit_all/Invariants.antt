use Rattle.std.proofs.Common.{◌≡◌, [], vec_len}
use Rattle.std.specs.Prelude.{reverse}
use Rattle.acc_base.specs.Computing.{steps}
use Rattle.acc_elim_systems.specs.Systems.{admitted}
use Rattle.acc_elim_systems.proofs.systems.admit_all.Given as goal

abbrev pub invariant-loop-row : goal.invariant-loop-row
invariant-loop-row l = steps admitted l.kept.items (reverse l.rest.items) ≡ steps admitted [] l.fn.rows.items

abbrev pub decreases-loop-row : goal.decreases-loop-row
decreases-loop-row l = vec_len l.rest
