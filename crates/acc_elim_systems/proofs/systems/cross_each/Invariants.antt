use Rattle.std.proofs.Common.{◌≡◌, drop}
use Rattle.acc_base.specs.Computing.{steps}
use Rattle.acc_elim_systems.specs.Systems.{crossed, unbounded}
use Rattle.acc_elim_systems.proofs.systems.cross_each.Given as goal

abbrev pub invariant-loop-unknown : goal.invariant-loop-unknown
invariant-loop-unknown l = steps crossed l.state (drop l.unknown-index l.unknowns) ≡ steps crossed (unbounded l.fn.rows) l.unknowns
