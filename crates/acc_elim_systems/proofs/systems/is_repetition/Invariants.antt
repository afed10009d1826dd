use Rattle.std.proofs.Common.{◌≡◌, drop}
use Rattle.std.specs.List.{list_any}
use Rattle.acc_elim_systems.specs.Systems.{repeats}
use Rattle.acc_elim_systems.proofs.systems.is_repetition.Given as goal

abbrev pub invariant-loop-kept : goal.invariant-loop-kept
invariant-loop-kept l = list_any (repeats l.row) (drop l.kept-index l.rows) ≡ list_any (repeats l.row) l.rows
