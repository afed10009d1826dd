use Rattle.std.proofs.Common.{◌≡◌, drop}
use Rattle.std.specs.List.{list_any}
use Rattle.acc_elim_known.specs.Ends.{is_equation}
use Rattle.acc_elim_known.proofs.known.has_equation.Given as goal

abbrev pub invariant-loop-one : goal.invariant-loop-one
invariant-loop-one l = list_any is_equation (drop l.one-index l.rows) ≡ list_any is_equation l.rows
