-- What is written so far, and then the values that are left, is all of it.
use Rattle.acc_page.specs.Written.{Owes}
use Rattle.std.proofs.Common.{drop}
use Rattle.std.specs.List.{flat_map}
use Rattle.acc_base.specs.Lines.{spaced}
use Rattle.acc_audit_journal.proofs.lines.push_values.Given as goal

abbrev pub invariant-loop-value : goal.invariant-loop-value
invariant-loop-value l = Owes l.fn.out l.out (flat_map spaced (drop l.value-index l.values)) (flat_map spaced l.values)
