use Rattle.std.proofs.Common.{◌≡◌, take}
use Rattle.acc_form.specs.Marks.{numbered}
use Rattle.acc_form.specs.Statements.{entry_marks}
use Rattle.acc_form.specs.Walks.{after}
use Rattle.acc_form.proofs.designs.meet_entries.Given as goal

abbrev pub invariant-loop-i : goal.invariant-loop-i
invariant-loop-i l = l.walk ≡ after l.initial.walk (numbered (entry_marks l.types l.entries) (take l.i l.entries))
