use Rattle.std.proofs.Common.{◌≡◌, take}
use Rattle.acc_form.specs.Marks.{numbered}
use Rattle.acc_form.specs.Statements.{type_marks}
use Rattle.acc_form.specs.Walks.{after}
use Rattle.acc_form.proofs.designs.meet_types.Given as goal

abbrev pub invariant-loop-i : goal.invariant-loop-i
invariant-loop-i l = l.walk ≡ after l.initial.walk (numbered (type_marks l.tables l.types) (take l.i l.types))
