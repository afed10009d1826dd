use Rattle.std.proofs.Common.{◌≡◌, take}
use Rattle.acc_form.specs.Marks.{numbered}
use Rattle.acc_form.specs.Statements.{hint_marks}
use Rattle.acc_form.specs.Walks.{after}
use Rattle.acc_form.proofs.designs.meet_hints.Given as goal

abbrev pub invariant-loop-i : goal.invariant-loop-i
invariant-loop-i l = l.walk ≡ after l.initial.walk (numbered hint_marks (take l.i l.hints))
