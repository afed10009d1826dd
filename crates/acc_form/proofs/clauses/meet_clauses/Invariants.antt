use Rattle.std.proofs.Common.{◌≡◌, take}
use Rattle.acc_form.specs.Marks.{numbered}
use Rattle.acc_form.specs.Statements.{clause_marks}
use Rattle.acc_form.specs.Walks.{after}
use Rattle.acc_form.proofs.clauses.meet_clauses.Given as goal

abbrev pub invariant-loop-i : goal.invariant-loop-i
invariant-loop-i l = l.walk ≡ after l.initial.walk (numbered (clause_marks l.tables l.names l.most) (take l.i l.clauses))
