use Rattle.std.proofs.Common.{◌≡◌, take}
use Rattle.acc_form.specs.Marks.{numbered}
use Rattle.acc_form.specs.Statements.{table_marks}
use Rattle.acc_form.specs.Walks.{after}
use Rattle.acc_form.proofs.designs.meet_tables.Given as goal

abbrev pub invariant-loop-i : goal.invariant-loop-i
invariant-loop-i l = l.walk ≡ after l.initial.walk (numbered (table_marks l.tables) (take l.i l.tables))
