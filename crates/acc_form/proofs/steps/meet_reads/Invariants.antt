use Rattle.std.proofs.Common.{◌≡◌, take}
use Rattle.acc_form.specs.Marks.{numbered}
use Rattle.acc_form.specs.Statements.{read_marks}
use Rattle.acc_form.specs.Walks.{after}
use Rattle.acc_form.proofs.steps.meet_reads.Given as goal

abbrev pub invariant-loop-i : goal.invariant-loop-i
invariant-loop-i l = l.walk ≡ after l.initial.walk
    (numbered (read_marks l.around.tables.now l.around.ty.now l.around.side) (take l.i l.reads))
