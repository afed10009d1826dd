use Rattle.std.proofs.Common.{◌≡◌, length, take}
use Rattle.acc_form.specs.Marks.{numbered}
use Rattle.acc_form.specs.Statements.{path_marks}
use Rattle.acc_form.specs.Walks.{after}
use Rattle.acc_form.proofs.steps.meet_paths.Given as goal

abbrev pub invariant-loop-i : goal.invariant-loop-i
invariant-loop-i l = l.walk ≡ after l.initial.walk
    (numbered (path_marks l.around.tables.now l.around.ty.now l.around.side l.around.is_bare (length l.paths)) (take l.i l.paths))
