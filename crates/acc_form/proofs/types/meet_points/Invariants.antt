use Rattle.std.proofs.Common.{◌≡◌, take}
use Rattle.acc_form.specs.Marks.{numbered}
use Rattle.acc_form.specs.Statements.{point_marks}
use Rattle.acc_form.specs.Walks.{after}
use Rattle.acc_form.proofs.types.meet_points.Given as goal

abbrev pub invariant-loop-i : goal.invariant-loop-i
invariant-loop-i l = l.walk ≡ after l.initial.walk (numbered (point_marks l.tables l.ty) (take l.i l.points))
