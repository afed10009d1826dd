use Rattle.acc_form.specs.Statements.{point_marks}
use Rattle.acc_form.proofs.Numbered.{numbered_next}
use Rattle.acc_form.proofs.types.meet_points.Goals as goal

pub loop-i-preserved : goal.loop-i-preserved
loop-i-preserved c =
    numbered_next (point_marks c.args.tables.now c.args.ty.now) c.as_slice-points.result.now c.loop-i.i _ _ _ _ c.loop-i.invariant
    c.meet_point.ensures c.loop-i-test.true c.index-points-i.is
