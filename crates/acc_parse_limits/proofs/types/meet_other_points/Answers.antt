use Rattle.acc_base.specs.declared.limits.Limit.TheVariants as limit
use Rattle.acc_parse_limits.specs.Statements.{point_marks}
use Rattle.acc_parse_limits.proofs.Limited.{limited_next}
use Rattle.acc_parse_limits.proofs.types.meet_other_points.Goals as goal

pub loop-i-preserved : goal.loop-i-preserved
loop-i-preserved c =
    limited_next limit.Points 31 point_marks c.args.points.now c.loop-i.i _ _ _ _ _ c.loop-i.invariant c.pass_if.ensures
    c.meet_point.ensures c.loop-i-test.true c.index-points-i.is
