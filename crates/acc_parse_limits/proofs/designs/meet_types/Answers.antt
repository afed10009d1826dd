use Rattle.acc_base.specs.declared.limits.Limit.TheVariants as limit
use Rattle.acc_parse_limits.specs.Statements.{type_marks}
use Rattle.acc_parse_limits.proofs.Limited.{limited_next}
use Rattle.acc_parse_limits.proofs.designs.meet_types.Goals as goal

pub loop-i-preserved : goal.loop-i-preserved
loop-i-preserved c =
    limited_next limit.Types 64 type_marks c.args.types.now c.loop-i.i _ _ _ _ _ c.loop-i.invariant c.pass_if.ensures c.meet_type.ensures
    c.loop-i-test.true c.index-types-i.is
