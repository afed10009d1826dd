use Rattle.acc_base.specs.declared.limits.Limit.TheVariants as limit
use Rattle.acc_parse_limits.specs.Statements.{path_marks}
use Rattle.acc_parse_limits.proofs.Limited.{limited_next}
use Rattle.acc_parse_limits.proofs.steps.meet_other_paths.Goals as goal

pub loop-i-preserved : goal.loop-i-preserved
loop-i-preserved c =
    limited_next limit.Paths 15 path_marks c.args.paths.now c.loop-i.i _ _ _ _ _ c.loop-i.invariant c.pass_if.ensures c.meet_path.ensures
    c.loop-i-test.true c.index-paths-i.is
