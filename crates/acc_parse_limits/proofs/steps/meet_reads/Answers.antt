use Rattle.acc_base.specs.declared.limits.Limit.TheVariants as limit
use Rattle.acc_parse_limits.specs.Statements.{read_marks}
use Rattle.acc_parse_limits.proofs.Limited.{limited_next}
use Rattle.acc_parse_limits.proofs.steps.meet_reads.Goals as goal

pub loop-i-preserved : goal.loop-i-preserved
loop-i-preserved c =
    limited_next limit.Reads 32 read_marks c.args.reads.now c.loop-i.i _ _ _ _ _ c.loop-i.invariant c.pass_if.ensures c.meet_read.ensures
    c.loop-i-test.true c.index-reads-i.is
