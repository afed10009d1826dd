use Rattle.acc_base.specs.declared.limits.Limit.TheVariants as limit
use Rattle.acc_parse_limits.specs.Statements.{hint_marks}
use Rattle.acc_parse_limits.proofs.Limited.{limited_next}
use Rattle.acc_parse_limits.proofs.designs.meet_hints.Goals as goal

pub loop-i-preserved : goal.loop-i-preserved
loop-i-preserved c =
    limited_next limit.EntriesAndHints 1024 hint_marks c.args.hints.now c.loop-i.i _ _ _ _ _ c.loop-i.invariant c.pass_if.ensures
    c.meet_hint.ensures c.loop-i-test.true c.index-hints-i.is
