use Rattle.acc_base.specs.declared.limits.Limit.TheVariants as limit
use Rattle.acc_parse_limits.specs.Statements.{clause_statement_marks}
use Rattle.acc_parse_limits.proofs.Limited.{limited_next}
use Rattle.acc_parse_limits.proofs.designs.meet_always.Goals as goal

pub loop-i-preserved : goal.loop-i-preserved
loop-i-preserved c =
    limited_next limit.AlwaysClauses 128 clause_statement_marks c.args.clauses.now c.loop-i.i _ _ _ _ _ c.loop-i.invariant c.pass_if.ensures
    c.meet_clause_statement.ensures c.loop-i-test.true c.index-clauses-i.is
