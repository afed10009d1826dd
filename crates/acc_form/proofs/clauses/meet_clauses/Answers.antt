use Rattle.acc_form.specs.Statements.{clause_marks}
use Rattle.acc_form.proofs.Numbered.{numbered_next}
use Rattle.acc_form.proofs.clauses.meet_clauses.Goals as goal

pub loop-i-preserved : goal.loop-i-preserved
loop-i-preserved c =
    numbered_next (clause_marks c.args.tables.now c.args.names.now c.args.most) c.args.clauses.now c.loop-i.i _ _ _ _ c.loop-i.invariant
    c.meet_clause.ensures c.loop-i-test.true c.index-clauses-i.is
