use Rattle.acc_index_store.proofs.Adding.{adds_more}
use Rattle.acc_audit.specs.Totals.{total_in_clause}
use Rattle.acc_audit.proofs.totals.add_clauses.Goals as goal

pub loop-clause-preserved : goal.loop-clause-preserved
loop-clause-preserved c =
    adds_more total_in_clause c.args.clauses.now c.loop-clause.clause-index c.clause-item.result c.args.kept.now.items c.loop-clause.kept.items
    c.add_clause.new.kept.items c.loop-clause-test.true c.clause-item.is c.loop-clause.invariant c.in_ok-add_clause.ensures
