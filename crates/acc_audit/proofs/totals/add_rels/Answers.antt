use Rattle.acc_index_store.proofs.Adding.{adds_more}
use Rattle.acc_audit.specs.Totals.{total_in_rel}
use Rattle.acc_audit.proofs.totals.add_rels.Goals as goal

pub loop-rel-preserved : goal.loop-rel-preserved
loop-rel-preserved c =
    adds_more total_in_rel c.args.rels.now c.loop-rel.rel-index c.rel-item.result c.args.kept.now.items c.loop-rel.kept.items
    c.add_rel.new.kept.items c.loop-rel-test.true c.rel-item.is c.loop-rel.invariant c.in_ok-add_rel.ensures
