use Rattle.acc_index_store.specs.Asked.{asks}
use Rattle.acc_index_store.proofs.Adding.{adds_more}
use Rattle.acc_index_store.proofs.asked.add_reads.Goals as goal

pub loop-read-preserved : goal.loop-read-preserved
loop-read-preserved c =
    adds_more asks c.args.reads.now c.loop-read.read-index c.read-item.result c.args.kept.now.items c.loop-read.kept.items
    c.add_read.new.kept.items c.loop-read-test.true c.read-item.is c.loop-read.invariant c.in_ok-add_read.ensures
