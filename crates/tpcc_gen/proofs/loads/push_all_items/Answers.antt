use Rattle.std.proofs.Common.{arith, ◌+◌}
use Rattle.tpcc_gen.specs.Loads.{runs, items_line}
use Rattle.tpcc_gen.proofs.Going.{goes_all, goes_on, goes_past}
use Rattle.tpcc_gen.proofs.loads.push_all_items.Goals as goal

pub loop-r-init : goal.loop-r-init
loop-r-init c = (omega arith, goes_all _ _ (items_line c.args.scale.items) (runs c.args.scale.items + 1) 1 (runs c.args.scale.items) (omega arith))

pub loop-r-preserved : goal.loop-r-preserved
loop-r-preserved c =
    (omega arith, goes_on _ _ _ _ _ _ (items_line c.args.scale.items) _ (runs c.args.scale.items + 1) c.loop-r.r (omega arith) c.loop-r.invariant.1 c.push_items.ensures)

pub returns : goal.returns
returns c = goes_past _ _ _ _ (items_line c.args.scale.items) _ (runs c.args.scale.items + 1) c.loop-r.r (omega arith) c.loop-r.invariant.1
