use Rattle.std.proofs.Common.{arith, ◌+◌}
use Rattle.tpcc_gen.specs.Loads.{stock_of}
use Rattle.tpcc_gen.proofs.Going.{goes_all, goes_on, goes_past}
use Rattle.tpcc_gen.proofs.loads.push_all_stock.Goals as goal

pub loop-w-init : goal.loop-w-init
loop-w-init c = goes_all _ _ (stock_of c.args.scale.items) (c.args.scale.warehouses + 1) 1 (c.args.scale.warehouses) (omega arith)

pub loop-w-preserved : goal.loop-w-preserved
loop-w-preserved c =
    goes_on _ _ _ _ _ _ (stock_of c.args.scale.items) _ (c.args.scale.warehouses + 1) c.loop-w.w (omega arith) c.loop-w.invariant c.push_stock_of.ensures

pub returns : goal.returns
returns c = goes_past _ _ _ _ (stock_of c.args.scale.items) _ (c.args.scale.warehouses + 1) c.loop-w.w (omega arith) c.loop-w.invariant
