use Rattle.std.proofs.Common.{arith, ◌+◌}
use Rattle.tpcc_gen.specs.Loads.{runs, stock_line, stock_of}
use Rattle.tpcc_gen.proofs.Going.{goes_all, goes_on, goes_past}
use Rattle.tpcc_gen.proofs.loads.push_stock_of.Goals as goal

pub loop-r-init : goal.loop-r-init
unfolding stock_of
loop-r-init c = (omega arith, goes_all _ _ (stock_line c.args.scale.items c.args.w) (runs c.args.scale.items + 1) 1 (runs c.args.scale.items) (omega arith))

pub loop-r-preserved : goal.loop-r-preserved
loop-r-preserved c =
    (omega arith, goes_on _ _ _ _ _ _ (stock_line c.args.scale.items c.args.w) _ (runs c.args.scale.items + 1) c.loop-r.r (omega arith) c.loop-r.invariant.1 c.push_stock.ensures)

pub returns : goal.returns
returns c = goes_past _ _ _ _ (stock_line c.args.scale.items c.args.w) _ (runs c.args.scale.items + 1) c.loop-r.r (omega arith) c.loop-r.invariant.1
