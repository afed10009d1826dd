use Rattle.std.proofs.Common.{arith, ◌+◌}
use Rattle.tpcc_gen.specs.Loads.{order_line}
use Rattle.tpcc_gen.proofs.Going.{goes_all, goes_on, goes_past}
use Rattle.tpcc_gen.proofs.districts.push_orders.Goals as goal

pub loop-o-init : goal.loop-o-init
loop-o-init c = goes_all _ _ (order_line c.args.scale.items c.args.scale.customers c.args.w c.args.d) (c.args.scale.customers + 1) 1 (c.args.scale.customers) (omega arith)

pub loop-o-preserved : goal.loop-o-preserved
loop-o-preserved c =
    goes_on _ _ _ _ _ _ (order_line c.args.scale.items c.args.scale.customers c.args.w c.args.d) _ (c.args.scale.customers + 1) c.loop-o.o (omega arith) c.loop-o.invariant c.push_order.ensures

pub returns : goal.returns
returns c = goes_past _ _ _ _ (order_line c.args.scale.items c.args.scale.customers c.args.w c.args.d) _ (c.args.scale.customers + 1) c.loop-o.o (omega arith) c.loop-o.invariant
