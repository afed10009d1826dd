use Rattle.std.proofs.Common.{arith, ◌+◌}
use Rattle.tpcc_gen.specs.Mixes.{new_order_part}
use Rattle.tpcc_gen.proofs.Going.{goes_all, goes_on, goes_past}
use Rattle.tpcc_gen.proofs.new_orders.push_parts.Goals as goal

pub loop-k-init : goal.loop-k-init
loop-k-init c = goes_all _ _ (new_order_part c.args.scale.warehouses c.args.scale.items c.args.w c.args.lines) (c.args.lines.count + 1) 1 (c.args.lines.count) (omega arith)

pub loop-k-preserved : goal.loop-k-preserved
loop-k-preserved c =
    goes_on _ _ _ _ _ _ (new_order_part c.args.scale.warehouses c.args.scale.items c.args.w c.args.lines) _ (c.args.lines.count + 1) c.loop-k.k (omega arith) c.loop-k.invariant c.push_part.ensures

pub returns : goal.returns
returns c = goes_past _ _ _ _ (new_order_part c.args.scale.warehouses c.args.scale.items c.args.w c.args.lines) _ (c.args.lines.count + 1) c.loop-k.k (omega arith) c.loop-k.invariant
