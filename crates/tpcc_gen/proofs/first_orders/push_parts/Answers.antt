use Rattle.std.proofs.Common.{arith, ◌+◌}
use Rattle.tpcc_gen.specs.Loads.{order_part, order_tape}
use Rattle.tpcc_gen.proofs.Going.{goes_all, goes_on, goes_past}
use Rattle.tpcc_gen.proofs.first_orders.push_parts.Goals as goal

pub loop-line-init : goal.loop-line-init
unfolding order_tape
loop-line-init c = goes_all _ _ (λ _. order_part c.args.scale.items c.args.w c.args.delivered) (c.args.count + 1) 1 (c.args.count) (omega arith)

pub loop-line-preserved : goal.loop-line-preserved
loop-line-preserved c =
    goes_on _ _ _ _ _ _ (λ _. order_part c.args.scale.items c.args.w c.args.delivered) _ (c.args.count + 1) c.loop-line._line (omega arith) c.loop-line.invariant c.push_part.ensures

pub returns : goal.returns
returns c = goes_past _ _ _ _ (λ _. order_part c.args.scale.items c.args.w c.args.delivered) _ (c.args.count + 1) c.loop-line._line (omega arith) c.loop-line.invariant
