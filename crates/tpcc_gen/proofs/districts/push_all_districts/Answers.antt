use Rattle.std.proofs.Common.{arith, ◌+◌}
use Rattle.tpcc_gen.specs.Loads.{districts_part, all_districts}
use Rattle.tpcc_gen.proofs.Going.{goes_all, goes_on, goes_past}
use Rattle.tpcc_gen.proofs.districts.push_all_districts.Goals as goal

pub loop-w-init : goal.loop-w-init
unfolding all_districts
loop-w-init c = goes_all _ _ (districts_part c.args.part c.args.scale.items c.args.scale.customers) (c.args.scale.warehouses + 1) 1 (c.args.scale.warehouses) (omega arith)

pub loop-w-preserved : goal.loop-w-preserved
loop-w-preserved c =
    goes_on _ _ _ _ _ _ (districts_part c.args.part c.args.scale.items c.args.scale.customers) _ (c.args.scale.warehouses + 1) c.loop-w.w (omega arith) c.loop-w.invariant c.push_parts.ensures

pub returns : goal.returns
returns c = goes_past _ _ _ _ (districts_part c.args.part c.args.scale.items c.args.scale.customers) _ (c.args.scale.warehouses + 1) c.loop-w.w (omega arith) c.loop-w.invariant
