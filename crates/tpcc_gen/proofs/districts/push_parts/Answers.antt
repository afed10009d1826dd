use Rattle.std.proofs.Common.{arith}
use Rattle.tpcc_gen.specs.Loads.{district_part, districts_part}
use Rattle.tpcc_gen.proofs.Going.{goes_all, goes_on, goes_past}
use Rattle.tpcc_gen.proofs.districts.push_parts.Goals as goal

pub loop-d-init : goal.loop-d-init
unfolding districts_part
loop-d-init c = goes_all _ _ (district_part c.args.part c.args.scale.items c.args.scale.customers c.args.w) (11) 1 (10) (omega arith)

pub loop-d-preserved : goal.loop-d-preserved
loop-d-preserved c =
    goes_on _ _ _ _ _ _ (district_part c.args.part c.args.scale.items c.args.scale.customers c.args.w) _ (11) c.loop-d.d (omega arith) c.loop-d.invariant c.push_part.ensures

pub returns : goal.returns
returns c = goes_past _ _ _ _ (district_part c.args.part c.args.scale.items c.args.scale.customers c.args.w) _ (11) c.loop-d.d (omega arith) c.loop-d.invariant
