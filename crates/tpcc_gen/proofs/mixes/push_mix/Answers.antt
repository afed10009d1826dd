use Rattle.std.proofs.Common.{arith, ◌+◌}
use Rattle.tpcc_gen.specs.Mixes.{place_line, mix}
use Rattle.tpcc_gen.proofs.Going.{goes_all, goes_on, goes_past}
use Rattle.tpcc_gen.proofs.mixes.push_mix.Goals as goal

pub loop-place-init : goal.loop-place-init
unfolding mix
loop-place-init c = goes_all _ _ (place_line c.args.scale.warehouses c.args.scale.items c.args.scale.customers) (c.args.count + 1) 1 (c.args.count) (omega arith)

pub loop-place-preserved : goal.loop-place-preserved
loop-place-preserved c =
    goes_on _ _ _ _ _ _ (place_line c.args.scale.warehouses c.args.scale.items c.args.scale.customers) _ (c.args.count + 1) c.loop-place.place (omega arith) c.loop-place.invariant c.push_place.ensures

pub returns : goal.returns
returns c = goes_past _ _ _ _ (place_line c.args.scale.warehouses c.args.scale.items c.args.scale.customers) _ (c.args.count + 1) c.loop-place.place (omega arith) c.loop-place.invariant
