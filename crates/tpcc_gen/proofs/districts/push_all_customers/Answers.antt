use Rattle.std.proofs.Common.{arith, ◌+◌}
use Rattle.tpcc_gen.specs.Loads.{runs, customers_line}
use Rattle.tpcc_gen.proofs.Going.{goes_all, goes_on, goes_past}
use Rattle.tpcc_gen.proofs.districts.push_all_customers.Goals as goal

pub loop-r-init : goal.loop-r-init
loop-r-init c = (omega arith, goes_all _ _ (customers_line c.args.scale.customers c.args.w c.args.d) (runs c.args.scale.customers + 1) 1 (runs c.args.scale.customers) (omega arith))

pub loop-r-preserved : goal.loop-r-preserved
loop-r-preserved c =
    (omega arith, goes_on _ _ _ _ _ _ (customers_line c.args.scale.customers c.args.w c.args.d) _ (runs c.args.scale.customers + 1) c.loop-r.r (omega arith) c.loop-r.invariant.1 c.push_customers.ensures)

pub returns : goal.returns
returns c = goes_past _ _ _ _ (customers_line c.args.scale.customers c.args.w c.args.d) _ (runs c.args.scale.customers + 1) c.loop-r.r (omega arith) c.loop-r.invariant.1
