-- What is left from here on makes of it what the whole makes of the beginning.
use Rattle.std.proofs.Common.{◌+◌, ◌-◌, ◌≤◌}
use Rattle.tpcc_gen.specs.Draws.{each}
use Rattle.tpcc_gen.specs.Loads.{runs, customers_line}
use Rattle.tpcc_gen.proofs.Going.{Goes}
use Rattle.tpcc_gen.proofs.districts.push_all_customers.Given as goal

abbrev pub invariant-loop-r : goal.invariant-loop-r
invariant-loop-r l =
    (1 ≤ l.r) × Goes l.fn.out l.fn.words l.out l.words (each (customers_line l.fn.scale.customers l.fn.w l.fn.d) (runs l.fn.scale.customers + 1 - l.r) l.r) (each (customers_line l.fn.scale.customers l.fn.w l.fn.d) (runs l.fn.scale.customers) 1)
