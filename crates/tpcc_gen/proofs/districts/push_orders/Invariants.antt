-- What is left from here on makes of it what the whole makes of the beginning.
use Rattle.std.proofs.Common.{◌+◌, ◌-◌}
use Rattle.tpcc_gen.specs.Draws.{each}
use Rattle.tpcc_gen.specs.Loads.{order_line}
use Rattle.tpcc_gen.proofs.Going.{Goes}
use Rattle.tpcc_gen.proofs.districts.push_orders.Given as goal

abbrev pub invariant-loop-o : goal.invariant-loop-o
invariant-loop-o l =
    Goes l.fn.out l.fn.words l.out l.words (each (order_line l.fn.scale.items l.fn.scale.customers l.fn.w l.fn.d) (l.fn.scale.customers + 1 - l.o) l.o) (each (order_line l.fn.scale.items l.fn.scale.customers l.fn.w l.fn.d) l.fn.scale.customers 1)
