-- What is left from here on makes of it what the whole makes of the beginning.
use Rattle.std.proofs.Common.{◌+◌, ◌-◌}
use Rattle.tpcc_gen.specs.Draws.{each}
use Rattle.tpcc_gen.specs.Loads.{warehouse_line}
use Rattle.tpcc_gen.proofs.Going.{Goes}
use Rattle.tpcc_gen.proofs.loads.push_warehouses.Given as goal

abbrev pub invariant-loop-w : goal.invariant-loop-w
invariant-loop-w l =
    Goes l.fn.out l.fn.words l.out l.words (each (warehouse_line) (l.fn.scale.warehouses + 1 - l.w) l.w) (each warehouse_line l.fn.scale.warehouses 1)
