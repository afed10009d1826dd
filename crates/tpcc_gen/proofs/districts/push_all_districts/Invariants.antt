-- What is left from here on makes of it what the whole makes of the beginning.
use Rattle.std.proofs.Common.{◌+◌, ◌-◌}
use Rattle.tpcc_gen.specs.Draws.{each}
use Rattle.tpcc_gen.specs.Loads.{districts_part, all_districts}
use Rattle.tpcc_gen.proofs.Going.{Goes}
use Rattle.tpcc_gen.proofs.districts.push_all_districts.Given as goal

abbrev pub invariant-loop-w : goal.invariant-loop-w
invariant-loop-w l =
    Goes l.fn.out l.fn.words l.out l.words (each (districts_part l.fn.part l.fn.scale.items l.fn.scale.customers) (l.fn.scale.warehouses + 1 - l.w) l.w) (all_districts l.fn.part l.fn.scale.warehouses l.fn.scale.items l.fn.scale.customers)
