-- What is left from here on makes of it what the whole makes of the beginning.
use Rattle.std.proofs.Common.{◌+◌, ◌-◌, ◌≤◌}
use Rattle.tpcc_gen.specs.Draws.{each}
use Rattle.tpcc_gen.specs.Loads.{runs, stock_line, stock_of}
use Rattle.tpcc_gen.proofs.Going.{Goes}
use Rattle.tpcc_gen.proofs.loads.push_stock_of.Given as goal

abbrev pub invariant-loop-r : goal.invariant-loop-r
invariant-loop-r l =
    (1 ≤ l.r) × Goes l.fn.out l.fn.words l.out l.words (each (stock_line l.fn.scale.items l.fn.w) (runs l.fn.scale.items + 1 - l.r) l.r) (stock_of l.fn.scale.items l.fn.w)
