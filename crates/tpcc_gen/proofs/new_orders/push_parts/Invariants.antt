-- What is left from here on makes of it what the whole makes of the beginning.
use Rattle.std.proofs.Common.{◌+◌, ◌-◌}
use Rattle.tpcc_gen.specs.Draws.{each}
use Rattle.tpcc_gen.specs.Mixes.{new_order_part}
use Rattle.tpcc_gen.proofs.Going.{Goes}
use Rattle.tpcc_gen.proofs.new_orders.push_parts.Given as goal

abbrev pub invariant-loop-k : goal.invariant-loop-k
invariant-loop-k l =
    Goes l.fn.out l.fn.words l.out l.words (each (new_order_part l.fn.scale.warehouses l.fn.scale.items l.fn.w l.fn.lines) (l.fn.lines.count + 1 - l.k) l.k) (each (new_order_part l.fn.scale.warehouses l.fn.scale.items l.fn.w l.fn.lines) l.fn.lines.count 1)
