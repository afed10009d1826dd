-- What is left from here on makes of it what the whole makes of the beginning.
use Rattle.std.proofs.Common.{◌+◌, ◌-◌}
use Rattle.tpcc_gen.specs.Draws.{each}
use Rattle.tpcc_gen.specs.Loads.{order_part, order_tape}
use Rattle.tpcc_gen.proofs.Going.{Goes}
use Rattle.tpcc_gen.proofs.first_orders.push_parts.Given as goal

abbrev pub invariant-loop-line : goal.invariant-loop-line
invariant-loop-line l =
    Goes l.fn.out l.fn.words l.out l.words (each (λ _. order_part l.fn.scale.items l.fn.w l.fn.delivered) (l.fn.count + 1 - l._line) l._line) (order_tape l.fn.scale.items l.fn.w l.fn.delivered l.fn.count)
