-- What is left makes of the list what the whole makes of the beginning.
use Rattle.std.proofs.Common.{◌≡◌, ◌-◌, ◌*◌, ◌++◌}
use Rattle.tpcc_gen.specs.Draws.{each}
use Rattle.tpcc_gen.specs.Orders.{mention, mentions}
use Rattle.tpcc_gen.proofs.orders.add_mentions.Given as goal

abbrev pub invariant-loop-j : goal.invariant-loop-j
invariant-loop-j l =
    l.out ++ (each (mention l.fn.count) (32 * l.fn.count - l.j) l.j l.words).0 ≡ l.fn.out ++ (mentions l.fn.count l.fn.words).0
