-- What is left from here on makes of it what the whole makes of the beginning.
use Rattle.std.proofs.Common.{◌+◌, ◌-◌}
use Rattle.tpcc_gen.specs.Draws.{each}
use Rattle.tpcc_gen.specs.Mixes.{place_line, mix}
use Rattle.tpcc_gen.proofs.Going.{Goes}
use Rattle.tpcc_gen.proofs.mixes.push_mix.Given as goal

abbrev pub invariant-loop-place : goal.invariant-loop-place
invariant-loop-place l =
    Goes l.fn.out l.fn.words l.out l.words (each (place_line l.fn.scale.warehouses l.fn.scale.items l.fn.scale.customers) (l.fn.count + 1 - l.place) l.place) (mix l.fn.scale.warehouses l.fn.scale.items l.fn.scale.customers l.fn.count)
