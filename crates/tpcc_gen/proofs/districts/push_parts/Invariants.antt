-- What is left from here on makes of it what the whole makes of the beginning.
use Rattle.std.proofs.Common.{◌-◌}
use Rattle.tpcc_gen.specs.Draws.{each}
use Rattle.tpcc_gen.specs.Loads.{district_part, districts_part}
use Rattle.tpcc_gen.proofs.Going.{Goes}
use Rattle.tpcc_gen.proofs.districts.push_parts.Given as goal

abbrev pub invariant-loop-d : goal.invariant-loop-d
invariant-loop-d l =
    Goes l.fn.out l.fn.words l.out l.words (each (district_part l.fn.part l.fn.scale.items l.fn.scale.customers l.fn.w) (11 - l.d) l.d) (districts_part l.fn.part l.fn.scale.items l.fn.scale.customers l.fn.w)
