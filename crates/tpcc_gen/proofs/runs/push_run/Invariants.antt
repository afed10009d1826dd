-- What is left from here on makes of it what the whole makes of the beginning.
use Rattle.std.proofs.Common.{◌+◌, ◌-◌}
use Rattle.tpcc_gen.specs.Draws.{each}
use Rattle.tpcc_gen.specs.Loads.{drawn_for, run_tape}
use Rattle.tpcc_gen.proofs.Going.{Goes}
use Rattle.tpcc_gen.proofs.runs.push_run.Given as goal

abbrev pub invariant-loop-k : goal.invariant-loop-k
invariant-loop-k l =
    Goes l.fn.out l.fn.words l.out l.words (each (drawn_for l.fn.low l.fn.high) (l.fn.run.first + l.fn.run.count - l.k) l.k) (run_tape l.fn.low l.fn.high l.fn.run.first l.fn.run.count)
