use Rattle.std.proofs.Common.{arith, ◌+◌}
use Rattle.tpcc_gen.specs.Loads.{drawn_for, run_tape}
use Rattle.tpcc_gen.proofs.Going.{goes_all, goes_on, goes_past}
use Rattle.tpcc_gen.proofs.runs.push_run.Goals as goal

pub loop-k-init : goal.loop-k-init
unfolding run_tape
loop-k-init c = goes_all _ _ (drawn_for c.args.low c.args.high) (c.args.run.first + c.args.run.count) c.args.run.first (c.args.run.count) (omega arith)

pub loop-k-preserved : goal.loop-k-preserved
loop-k-preserved c =
    goes_on _ _ _ _ _ _ (drawn_for c.args.low c.args.high) _ (c.args.run.first + c.args.run.count) c.loop-k.k (omega arith) c.loop-k.invariant c.push_drawn.ensures

pub returns : goal.returns
returns c = goes_past _ _ _ _ (drawn_for c.args.low c.args.high) _ (c.args.run.first + c.args.run.count) c.loop-k.k (omega arith) c.loop-k.invariant
