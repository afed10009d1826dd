use Rattle.std.proofs.Common.{arith}
use Rattle.acc_bench.proofs.Lowest.{none_false}
use Rattle.acc_bench.proofs.conditions.lowest_false.Goals as goal

-- each was tried
pub returns : goal.returns
returns c =
    none_false c.args.s.now c.args.rows.now.rows c.loop-at.at (omega (arith, c.loop-at.auto.at-end, c.loop-at-test.false))
    c.loop-at.invariant
