use Rattle.std.proofs.Common.{true}
use Rattle.acc_journalled.proofs.Verdicts.{AreTried}
use Rattle.acc_bench.proofs.conditions.lowest_false.Given as goal

abbrev pub invariant-loop-at : goal.invariant-loop-at
invariant-loop-at l = AreTried l.s l.rows.rows l.at true
