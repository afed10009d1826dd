use Rattle.std.proofs.Common.{pos, arith}
use Rattle.acc_base.specs.Linear.{term_value}
use Rattle.acc_step.specs.Variables.{values_of}
use Rattle.acc_step.specs.WideSums.{amount}
use Rattle.acc_step.proofs.Sums.{sum_step}
use Rattle.acc_step.proofs.values.terms_sum.Goals as goal

pub loop-term-preserved : goal.loop-term-preserved
loop-term-preserved c =
    let env = values_of c.args.variables.now in
    let i = c.loop-term.invariant in
    let h = c.with_term-sum.ensures in
    record {
      whole = sum_step (term_value env) c.args.terms.now c.loop-term.term-index (0, pos 0) (amount c.loop-term.sum)
          (amount c.with_term-sum.result) _ c.loop-term-test.true i.whole h.amount;
      carries = omega arith;
      rest = h.rest;
    }
