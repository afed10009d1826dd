use Rattle.std.proofs.Common.{◌∙◌, ◌<◌, arith}
use Rattle.acc_rows.proofs.DivisorSteps.{divisor_step}
use Rattle.acc_rows.proofs.divisors.divisor.Goals as goal

pub loop-b-preserved : goal.loop-b-preserved
loop-b-preserved c =
    let above : 0 < c.loop-b.b = grind arith in
    divisor_step c.loop-b.a c.loop-b.b above ∙ c.loop-b.invariant
