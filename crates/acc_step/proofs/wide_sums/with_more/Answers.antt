use Rattle.std.proofs.Common.{arith}
use Rattle.std.proofs.lemmas.Int.{ints}
use Rattle.acc_step.proofs.wide_sums.with_more.Goals as goal

pub returns-clause-amount : goal.returns-clause-amount
returns-clause-amount c =
    let e = c.carried.ensures.amount in
    let p = c.plus.ensures in
    omega (arith, ints)
