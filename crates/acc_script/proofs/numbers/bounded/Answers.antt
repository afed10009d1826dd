use Rattle.std.proofs.Common.{◌≡◌, arith}
use Rattle.acc_script.proofs.Decimals.{one_number}
use Rattle.acc_script.proofs.numbers.bounded.Goals as goal

pub returns-else-n-most : goal.returns-else-n-most
returns-else-n-most c = λ n low e.
    let same : c.in_ok-n.n ≡ n = one_number c.args.word.now c.in_ok-n.n n c.in_ok-n.ensures.0 (omega (arith, c.ranges.most.fits))
    c.in_ok-n.ensures.1 e in omega arith
