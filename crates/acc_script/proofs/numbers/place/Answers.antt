use Rattle.std.proofs.Common.{◌≡◌, arith}
use Rattle.acc_script.proofs.Decimals.{one_number}
use Rattle.acc_script.proofs.numbers.place.Goals as goal

pub returns-else-k-ge1 : goal.returns-else-k-ge1
returns-else-k-ge1 c = λ k place e.
    let same : c.in_ok-k.k ≡ k = one_number c.args.word.now c.in_ok-k.k k c.in_ok-k.ensures.0 (omega arith) c.in_ok-k.ensures.1 e in
    omega arith
