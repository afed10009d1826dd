use Rattle.std.proofs.Common.{◌≡◌, ◌∷◌, arith}
use Rattle.acc_script.proofs.Decimals.{no_negative, one_number}
use Rattle.acc_script.proofs.numbers.integer.Goals as goal

pub returns-in_err-n-in-Some-eq45-default : goal.returns-in_err-n-in-Some-eq45-default
returns-in_err-n-in-Some-eq45-default c =
    let w : c.args.word.now ≡ 45 ∷ c.in-Some-eq45-default.digits.now = grind arith in
    rw c.from_residual.ensures (no_negative c.args.word.now c.in-Some-eq45-default.digits.now w
    (λ n low some e. c.in_err-n-in-Some-eq45-default.ensures n low e))

pub returns-in-0 : goal.returns-in-0
returns-in-0 c =
    let w : c.args.word.now ≡ 45 ∷ c.in-Some-eq45-default.digits.now = grind arith in
    no_negative c.args.word.now c.in-Some-eq45-default.digits.now w (λ n low some e.
    let same : c.in_ok-n-in-Some-eq45-default.n ≡ n =
    one_number c.in-Some-eq45-default.digits.now c.in_ok-n-in-Some-eq45-default.n n (omega arith) (omega arith)
    c.in_ok-n-in-Some-eq45-default.ensures.1 e in omega arith)
