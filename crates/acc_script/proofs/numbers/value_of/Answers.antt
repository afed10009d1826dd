use Rattle.std.proofs.Common.{arith, get_or}
use Rattle.std.proofs.lemmas.Int.Digits.{digits_value_more}
use Rattle.acc_script.proofs.Decimals.{digit_at, digit_low, digit_is, value_grows}
use Rattle.acc_script.proofs.numbers.value_of.Goals as goal

pub overflow_sub-b : goal.overflow_sub-b
overflow_sub-b c = digit_low _ (digit_at c.args.digits.now c.loop-b.b-index c.loop-b-test.true c.requires)

pub returns-in_err-checked_mul : goal.returns-in_err-checked_mul
returns-in_err-checked_mul c = rw c.from_residual.ensures
    (omega (arith, value_grows c.args.digits.now c.loop-b.b-index c.loop-b-test.true, c.in_err-checked_mul.ensures))

pub returns-in_err-value : goal.returns-in_err-value
returns-in_err-value c =
    let d = digit_is (get_or c.args.digits.now c.loop-b.b-index 0)
    (digit_at c.args.digits.now c.loop-b.b-index c.loop-b-test.true c.requires) in
    rw c.from_residual-in_err-value.ensures (omega (
      arith,
      d,
      value_grows c.args.digits.now c.loop-b.b-index c.loop-b-test.true,
      c.in_err-value.ensures,
    ))

pub loop-b-preserved : goal.loop-b-preserved
loop-b-preserved c =
    let d = digit_is (get_or c.args.digits.now c.loop-b.b-index 0)
    (digit_at c.args.digits.now c.loop-b.b-index c.loop-b-test.true c.requires) in
    let m = digits_value_more 10 c.args.digits.now c.loop-b.b-index c.loop-b-test.true in
    record { is = omega (arith, d, m); fits = omega arith }
