use Rattle.std.proofs.Common.{◌≡◌, ℕ, ◌+◌, ◌<◌, ◌≤◌, List, [], ◌∷◌, get_or, length, arith, true, Bool, zero, suc}
use Rattle.std.specs.Char.{digit_value}
use Rattle.std.proofs.lemmas.Int.Digits.{digits_value_more}
use Rattle.std.proofs.lemmas.Bool.Decides.{nat_tests}
use Rattle.acc_grammar.specs.Runs.{EachPasses}
use Rattle.acc_lex.specs.ByteKinds.{is_digit}
use Rattle.acc_lex.proofs.texts.saturated.Goals as goal

passes_at : (test : ℕ → Bool) (bs : List ℕ) (i : ℕ) → i < length bs → EachPasses test bs → test (get_or bs i 0) ≡ true
passes_at test [] i h p = absurd (omega arith)
passes_at test (b ∷ bs) zero h p = p.0
passes_at test (b ∷ bs) (suc i) h p = passes_at test bs i (omega arith) p.1

digit_low : (b : ℕ) → is_digit b ≡ true → 48 ≤ b
digit_low b h = grind (arith, nat_tests)

digit_is : (b : ℕ) → is_digit b ≡ true → digit_value b + 48 ≡ b
digit_is b h = grind (arith, nat_tests)

pub overflow_sub-b : goal.overflow_sub-b
overflow_sub-b c = digit_low _ (passes_at is_digit c.args.digits.now c.loop-b.b-index c.loop-b-test.true c.requires)

pub loop-b-preserved : goal.loop-b-preserved
loop-b-preserved c =
    let d = digit_is (get_or c.args.digits.now c.loop-b.b-index 0)
    (passes_at is_digit c.args.digits.now c.loop-b.b-index c.loop-b-test.true c.requires) in
    let m = digits_value_more 10 c.args.digits.now c.loop-b.b-index c.loop-b-test.true in
    omega (arith, d, m)
