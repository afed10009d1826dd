-- Euclid's steps: how many are allowed doesn't matter once they are enough.
use Rattle.std.proofs.Common.{◌≡◌, ◌==◌, ◌%◌, ℕ, zero, suc, ◌<◌, Bool, true, false, refl, ap, sym, ◌∙◌, arith, if◌then◌else◌}
use Rattle.std.proofs.Math.Nat.{mod-lt}
use Rattle.std.proofs.lemmas.Bool.Decides.{nat_tests}
use Rattle.acc_rows.specs.Divisors.{divisor_within, divisor}

by_test : (t : Bool) (a x y : ℕ) → (t ≡ false → x ≡ y) → (if t then a else x) ≡ (if t then a else y)
by_test true a x y h = refl
by_test false a x y h = h refl

above : (b : ℕ) → (b == 0) ≡ false → 0 < b
above b e = grind (arith, nat_tests)

enough : (f g a b : ℕ) → b < f → b < g → divisor_within f a b ≡ divisor_within g a b
enough zero g a b p q = absurd (omega (arith, p))
enough (suc f) zero a b p q = absurd (omega (arith, q))
enough (suc f) (suc g) a b p q =
    by_test (b == 0) a (divisor_within f b (a % b)) (divisor_within g b (a % b)) (λ e.
    let h = mod-lt a (above b e) in
    enough f g b (a % b) (omega (arith, h, p)) (omega (arith, h, q)))

not_zero : (b : ℕ) → 0 < b → (b == 0) ≡ false
not_zero b h = grind (arith, nat_tests)

pub divisor_step : (a b : ℕ) → 0 < b → divisor b (a % b) ≡ divisor a b
divisor_step a b h =
    let m = mod-lt a h in
    enough (suc (a % b)) b b (a % b) (omega (arith)) m ∙ ap (λ t. if t then a else divisor_within b b (a % b)) (sym (not_zero b h))
