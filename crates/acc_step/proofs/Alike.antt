-- Numbers that are the same or both far from 0 on the same side: each is in range, is 0 or is at most 0 where the other is.
use Rattle.std.proofs.Common.{◌≡◌, Bool, true, false, ap, sym, ◌∙◌, refl, arith, ℤ, pos, negsuc, ◌<ℤ◌, ◌^◌, inl, inr, Some, None}
use Rattle.std.proofs.Common.{if◌then◌else◌}
use Rattle.std.specs.Prelude.{int_le, Decides}
use Rattle.std.specs.Ordering.{int_eq}
use Rattle.std.proofs.lemmas.Int.{ints}
use Rattle.std.proofs.lemmas.Bool.Decides.{nat_tests, Decides-int_eq}
use Rattle.acc_base.specs.Numbers.{is_small}
use Rattle.acc_base.specs.Linear.{meets}
use Rattle.acc_step.specs.InRange.{if_small}
use Rattle.acc_step.specs.WideSums.{AreAlike}

above_small : (x : ℤ) → pos (2 ^ 46) <ℤ x → is_small x ≡ false
above_small (pos n) h = grind (arith, ints, nat_tests)
above_small (negsuc n) h = absurd (omega (arith, ints))

below_small : (x : ℤ) → x <ℤ negsuc (2 ^ 46) → is_small x ≡ false
below_small (pos n) h = absurd (omega (arith, ints))
below_small (negsuc n) h = grind (arith, ints, nat_tests)

if_not : (b : Bool) (x : ℤ) → b ≡ false → (if b then Some x else None) ≡ None
if_not b x h = ap (λ (c : Bool). if c then Some x else None) h

pub alike_if_small : (x v : ℤ) → AreAlike x v → if_small x ≡ if_small v
alike_if_small x v (inl same) = ap if_small same
alike_if_small x v (inr (inl far)) = if_not (is_small x) x (above_small x far.0) ∙ sym (if_not (is_small v) v (above_small v far.1))
alike_if_small x v (inr (inr far)) = if_not (is_small x) x (below_small x far.0) ∙ sym (if_not (is_small v) v (below_small v far.1))

not_zero : (x : ℤ) → (x ≡ pos 0 → ⊥) → int_eq x (pos 0) ≡ false
not_zero x n = by (int_eq x (pos 0)) (Decides-int_eq x (pos 0))
  where
    by : (b : Bool) → Decides b (x ≡ pos 0) → b ≡ false
    by true d = absurd (n (d.0 refl))
    by false d = refl

above_zero : (x : ℤ) → pos (2 ^ 46) <ℤ x → int_le x (pos 0) ≡ false
above_zero (pos n) h = grind (arith, ints, nat_tests)
above_zero (negsuc n) h = absurd (omega (arith, ints))

below_zero : (x : ℤ) → x <ℤ negsuc (2 ^ 46) → int_le x (pos 0) ≡ true
below_zero (pos n) h = absurd (omega (arith, ints))
below_zero (negsuc n) h = refl

pub alike_meets : (equal : Bool) (x v : ℤ) → AreAlike x v → meets equal x ≡ meets equal v
alike_meets equal x v (inl same) = ap (meets equal) same
alike_meets true x v (inr (inl far)) = not_zero x (λ e. omega (arith, ints)) ∙ sym (not_zero v (λ e. omega (arith, ints)))
alike_meets true x v (inr (inr far)) = not_zero x (λ e. omega (arith, ints)) ∙ sym (not_zero v (λ e. omega (arith, ints)))
alike_meets false x v (inr (inl far)) = above_zero x far.0 ∙ sym (above_zero v far.1)
alike_meets false x v (inr (inr far)) = below_zero x far.0 ∙ sym (below_zero v far.1)
