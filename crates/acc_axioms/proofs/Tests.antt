-- Tests of relations.
use Rattle.std.proofs.Common.{◌≡◌, Bool, true, false, List, ◌++◌, refl, ap, sym, ◌∙◌, arith, ℤ, subst}
use Rattle.std.specs.Prelude.{int_le, ◌&&◌, ◌≤ℤ◌}
use Rattle.std.specs.List.{list_all}
use Rattle.std.specs.Cmp.{first_so, second_so}
use Rattle.std.proofs.lemmas.Int.{ints}
use Rattle.std.proofs.lemmas.List.Folds.{list_all-append}
use borrow.Author.Differences.{le-false}
use lib.Signed.{le_z_yes}
use lib.Dec.{T}

pub le_yes : (a b : ℤ) → a ≤ℤ b → int_le a b ≡ true
le_yes a b h = by (int_le a b) refl
  where
    by : (v : Bool) → int_le a b ≡ v → int_le a b ≡ true
    by true e = e
    by false e = let over = le-false a b e in absurd (omega (arith, ints, over, h))

pub le_from : (a b : ℤ) → int_le a b ≡ true → a ≤ℤ b
le_from a b e = le_z_yes (subst T (sym e) tt)

pub both_true : (a b : Bool) → a ≡ true → b ≡ true → (a && b) ≡ true
both_true a b g h = ap (λ x. x && b) g ∙ h

pub and_true : (a b : Bool) → (a && b) ≡ true → (a ≡ true) × (b ≡ true)
and_true a b h = (first_so a b h, second_so a b h)

pub off_true : (b : Bool) → (b ≡ true → ⊥) → b ≡ false
off_true true h = absurd (h refl)
off_true false h = refl

pub all_both : {A : Type 0} (P : A → Bool) (xs ys : List A) → list_all P xs ≡ true → list_all P ys ≡ true → list_all P (xs ++ ys) ≡ true
all_both P xs ys g h = list_all-append P xs ys ∙ both_true (list_all P xs) (list_all P ys) g h
