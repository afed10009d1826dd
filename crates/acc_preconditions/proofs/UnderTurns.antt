-- Where linear values that have to be 0 are all 0.
use Rattle.std.proofs.Common.{◌≡◌, ℕ, Bool, true, false, List, [], ◌∷◌, ◌++◌, length, map, refl, ap, sym, ◌∙◌, arith, ℤ, pos, ◌+ℤ◌}
use Rattle.std.proofs.Common.{if◌then◌else◌, ◌==◌, not, ◌||◌}
use Rattle.std.specs.Prelude.{◌&&◌}
use Rattle.std.specs.List.{list_any}
use Rattle.std.specs.Ordering.{int_eq}
use Rattle.std.proofs.lemmas.Int.{ints}
use Rattle.std.proofs.lemmas.Bool.Decides.{Decides-int_eq, Decides-eqb}
use Rattle.acc_base.specs.declared.forms.Lin.{Lin}
use Rattle.acc_base.specs.FormEquality.{lin_eq, lin_decides}
use Rattle.acc_base.specs.Numbers.{total}
use Rattle.acc_base.specs.Linear.{term_value, lin_value}
use Rattle.acc_base.specs.Truth.{is_lin_zero}
use Rattle.acc_instanced.proofs.SummandValues.{all_zero}
use Rattle.acc_preconditions.specs.Unders.{is_constant, is_zero, is_false, with_under, lengthened}

module _ (env : List ℤ) where
  -- a constant's value
  constant_value : (l : Lin) → is_constant l ≡ true → lin_value env l ≡ l.constant
  constant_value l h = by l.coeffs h
    where
      by : (cs : List (ℕ × ℤ)) → (length cs == 0) ≡ true → total (map (term_value env) cs) +ℤ l.constant ≡ l.constant
      by [] e = omega (arith, ints)
      by (c ∷ cs) e = let z = (Decides-eqb (length (c ∷ cs)) 0).0 e in absurd (omega (arith, z))

  and_true : (x y : Bool) → (x && y) ≡ true → (x ≡ true) × (y ≡ true)
  and_true true y h = (refl, h)
  and_true false y h = absurd (cc)

  zero_is : (l : Lin) → is_zero l ≡ true → is_lin_zero env l ≡ true
  zero_is l h =
      let parts = and_true (is_constant l) (int_eq l.constant (pos 0)) h in
      (Decides-int_eq (lin_value env l) (pos 0)).1 (constant_value l parts.0 ∙ (Decides-int_eq l.constant (pos 0)).0 parts.1)

  false_is : (l : Lin) → is_false l ≡ true → is_lin_zero env l ≡ false
  false_is l h =
      let parts = and_true (is_constant l) (not (int_eq l.constant (pos 0))) h in
      ap (λ z. int_eq z (pos 0)) (constant_value l parts.0) ∙ by (int_eq l.constant (pos 0)) parts.1
    where
      by : (b : Bool) → not b ≡ true → b ≡ false
      by true e = absurd (cc)
      by false e = refl

  -- a list with a false one is never all 0
  pub never_zero : (ls : List Lin) → list_any is_false ls ≡ true → all_zero env ls ≡ false
  never_zero [] h = absurd (cc)
  never_zero (l ∷ ls) h = by (is_false l) refl h (never_zero ls)
    where
      off : (b c : Bool) → c ≡ false → (b && c) ≡ false
      off true c e = e
      off false c e = refl

      by : (b : Bool) → is_false l ≡ b → (b || list_any is_false ls) ≡ true → (list_any is_false ls ≡ true → all_zero env ls ≡ false) →
          (is_lin_zero env l && all_zero env ls) ≡ false
      by true e h ih = ap (λ x. x && all_zero env ls) (false_is l e)
      by false e h ih = off (is_lin_zero env l) (all_zero env ls) (ih h)

  -- one that stands there is 0 where all are
  among : (d : Lin) (ls : List Lin) → list_any (λ l. lin_eq l d) ls ≡ true → all_zero env ls ≡ (all_zero env ls && is_lin_zero env d)
  among d [] h = absurd (cc)
  among d (l ∷ ls) h = by (lin_eq l d) refl h (among d ls)
    where
      twice : (b c : Bool) → (b && c) ≡ ((b && c) && b)
      twice true true = refl
      twice true false = refl
      twice false c = refl

      and_assoc : (b c x : Bool) → (b && (c && x)) ≡ ((b && c) && x)
      and_assoc true c x = refl
      and_assoc false c x = refl

      by : (b : Bool) → lin_eq l d ≡ b → (b || list_any (λ y. lin_eq y d) ls) ≡ true →
          (list_any (λ y. lin_eq y d) ls ≡ true → all_zero env ls ≡ (all_zero env ls && is_lin_zero env d)) →
          (is_lin_zero env l && all_zero env ls) ≡ ((is_lin_zero env l && all_zero env ls) && is_lin_zero env d)
      by true e h ih =
          twice (is_lin_zero env l) (all_zero env ls) ∙ ap (λ (y : Lin). (is_lin_zero env l && all_zero env ls) && is_lin_zero env y)
          ((lin_decides l d).0 e)
      by false e h ih =
          ap (λ x. is_lin_zero env l && x) (ih h) ∙ and_assoc (is_lin_zero env l) (all_zero env ls) (is_lin_zero env d)

  behind : (d : Lin) (ls : List Lin) → all_zero env (ls ++ d ∷ []) ≡ (all_zero env ls && is_lin_zero env d)
  behind d [] = by (is_lin_zero env d)
    where
      by : (b : Bool) → (b && true) ≡ b
      by true = refl
      by false = refl
  behind d (l ∷ ls) =
      ap (λ x. is_lin_zero env l && x) (behind d ls) ∙ by (is_lin_zero env l) (all_zero env ls) (is_lin_zero env d)
    where
      by : (b c x : Bool) → (b && (c && x)) ≡ ((b && c) && x)
      by true c x = refl
      by false c x = refl

  with_zero : (d : Lin) (ls : List Lin) → all_zero env (with_under d ls) ≡ (all_zero env ls && is_lin_zero env d)
  with_zero d ls = by (is_zero d) refl (list_any (λ l. lin_eq l d) ls) refl
    where
      same : (b : Bool) → b ≡ (b && true)
      same true = refl
      same false = refl

      by : (b : Bool) → is_zero d ≡ b → (c : Bool) → list_any (λ l. lin_eq l d) ls ≡ c →
          all_zero env (if b || c then ls else (ls ++ d ∷ [])) ≡ (all_zero env ls && is_lin_zero env d)
      by true e c h = same (all_zero env ls) ∙ ap (λ x. all_zero env ls && x) (sym (zero_is d e))
      by false e true h = among d ls h
      by false e false h = behind d ls

  pub lengthened_zero : (under ds : List Lin) → all_zero env (lengthened under ds) ≡ (all_zero env under && all_zero env ds)
  lengthened_zero under [] = by (all_zero env under)
    where
      by : (b : Bool) → b ≡ (b && true)
      by true = refl
      by false = refl
  lengthened_zero under (d ∷ ds) =
      lengthened_zero (with_under d under) ds ∙ (ap (λ x. x && all_zero env ds) (with_zero d under) ∙ by (all_zero env under)
      (is_lin_zero env d) (all_zero env ds))
    where
      by : (b c x : Bool) → ((b && c) && x) ≡ (b && (c && x))
      by true c x = refl
      by false c x = refl
