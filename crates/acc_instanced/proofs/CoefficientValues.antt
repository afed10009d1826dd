-- What coefficients are worth as they are collected.
use Rattle.std.proofs.Common.{◌≡◌, ℕ, Bool, true, false, cond, List, [], ◌∷◌, map, refl, ap, ◌∙◌, arith, ℤ, pos, ◌+ℤ◌, ◌*ℤ◌, if◌then◌else◌}
use Rattle.std.proofs.Common.{not, ◌==◌}
use Rattle.std.specs.Prelude.{filter}
use Rattle.std.specs.Ordering.{int_eq}
use Rattle.std.proofs.lemmas.Int.{ints}
use Rattle.std.proofs.lemmas.Bool.Decides.{Decides-int_eq, Decides-eqb}
use lib.IntN.{zero-*ℤ}
use Rattle.acc_base.specs.Numbers.{total}
use Rattle.acc_base.specs.Linear.{var, term_value}
use Rattle.acc_base.proofs.Products.{sum_times}
use Rattle.acc_instanced.specs.Coefficients.{Coefficient, with_coefficient, with_coefficients, counts}

module _ (env : List ℤ) where
  abbrev pub worth : List Coefficient → ℤ
  worth cs = total (map (term_value env) cs)

  pub worth-with : (c : Coefficient) (cs : List Coefficient) → worth (with_coefficient c cs) ≡ worth cs +ℤ term_value env c
  worth-with c [] = omega (arith, ints)
  worth-with c (s ∷ rest) = by (s.0 == c.0) refl (worth-with c rest)
    where
      by : (b : Bool) → (s.0 == c.0) ≡ b → worth (with_coefficient c rest) ≡ worth rest +ℤ term_value env c →
          worth (if b then ((s.0, s.1 +ℤ c.1) ∷ rest) else (s ∷ with_coefficient c rest)) ≡ worth (s ∷ rest) +ℤ term_value env c
      by true e h =
          let both = sum_times s.1 c.1 (var env s.0) in
          let same = ap (λ (u : ℕ). c.1 *ℤ var env u) ((Decides-eqb s.0 c.0).0 e) in
          omega (arith, ints, both, same)
      by false e h = omega (arith, ints, h)

  pub worth-all : (sums cs : List Coefficient) → worth (with_coefficients sums cs) ≡ worth sums +ℤ worth cs
  worth-all sums [] = omega (arith, ints)
  worth-all sums (c ∷ cs) =
      let h = worth-all (with_coefficient c sums) cs in
      let one = worth-with c sums in
      omega (arith, ints, h, one)

  pub worth-left : (cs : List Coefficient) → worth (filter counts cs) ≡ worth cs
  worth-left [] = refl
  worth-left (c ∷ cs) = by (int_eq c.1 (pos 0)) refl (worth-left cs)
    where
      by : (b : Bool) → int_eq c.1 (pos 0) ≡ b → worth (filter counts cs) ≡ worth cs →
          worth (cond (not b) (c ∷ filter counts cs) (filter counts cs)) ≡ worth (c ∷ cs)
      by true e h =
          let none = ap (λ z. z *ℤ var env c.0) ((Decides-int_eq c.1 (pos 0)).0 e) ∙ zero-*ℤ (var env c.0) in
          omega (arith, ints, h, none)
      by false e h = ap (λ z. term_value env c +ℤ z) h
