-- Collected terms that are worth the same whatever the unknowns are worth are all 0.
use Rattle.std.proofs.Common.{◌≡◌, ◌==◌, ℕ, Bool, true, false, List, [], ◌∷◌, refl, sym, ap, ◌∙◌, arith, ℤ, pos, ◌+ℤ◌, ◌*ℤ◌}
use Rattle.std.proofs.Common.{if◌then◌else◌}
use Rattle.std.specs.Prelude.{All}
use Rattle.std.specs.Option.{option_map_or}
use Rattle.std.proofs.lemmas.Int.{ints}
use Rattle.std.proofs.lemmas.Bool.Decides.{nat_tests}
use Rattle.std.proofs.lemmas.List.Elements.{All-nil, All-cons, All-head, All-tail}
use lib.IntN.{*ℤ-zero, zero-*ℤ}
use Rattle.acc_base.specs.declared.forms.Unknown.{Unknown}
use Rattle.acc_base.specs.Collecting.{worth}
use Rattle.acc_base.specs.UnknownEquality.{unknown_eq, unknown_decides, is_bare_one}
use Rattle.acc_base.specs.Sums.{Term, with_term}
use Rattle.acc_elim_readings.specs.Readings.{place_of}
use Rattle.acc_elim_points.specs.FalseConstants.{numbered}
use Rattle.acc_elim_readings.proofs.Names.{Stands, number_in, numbered_place, numbers_tell_apart}

-- ---- collected terms are of different unknowns

-- no unknown has two terms
abbrev Others : Unknown → List Term → Type 0
Others u ts = All (λ t. t.0 ≡ u → ⊥) ts

abbrev pub Distinct : List Term → Type 0
Distinct [] = Unit {0}
Distinct (t ∷ ts) = Others t.0 ts × Distinct ts

differ : (u w : Unknown) → unknown_eq u w ≡ false → u ≡ w → ⊥
differ u w e same = let h = (unknown_decides u w).1 same in cc

-- what holds of each term's unknown holds of those with one more term
all_with : (P : Unknown → Type 0) (t : Term) (ts : List Term) → P t.0 → All (λ s. P s.0) ts → All (λ s. P s.0) (with_term t ts)
all_with P t [] h all = All-cons (λ s. P s.0) t [] h (All-nil (λ s. P s.0))
all_with P t (s ∷ ts) h all =
    by (unknown_eq s.0 t.0) (All-head (λ s. P s.0) s ts all) (All-tail (λ s. P s.0) s ts all)
    (all_with P t ts h (All-tail (λ s. P s.0) s ts all))
  where
    by : (b : Bool) → P s.0 → All (λ s. P s.0) ts → All (λ s. P s.0) (with_term t ts)
        → All (λ s. P s.0) (if b then ((s.0, s.1 +ℤ t.1) ∷ ts) else (s ∷ with_term t ts))
    by true here rest more = All-cons (λ s. P s.0) (s.0, s.1 +ℤ t.1) ts here rest
    by false here rest more = All-cons (λ s. P s.0) s (with_term t ts) here more

pub distinct_with : (t : Term) (ts : List Term) → Distinct ts → Distinct (with_term t ts)
distinct_with t [] d = (All-nil (λ s. s.0 ≡ t.0 → ⊥), tt)
distinct_with t (s ∷ ts) d = by (unknown_eq s.0 t.0) refl (distinct_with t ts d.1)
  where
    by : (b : Bool) → unknown_eq s.0 t.0 ≡ b → Distinct (with_term t ts)
        → Distinct (if b then ((s.0, s.1 +ℤ t.1) ∷ ts) else (s ∷ with_term t ts))
    by true e more = (d.0, d.1)
    by false e more = (all_with (λ u. u ≡ s.0 → ⊥) t ts (λ same. differ s.0 t.0 e (sym same)) d.0, more)

-- ---- terms of unknowns that have numbers

module _ (names : List Unknown) where
  abbrev Counts : Unknown → Type 0
  Counts u = (is_bare_one u ≡ false) × Stands u names

  abbrev pub Fine : Term → Type 0
  Fine t = Counts t.0

  pub fine_with : (t : Term) (ts : List Term) → Fine t → All Fine ts → All Fine (with_term t ts)
  fine_with t ts h all = all_with Counts t ts h all

  value_is : (f : ℕ → ℤ) (u : Unknown) → Counts u → numbered f names u ≡ f (number_in names u)
  value_is f u counts =
      ap (λ b. if b then pos 1 else option_map_or f (place_of names u) (pos 0)) counts.0
      ∙ ap (λ place. option_map_or f place (pos 0)) (numbered_place names u counts.1)

  -- ---- terms that are worth the same at all worths

  pub all_nothing : (ts : List Term) → All Fine ts → worth (numbered (λ _. pos 0) names) ts ≡ pos 0
  all_nothing [] all = refl
  all_nothing (t ∷ ts) all =
      let h = all_nothing ts (All-tail Fine t ts all) in
      let none = ap (λ z. t.1 *ℤ z) (value_is (λ _. pos 0) t.0 (All-head Fine t ts all)) ∙ *ℤ-zero t.1 in
      omega (arith, ints, h, none)

  abbrev only : ℕ → ℕ → ℤ
  only n i = if i == n then pos 1 else pos 0

  test_same : (n : ℕ) → (n == n) ≡ true
  test_same n = grind (arith, nat_tests)

  test_other : (i n : ℕ) → (i ≡ n → ⊥) → (i == n) ≡ false
  test_other i n h = grind (arith, nat_tests, h)

  once : (x : ℤ) → x *ℤ pos 1 ≡ x
  once x = omega (arith, ints)

  others_nothing : (u : Unknown) (ts : List Term) → Stands u names → All Fine ts → Others u ts
      → worth (numbered (only (number_in names u)) names) ts ≡ pos 0
  others_nothing u [] s all d = refl
  others_nothing u (t ∷ ts) s all d =
      let h = others_nothing u ts s (All-tail Fine t ts all) (All-tail (λ t. t.0 ≡ u → ⊥) t ts d) in
      let fine = All-head Fine t ts all in
      let apart = test_other (number_in names t.0) (number_in names u) (λ e.
      All-head (λ t. t.0 ≡ u → ⊥) t ts d (numbers_tell_apart names t.0 u fine.1 s e)) in
      let value = value_is (only (number_in names u)) t.0 fine ∙ ap (λ b. if b then pos 1 else pos 0) apart in
      let none = ap (λ z. t.1 *ℤ z) value ∙ *ℤ-zero t.1 in
      omega (arith, ints, h, none)

  pub nothing_left : (ts : List Term) (k : ℤ) → All Fine ts → Distinct ts → ((f : ℕ → ℤ) → worth (numbered f names) ts ≡ k)
      → All (λ t. t.1 ≡ pos 0) ts
  nothing_left [] k all d h = All-nil (λ t. t.1 ≡ pos 0)
  nothing_left (t ∷ ts) k all d h =
      let fine = All-head Fine t ts all in
      let others = All-tail Fine t ts all in
      let first = h (λ _. pos 0) in
      let none = all_nothing (t ∷ ts) all in
      let one = h (only (number_in names t.0)) in
      let rest = others_nothing t.0 ts fine.1 others d.0 in
      let value = value_is (only (number_in names t.0)) t.0 fine
      ∙ ap (λ b. if b then pos 1 else pos 0) (test_same (number_in names t.0)) in
      let here = ap (λ z. t.1 *ℤ z) value ∙ once t.1 in
      let is_zero : t.1 ≡ pos 0 = omega (arith, ints, first, none, one, rest, here) in
      All-cons (λ t. t.1 ≡ pos 0) t ts is_zero (nothing_left ts k others d.1 (λ f. without f is_zero (h f)))
    where
      without : (f : ℕ → ℤ) → t.1 ≡ pos 0 → worth (numbered f names) (t ∷ ts) ≡ k → worth (numbered f names) ts ≡ k
      without f e g =
          let gone = ap (λ z. z *ℤ numbered f names t.0) e ∙ zero-*ℤ (numbered f names t.0) in
          omega (arith, ints, gone, g)
