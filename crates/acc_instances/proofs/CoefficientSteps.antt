-- Coefficients that are collected one by one.
use Rattle.std.proofs.Common.{◌≡◌, ℕ, zero, suc, ◌<◌, ◌≤◌, Bool, true, false, cond, List, [], ◌∷◌, ◌++◌, length, get_or, set, Some, None}
use Rattle.std.proofs.Common.{refl, ap, sym, ◌∙◌, arith, ℤ, ◌+ℤ◌, if◌then◌else◌, nat_lt, ◌==◌}
use Rattle.std.specs.Prelude.{position}
use Rattle.std.specs.List.{position_or_len}
use Rattle.std.proofs.lemmas.Bool.Decides.{nat_tests}
use Rattle.std.proofs.lemmas.List.Quantifiers.{position-Some}
use Rattle.std.proofs.lemmas.List.Sums.{fails_before_first}
use Rattle.acc_instanced.specs.Coefficients.{Coefficient, with_coefficient, enlarged}

-- ---- the coefficient of a variable

abbrev pub at : ℕ → Coefficient → Bool
at u s = s.0 == u

all_fail : (u : ℕ) (ts : List Coefficient) (b : Bool) → nat_lt (position_or_len (at u) ts) (length ts) ≡ b →
    cond b (Some (position_or_len (at u) ts)) None ≡ None → (k : ℕ) (d : Coefficient) → k < length ts → at u (get_or ts k d) ≡ false
all_fail u ts true e h k d l = absurd (cc)
all_fail u ts false e h k d l =
    let past : length ts ≤ position_or_len (at u) ts = grind (arith, nat_tests) in
    fails_before_first (at u) ts k d (omega arith)

with_here : (t s : Coefficient) (ts : List Coefficient) (b : Bool) → at t.0 s ≡ b →
    with_coefficient t (s ∷ ts) ≡ (if b then ((s.0, s.1 +ℤ t.1) ∷ ts) else (s ∷ with_coefficient t ts))
with_here t s ts b e = ap (λ x. if x then ((s.0, s.1 +ℤ t.1) ∷ ts) else (s ∷ with_coefficient t ts)) e

enlarged_here : (t s : Coefficient) (ts : List Coefficient) (b : Bool) → at t.0 s ≡ b →
    enlarged t (s ∷ ts) ≡ (if b then s.1 +ℤ t.1 else enlarged t ts)
enlarged_here t s ts b e = ap (λ x. if x then s.1 +ℤ t.1 else enlarged t ts) e

module _ (t d : Coefficient) where
  set_at : (ts : List Coefficient) (i : ℕ) → i < length ts → at t.0 (get_or ts i d) ≡ true →
      ((k : ℕ) → k < i → at t.0 (get_or ts k d) ≡ false) → set ts i ((get_or ts i d).0, (get_or ts i d).1 +ℤ t.1) ≡ with_coefficient t ts
  set_at [] i l e f = absurd (omega arith)
  set_at (s ∷ ts) zero l e f = sym (with_here t s ts true e)
  set_at (s ∷ ts) (suc i) l e f =
      ap (λ us. s ∷ us) (set_at ts i (omega arith) e (λ k h. f (suc k) (omega arith))) ∙ sym (with_here t s ts false (f zero (omega arith)))

  enlarged_at : (ts : List Coefficient) (i : ℕ) → i < length ts → at t.0 (get_or ts i d) ≡ true →
      ((k : ℕ) → k < i → at t.0 (get_or ts k d) ≡ false) → enlarged t ts ≡ (get_or ts i d).1 +ℤ t.1
  enlarged_at [] i l e f = absurd (omega arith)
  enlarged_at (s ∷ ts) zero l e f = enlarged_here t s ts true e
  enlarged_at (s ∷ ts) (suc i) l e f =
      enlarged_here t s ts false (f zero (omega arith)) ∙ enlarged_at ts i (omega arith) e (λ k h. f (suc k) (omega arith))

  -- a coefficient whose variable stands there already
  pub set_found : (ts : List Coefficient) (i : ℕ) (c : ℤ) → position (at t.0) ts ≡ Some i → d ≡ get_or ts i d → c ≡ d.1 +ℤ t.1 →
      set ts i (d.0, c) ≡ with_coefficient t ts
  set_found ts i c p here sum =
      let q = position-Some (at t.0) ts i d p in
      ap (λ x. set ts i (d.0, x)) sum ∙ (ap (λ (x : Coefficient). set ts i (x.0, x.1 +ℤ t.1)) here ∙ set_at ts i q.0 q.1 q.2)

  pub enlarged_found : (ts : List Coefficient) (i : ℕ) (a b : ℤ) → position (at t.0) ts ≡ Some i → d ≡ get_or ts i d → a ≡ d.1 → b ≡ t.1 →
      enlarged t ts ≡ a +ℤ b
  enlarged_found ts i a b p here e f =
      let q = position-Some (at t.0) ts i d p in
      enlarged_at ts i q.0 q.1 q.2 ∙ (ap (λ (x : Coefficient). x.1 +ℤ t.1) (sym here) ∙
      (ap (λ (z : ℤ). z +ℤ t.1) (sym e) ∙ ap (λ (z : ℤ). a +ℤ z) (sym f)))

module _ (t : Coefficient) where
  push_last : (ts : List Coefficient) → ((k : ℕ) (d : Coefficient) → k < length ts → at t.0 (get_or ts k d) ≡ false) →
      ts ++ t ∷ [] ≡ with_coefficient t ts
  push_last [] f = refl
  push_last (s ∷ ts) f =
      ap (λ us. s ∷ us) (push_last ts (λ k d h. f (suc k) d (omega arith))) ∙ sym (with_here t s ts false (f zero s (omega arith)))

  enlarged_last : (ts : List Coefficient) → ((k : ℕ) (d : Coefficient) → k < length ts → at t.0 (get_or ts k d) ≡ false) →
      enlarged t ts ≡ t.1
  enlarged_last [] f = refl
  enlarged_last (s ∷ ts) f =
      enlarged_here t s ts false (f zero s (omega arith)) ∙ enlarged_last ts (λ k d h. f (suc k) d (omega arith))

  -- a coefficient whose variable is new
  pub push_new : (us ts : List Coefficient) (u : ℕ) (c : ℤ) → us ≡ ts ++ (u, c) ∷ [] → position (at t.0) ts ≡ None → u ≡ t.0 → c ≡ t.1 →
      us ≡ with_coefficient t ts
  push_new us ts u c g p e f =
      g ∙ (ap (λ (v : ℕ). ts ++ (v, c) ∷ []) e ∙ (ap (λ (z : ℤ). ts ++ (t.0, z) ∷ []) f ∙ push_last ts
      (all_fail t.0 ts (nat_lt (position_or_len (at t.0) ts) (length ts)) refl p)))

  pub enlarged_new : (ts : List Coefficient) (c : ℤ) → position (at t.0) ts ≡ None → c ≡ t.1 → enlarged t ts ≡ c
  enlarged_new ts c p f = enlarged_last ts (all_fail t.0 ts (nat_lt (position_or_len (at t.0) ts) (length ts)) refl p) ∙ sym f
