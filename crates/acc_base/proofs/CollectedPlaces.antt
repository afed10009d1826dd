-- The places of unknowns among the sums, and what becomes of them with one more.
use Rattle.std.proofs.Common.{◌≡◌, ℕ, zero, suc, ◌<◌, Bool, true, false, cond, List, [], ◌∷◌, ◌++◌, length, get_or, set, Option, Some}
use Rattle.std.proofs.Common.{None, refl, sym, ap, ◌∙◌, inl, inr, arith, ℤ, ◌+ℤ◌, pos, Bor, if◌then◌else◌}
use Rattle.std.specs.Prelude.{Decides, option_map, IfSome}
use Rattle.std.specs.declared.cmp.Ordering.{Ordering}
use Rattle.std.specs.Ordering.{is_eq}
use Rattle.std.specs.BTreeMap.{BTreeMap, Updates}
use Rattle.std.proofs.lemmas.Bool.{cases_Bool}
use Rattle.std.proofs.lemmas.Int.{ints}
use Rattle.std.proofs.lemmas.List.{map_push, length-map}
use Rattle.acc_base.specs.Collecting.{sum_of, place_of, with_sum, with_term, sums_in, Tracks}

-- a place in a list, by the test of the first
past : (b : Bool) (o : Option ℕ) (i : ℕ) → cond b (Some 0) (option_map suc o) ≡ Some (suc i) → (b ≡ false) × (o ≡ Some i)
past true o i e = absurd (cc)
past false None i e = absurd (cc)
past false (Some j) i e = (refl, cc)

first : (b : Bool) (o : Option ℕ) → cond b (Some 0) (option_map suc o) ≡ Some zero → b ≡ true
first true o e = refl
first false None e = absurd (cc)
first false (Some j) e = absurd (cc)

nowhere : (b : Bool) (o : Option ℕ) → cond b (Some 0) (option_map suc o) ≡ None → (b ≡ false) × (o ≡ None)
nowhere true o e = absurd (cc)
nowhere false None e = (refl, refl)
nowhere false (Some j) e = absurd (cc)

module _ {K : Type 0} (E : K → K → Bool) where
  -- an unknown's place is one of theirs
  pub place_within : (x : K) (ts : List (K × ℤ)) (i : ℕ) → place_of E x ts ≡ Some i → i < length ts
  place_within x [] i e = absurd (cc)
  place_within x (t ∷ ts) zero e = omega arith
  place_within x (t ∷ ts) (suc i) e =
      let h = place_within x ts i (past (E t.0 x) (place_of E x ts) i e).1 in
      omega arith

  pub is_within : (x : K) (ts : List (K × ℤ)) (o : Option ℕ) → o ≡ place_of E x ts → IfSome o (λ i. i < length ts)
  is_within x ts None e = tt
  is_within x ts (Some i) e = place_within x ts i (sym e)

  -- the sum at an unknown's place is its sum
  pub sum_there : (x : K) (ss : List (Bor K × ℤ)) (i : ℕ) (d : Bor K × ℤ) → place_of E x (sums_in ss) ≡ Some i
      → sum_of E x (sums_in ss) ≡ (get_or ss i d).1
  sum_there x [] i d e = absurd (cc)
  sum_there x (t ∷ ss) zero d e = rw (first (E t.0.now x) (place_of E x (sums_in ss)) e) refl
  sum_there x (t ∷ ss) (suc i) d e =
      let p = past (E t.0.now x) (place_of E x (sums_in ss)) i e in
      rw p.0 (sum_there x ss i d p.1)

  pub sum_at : (x : K) (ts : List (K × ℤ)) (ss : List (Bor K × ℤ)) (i : ℕ) (d : Bor K × ℤ) → sums_in ss ≡ ts → Some i ≡ place_of E x ts
      → d ≡ get_or ss i d → d.1 ≡ sum_of E x ts
  sum_at x ts ss i d view e this =
      ap (λ u. u.1) this ∙ sym (sum_there x ss i d (ap (place_of E x) view ∙ sym e)) ∙ ap (sum_of E x) view

  pub sum_new : (x : K) (ts : List (K × ℤ)) → place_of E x ts ≡ None → sum_of E x ts ≡ pos 0
  sum_new x [] e = refl
  sum_new x (t ∷ ts) e =
      let p = nowhere (E t.0 x) (place_of E x ts) e in
      rw p.0 (sum_new x ts p.1)

  -- a sum that is written at an unknown's place
  pub written_there : (x : K) (n : ℤ) (ss : List (Bor K × ℤ)) (i : ℕ) (d : Bor K × ℤ) (r : Bor K) (s : ℤ)
      → place_of E x (sums_in ss) ≡ Some i
      → r.now ≡ (get_or ss i d).0.now → s ≡ n → sums_in (set ss i (r, s)) ≡ with_sum E x n (sums_in ss)
  written_there x n [] i d r s e same sum = absurd (cc)
  written_there x n (t ∷ ss) zero d r s e same sum =
      rw (first (E t.0.now x) (place_of E x (sums_in ss)) e) (λ j. (same j, sum j) ∷ sums_in ss)
  written_there x n (t ∷ ss) (suc i) d r s e same sum =
      let p = past (E t.0.now x) (place_of E x (sums_in ss)) i e in
      rw p.0 (ap (λ us. (t.0.now, t.1) ∷ us) (written_there x n ss i d r s p.1 same sum))

  pub written_at : (x : K) (n : ℤ) (ts : List (K × ℤ)) (ss : List (Bor K × ℤ)) (i : ℕ) (t : Bor K × ℤ) (s : ℤ) → sums_in ss ≡ ts
      → Some i ≡ place_of E x ts → t ≡ get_or ss i t → s ≡ n → sums_in (set ss i (t.0, s)) ≡ with_sum E x n ts
  written_at x n ts ss i t s view e this same =
      written_there x n ss i t t.0 s (ap (place_of E x) view ∙ sym e) (ap (λ u. u.0.now) this) same ∙ ap (with_sum E x n) view

  -- leaves the unknowns where they are
  pub kept_there : (y : K) (ss : List (Bor K × ℤ)) (i : ℕ) (d : Bor K × ℤ) (r : Bor K) (s : ℤ) → r.now ≡ (get_or ss i d).0.now
      → place_of E y (sums_in ss) ≡ place_of E y (sums_in (set ss i (r, s)))
  kept_there y [] i d r s same = refl
  kept_there y (t ∷ ss) zero d r s same =
      ap (λ k. if E k y then Some 0 else option_map suc (place_of E y (sums_in ss))) (sym same)
  kept_there y (t ∷ ss) (suc i) d r s same =
      ap (λ o. if E t.0.now y then Some 0 else option_map suc o) (kept_there y ss i d r s same)

  -- a new unknown comes last
  pub written_last : (x : K) (n : ℤ) (ts : List (K × ℤ)) → place_of E x ts ≡ None → ts ++ (x, n) ∷ [] ≡ with_sum E x n ts
  written_last x n [] e = refl
  written_last x n (t ∷ ts) e =
      let p = nowhere (E t.0 x) (place_of E x ts) e in
      rw p.0 (ap (λ us. t ∷ us) (written_last x n ts p.1))

  pub pushed : (ss us : List (Bor K × ℤ)) (r : Bor K) (m n : ℤ) → us ≡ ss ++ (r, m) ∷ [] → m ≡ n
      → sums_in us ≡ sums_in ss ++ (r.now, n) ∷ []
  pushed ss us r m n e same =
      ap sums_in e ∙ (map_push (λ t. (t.0.now, t.1)) ss (r, m) ∙ ap (λ z. sums_in ss ++ (r.now, z) ∷ []) same)

  -- a term is added: its unknown is given its sum and the number
  pub sum_grown : (x : K) (n : ℤ) (ts : List (K × ℤ)) → with_sum E x (sum_of E x ts +ℤ n) ts ≡ with_term E x n ts
  sum_grown x n [] = ap (λ z. (x, z) ∷ []) (omega (arith, ints))
  sum_grown x n (t ∷ ts) = by (E t.0 x) (sum_grown x n ts)
    where
      by : (b : Bool) → with_sum E x (sum_of E x ts +ℤ n) ts ≡ with_term E x n ts
          → (if b then ((t.0, (if b then t.1 else sum_of E x ts) +ℤ n) ∷ ts) else
          (t ∷ with_sum E x ((if b then t.1 else sum_of E x ts) +ℤ n) ts))
          ≡ (if b then ((t.0, t.1 +ℤ n) ∷ ts) else (t ∷ with_term E x n ts))
      by true h = refl
      by false h = ap (λ us. t ∷ us) h

  module _ (decides : (x y : K) → Decides (E x y) (x ≡ y)) where
    push_step : (d : Bool) (n : ℕ) (o p : Option ℕ) → p ≡ cond d (Some n) o
        → option_map suc p ≡ cond d (Some (suc n)) (option_map suc o)
    push_step true n o p h = ap (option_map suc) h
    push_step false n o p h = ap (option_map suc) h

    -- a new unknown stands behind the others
    place_push : (x y : K) (n : ℤ) (ts : List (K × ℤ)) → place_of E x ts ≡ None
        → place_of E y (ts ++ (x, n) ∷ []) ≡ cond (E x y) (Some (length ts)) (place_of E y ts)
    place_push x y n [] e = refl
    place_push x y n (t ∷ ts) e =
        let p = nowhere (E t.0 x) (place_of E x ts) e in
        elim (cases_Bool (E t.0 y)) [
          | inl h ↦ elim (cases_Bool (E x y)) [
            | inl g ↦ absurd (let same = (decides t.0 x).1 ((decides t.0 y).0 h ∙ sym ((decides x y).0 g)) in let not = p.0 in cc)
            | inr g ↦ rw (h, g) refl
          ]
          | inr h ↦ rw h (push_step (E x y) (length ts) (place_of E y ts) (place_of E y (ts ++ (x, n) ∷ [])) (place_push x y n ts p.1))
        ]

    -- the map that has a new unknown's place besides has the place of each
    pub tracked : (cmp : K → K → Ordering) → ((x y : K) → E x y ≡ is_eq (cmp x y)) → (before after : BTreeMap (Bor K) ℕ)
        (ss us : List (Bor K × ℤ)) (r : Bor K) (m : ℤ) (i : ℕ) → Tracks E cmp (sums_in ss) before → place_of E r.now (sums_in ss) ≡ None
        → us ≡ ss ++ (r, m) ∷ [] → i ≡ length ss → Updates (λ x y. cmp x.now y.now) before after r (Some i)
        → Tracks E cmp (sums_in us) after
    tracked cmp ties before after ss us r m i has new last end updates x =
        let q : Bor K = record { ref_ptr = (0, 0); now = x } in
        let place : i ≡ length (sums_in ss) = end ∙ sym (length-map ss (λ t. (t.0.now, t.1))) in
        let found = updates.0 q ∙ (λ j. cond (sym (ties r.now x) j) (Some (place j)) (has x j)) in
        let named = ap sums_in last ∙ map_push (λ t. (t.0.now, t.1)) ss (r, m) in
        found ∙ sym (place_push r.now x m (sums_in ss) new) ∙ ap (place_of E x) (sym named)
