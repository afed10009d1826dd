-- The lowest number but one, told by recursion, is the lowest.
use Rattle.std.proofs.Common.{◌≡◌, ℕ, zero, suc, ◌<◌, ◌⊎◌, inl, inr, Bool, true, false, List, [], ◌∷◌, sym, subst, refl, ◌∙◌}
use Rattle.std.proofs.Common.{arith, if◌then◌else◌, Option, Some, None, Contains}
use Rattle.std.specs.Prelude.{◌≢◌, ◌==◌, nat_lt}
use Rattle.std.proofs.lemmas.Bool.Decides.{nat_tests}
use Rattle.acc_lock_holders.specs.Numbers.{lower_of, least_but, TellsLeast, IsOther}

pub contains_cases : {X : Type 0} (x : X) (xs : List X) (v : X) → Contains (x ∷ xs) v → (x ≡ v) ⊎ Contains xs v
contains_cases x xs v (zero, w, e) = inl e
contains_cases x xs v (suc k, w, e) = inr (k, omega (arith, w), e)

pub contains_head : {X : Type 0} (x : X) (xs : List X) → Contains (x ∷ xs) x
contains_head x xs = (0, omega arith, refl)

pub contains_tail : {X : Type 0} (x : X) (xs : List X) (v : X) → Contains xs v → Contains (x ∷ xs) v
contains_tail x xs v (k, w, e) = (suc k, omega (arith, w), e)

pub none_in : {X : Type 0} (v : X) → Contains [] v → ⊥
none_in v (k, w, e) = absurd (omega (arith, w))

pub tells_alike : (P Q : ℕ → Type 0) → ((n : ℕ) → P n → Q n) → ((n : ℕ) → Q n → P n) → (r : Option ℕ) → TellsLeast P r → TellsLeast Q r
tells_alike P Q to from None h = λ n q. h n (from n q)
tells_alike P Q to from (Some n) h = (to n h.0, λ m l q. h.1 m l (from m q))

-- one number more
tells_more : (P : ℕ → Type 0) (best : Option ℕ) (u : ℕ) → TellsLeast P best → TellsLeast (λ n. P n ⊎ (n ≡ u)) (Some (lower_of best u))
tells_more P None u h = (inr refl, λ m l q. by m l q)
  where
    by : (m : ℕ) → m < u → P m ⊎ (m ≡ u) → ⊥
    by m l (inl p) = h m p
    by m l (inr e) = absurd (omega (arith, l, e))
tells_more P (Some b) u h = by (nat_lt b u) refl
  where
    low : b < u → (m : ℕ) → m < b → P m ⊎ (m ≡ u) → ⊥
    low g m l (inl p) = h.1 m l p
    low g m l (inr e) = absurd (omega (arith, l, e, g))

    high : (b < u → ⊥) → (m : ℕ) → m < u → P m ⊎ (m ≡ u) → ⊥
    high g m l (inl p) = h.1 m (by_cases m l) p
      where
        by_cases : (m : ℕ) → m < u → m < b
        by_cases m l = omega (arith, l, g)
    high g m l (inr e) = absurd (omega (arith, l, e))

    by : (x : Bool) → nat_lt b u ≡ x → TellsLeast (λ n. P n ⊎ (n ≡ u)) (Some (if x then b else u))
    by true e = let g : b < u = grind (arith, nat_tests) in (inl h.0, low g)
    by false e = (inr refl, high (λ g. grind (arith, nat_tests)))

pub tells_from : (t : ℕ) (us : List ℕ) (P : ℕ → Type 0) (best : Option ℕ) → TellsLeast P best
    → TellsLeast (λ n. P n ⊎ IsOther us t n) (least_but t best us)
tells_from t [] P best h = tells_alike P (λ n. P n ⊎ IsOther [] t n) (λ n p. inl p) from best h
  where
    from : (n : ℕ) → P n ⊎ IsOther [] t n → P n
    from n (inl p) = p
    from n (inr q) = absurd (none_in n q.0)
tells_from t (u ∷ us) P best h = by (u == t) refl (λ Q b g. tells_from t us Q b g)
  where
    skip_to : u ≡ t → (n : ℕ) → P n ⊎ IsOther us t n → P n ⊎ IsOther (u ∷ us) t n
    skip_to e n (inl p) = inl p
    skip_to e n (inr q) = inr (contains_tail u us n q.0, q.1)

    skip_from : u ≡ t → (n : ℕ) → P n ⊎ IsOther (u ∷ us) t n → P n ⊎ IsOther us t n
    skip_from e n (inl p) = inl p
    skip_from e n (inr q) = here (contains_cases u us n q.0)
      where
        here : (u ≡ n) ⊎ Contains us n → P n ⊎ IsOther us t n
        here (inl f) = absurd (q.1 (sym f ∙ e))
        here (inr c) = inr (c, q.1)

    take_to : u ≢ t → (n : ℕ) → (P n ⊎ (n ≡ u)) ⊎ IsOther us t n → P n ⊎ IsOther (u ∷ us) t n
    take_to d n (inl (inl p)) = inl p
    take_to d n (inl (inr e)) = inr (subst (Contains (u ∷ us)) (sym e) (contains_head u us), λ f. d (sym e ∙ f))
    take_to d n (inr q) = inr (contains_tail u us n q.0, q.1)

    take_from : (n : ℕ) → P n ⊎ IsOther (u ∷ us) t n → (P n ⊎ (n ≡ u)) ⊎ IsOther us t n
    take_from n (inl p) = inl (inl p)
    take_from n (inr q) = here (contains_cases u us n q.0)
      where
        here : (u ≡ n) ⊎ Contains us n → (P n ⊎ (n ≡ u)) ⊎ IsOther us t n
        here (inl f) = inl (inr (sym f))
        here (inr c) = inr (c, q.1)

    by : (x : Bool) → (u == t) ≡ x
        → ((Q : ℕ → Type 0) (b : Option ℕ) → TellsLeast Q b → TellsLeast (λ n. Q n ⊎ IsOther us t n) (least_but t b us))
        → TellsLeast (λ n. P n ⊎ IsOther (u ∷ us) t n) (least_but t (if x then best else Some (lower_of best u)) us)
    by true e ih =
        let same : u ≡ t = grind (arith, nat_tests) in
        tells_alike (λ n. P n ⊎ IsOther us t n) (λ n. P n ⊎ IsOther (u ∷ us) t n) (skip_to same) (skip_from same) (least_but t best us)
        (ih P best h)
    by false e ih =
        let other : u ≢ t = λ f. grind (arith, nat_tests) in
        tells_alike (λ n. (P n ⊎ (n ≡ u)) ⊎ IsOther us t n) (λ n. P n ⊎ IsOther (u ∷ us) t n) (take_to other) take_from
        (least_but t (Some (lower_of best u)) us) (ih (λ n. P n ⊎ (n ≡ u)) (Some (lower_of best u)) (tells_more P best u h))
