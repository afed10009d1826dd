-- Under each key are the numbers of those that have it: kept as one leaves, and as one comes.
use Rattle.std.proofs.Common.{◌≡◌, ◌≢◌, ℕ, ◌⊎◌, inl, inr, Bool, true, false, ◌||◌, cond, List, [], ◌∷◌, ◌++◌, sym, ap, subst, refl, ◌∙◌}
use Rattle.std.proofs.Common.{if◌then◌else◌, Contains}
use Rattle.std.specs.Prelude.{◌==◌, ◌↔◌, not}
use Rattle.std.proofs.lemmas.Bool.Decides.{nat_tests}
use Rattle.std.proofs.Common.{arith}
use Rattle.std.proofs.lemmas.List.Elements.{Contains-append_left, Contains-append_right, Contains-append_cases}
use Rattle.acc_lock_holders.specs.Keys.{Key, key_eq}
use Rattle.acc_lock_holders.specs.Numbers.{is_among, with_number, without_number}
use Rattle.acc_lock_holders.specs.Entries.{Entries, under, changed, changed_all, ChangesAll, IsSame}
use Rattle.acc_lock_holders.proofs.Finding.{key_decides}
use Rattle.acc_lock_holders.proofs.Lowest.{contains_cases, contains_head, contains_tail, none_in}
use Rattle.acc_lock_index.specs.Indexed.{Standing}

-- ---- numbers that are left out and added

without_to : (t : ℕ) (ts : List ℕ) (u : ℕ) → Contains (without_number t ts) u → Contains ts u × (u ≢ t)
without_to t [] u c = absurd (none_in u c)
without_to t (x ∷ ts) u c = by (x == t) refl c (without_to t ts u)
  where
    by : (b : Bool) → (x == t) ≡ b → Contains (cond (not b) (x ∷ without_number t ts) (without_number t ts)) u
        → (Contains (without_number t ts) u → Contains ts u × (u ≢ t)) → Contains (x ∷ ts) u × (u ≢ t)
    by true e d ih = let r = ih d in (contains_tail x ts u r.0, r.1)
    by false e d ih = here (contains_cases x (without_number t ts) u d)
      where
        here : (x ≡ u) ⊎ Contains (without_number t ts) u → Contains (x ∷ ts) u × (u ≢ t)
        here (inl f) = (subst (Contains (x ∷ ts)) f (contains_head x ts), λ g. let h : x ≡ t = f ∙ g in grind (arith, nat_tests))
        here (inr r) = let s = ih r in (contains_tail x ts u s.0, s.1)

without_from : (t : ℕ) (ts : List ℕ) (u : ℕ) → Contains ts u → u ≢ t → Contains (without_number t ts) u
without_from t [] u c n = absurd (none_in u c)
without_from t (x ∷ ts) u c n = by (x == t) refl (contains_cases x ts u c) (λ d. without_from t ts u d n)
  where
    by : (b : Bool) → (x == t) ≡ b → (x ≡ u) ⊎ Contains ts u → (Contains ts u → Contains (without_number t ts) u)
        → Contains (cond (not b) (x ∷ without_number t ts) (without_number t ts)) u
    by true e (inl f) ih = let same : x ≡ t = grind (arith, nat_tests) in absurd (n (sym f ∙ same))
    by true e (inr d) ih = ih d
    by false e (inl f) ih = subst (Contains (x ∷ without_number t ts)) f (contains_head x (without_number t ts))
    by false e (inr d) ih = contains_tail x (without_number t ts) u (ih d)

among_in : (t : ℕ) (ts : List ℕ) → is_among t ts ≡ true → Contains ts t
among_in t [] h = cc
among_in t (x ∷ ts) h = by (x == t) refl h (among_in t ts)
  where
    by : (b : Bool) → (x == t) ≡ b → (b || is_among t ts) ≡ true → (is_among t ts ≡ true → Contains ts t) → Contains (x ∷ ts) t
    by true e d ih = let same : x ≡ t = grind (arith, nat_tests) in subst (Contains (x ∷ ts)) same (contains_head x ts)
    by false e d ih = contains_tail x ts t (ih d)

with_to : (t : ℕ) (ts : List ℕ) (u : ℕ) → Contains (with_number t ts) u → Contains ts u ⊎ (u ≡ t)
with_to t ts u c = by (is_among t ts) c
  where
    last : Contains ts u ⊎ Contains (t ∷ []) u → Contains ts u ⊎ (u ≡ t)
    last (inl d) = inl d
    last (inr d) = here (contains_cases t [] u d)
      where
        here : (t ≡ u) ⊎ Contains [] u → Contains ts u ⊎ (u ≡ t)
        here (inl f) = inr (sym f)
        here (inr g) = absurd (none_in u g)

    by : (b : Bool) → Contains (if b then ts else ts ++ t ∷ []) u → Contains ts u ⊎ (u ≡ t)
    by true d = inl d
    by false d = last (Contains-append_cases ts (t ∷ []) u d)

with_old : (t : ℕ) (ts : List ℕ) (u : ℕ) → Contains ts u → Contains (with_number t ts) u
with_old t ts u c = by (is_among t ts)
  where
    by : (b : Bool) → Contains (if b then ts else ts ++ t ∷ []) u
    by true = c
    by false = Contains-append_left ts (t ∷ []) u c

with_new : (t : ℕ) (ts : List ℕ) → Contains (with_number t ts) t
with_new t ts = by (is_among t ts) refl
  where
    by : (b : Bool) → is_among t ts ≡ b → Contains (if b then ts else ts ++ t ∷ []) t
    by true e = among_in t ts e
    by false e = Contains-append_right ts (t ∷ []) t (contains_head t [])

-- ---- the same under each of some keys

differ : (b : Bool) → b ≡ true → b ≡ false → ⊥
differ true e f = cc
differ false e f = cc

module _ (t : ℕ) (k : Key) where
  taken_to : (keys : List Key) (ts : List ℕ) (u : ℕ) → Contains (changed_all (without_number t) keys k ts) u
      → Contains ts u × (Contains keys k → u ≢ t)
  taken_to [] ts u c = (c, λ d. absurd (none_in k d))
  taken_to (j ∷ keys) ts u c = by (key_eq j k) refl (taken_to keys (changed (without_number t) j k ts) u c)
    where
      by : (b : Bool) → key_eq j k ≡ b → Contains (cond b (without_number t ts) ts) u × (Contains keys k → u ≢ t)
          → Contains ts u × (Contains (j ∷ keys) k → u ≢ t)
      by true e r = let s = without_to t ts u r.0 in (s.0, λ d. s.1)
      by false e r = (r.0, λ d. here (contains_cases j keys k d))
        where
          here : (j ≡ k) ⊎ Contains keys k → u ≢ t
          here (inl f) = absurd (differ (key_eq j k) ((key_decides j k).1 f) e)
          here (inr d) = r.1 d

  taken_from : (keys : List Key) (ts : List ℕ) (u : ℕ) → Contains ts u → (Contains keys k → u ≢ t)
      → Contains (changed_all (without_number t) keys k ts) u
  taken_from [] ts u c n = c
  taken_from (j ∷ keys) ts u c n =
      taken_from keys (changed (without_number t) j k ts) u (by (key_eq j k) refl) (λ d. n (contains_tail j keys k d))
    where
      by : (b : Bool) → key_eq j k ≡ b → Contains (cond b (without_number t ts) ts) u
      by true e = without_from t ts u c (n (subst (Contains (j ∷ keys)) ((key_decides j k).0 e) (contains_head j keys)))
      by false e = c

  given_to : (keys : List Key) (ts : List ℕ) (u : ℕ) → Contains (changed_all (with_number t) keys k ts) u
      → Contains ts u ⊎ (Contains keys k × (u ≡ t))
  given_to [] ts u c = inl c
  given_to (j ∷ keys) ts u c = by (key_eq j k) refl (given_to keys (changed (with_number t) j k ts) u c)
    where
      here : key_eq j k ≡ true → Contains ts u ⊎ (u ≡ t) → Contains ts u ⊎ (Contains (j ∷ keys) k × (u ≡ t))
      here e (inl d) = inl d
      here e (inr f) = inr (subst (Contains (j ∷ keys)) ((key_decides j k).0 e) (contains_head j keys), f)

      by : (b : Bool) → key_eq j k ≡ b → Contains (cond b (with_number t ts) ts) u ⊎ (Contains keys k × (u ≡ t))
          → Contains ts u ⊎ (Contains (j ∷ keys) k × (u ≡ t))
      by true e (inl d) = here e (with_to t ts u d)
      by false e (inl d) = inl d
      by true e (inr r) = inr (contains_tail j keys k r.0, r.1)
      by false e (inr r) = inr (contains_tail j keys k r.0, r.1)

  given_old : (keys : List Key) (ts : List ℕ) (u : ℕ) → Contains ts u → Contains (changed_all (with_number t) keys k ts) u
  given_old [] ts u c = c
  given_old (j ∷ keys) ts u c = given_old keys (changed (with_number t) j k ts) u (by (key_eq j k))
    where
      by : (b : Bool) → Contains (cond b (with_number t ts) ts) u
      by true = with_old t ts u c
      by false = c

  given_new : (keys : List Key) (ts : List ℕ) → Contains keys k → Contains (changed_all (with_number t) keys k ts) t
  given_new [] ts c = absurd (none_in k c)
  given_new (j ∷ keys) ts c =
      by (key_eq j k) refl (contains_cases j keys k c) (λ d. given_new keys (changed (with_number t) j k ts) d)
    where
      by : (b : Bool) → key_eq j k ≡ b → (j ≡ k) ⊎ Contains keys k
          → (Contains keys k → Contains (changed_all (with_number t) keys k (changed (with_number t) j k ts)) t)
          → Contains (changed_all (with_number t) keys k (changed (with_number t) j k ts)) t
      by b e (inr d) ih = ih d
      by true e (inl f) ih =
          given_old keys (changed (with_number t) j k ts) t
          (subst (λ z. Contains (cond z (with_number t ts) ts) t) (sym e) (with_new t ts))
      by false e (inl f) ih = absurd (differ (key_eq j k) ((key_decides j k).1 f) e)

-- ---- those that are there, told by a test

pub record Has (In : Standing → Type 0) (k : Key) (t : ℕ) : Type 0 where
  pub standing : Standing
  pub there : In standing
  pub number : standing.t ≡ t
  pub key : Contains standing.keys k

abbrev pub AreUnderBy : (Standing → Type 0) → Entries → Type 0
AreUnderBy In es = (k : Key) (t : ℕ) → Contains (under k es) t ↔ Has In k t

module _ (In : Standing → Type 0) (es fs : Entries) (are : AreUnderBy In es) where
  pub same_by : IsSame es fs → AreUnderBy In fs
  same_by same k t =
      (λ c. (are k t).0 (subst (λ ts. Contains ts t) (same k) c), λ h. subst (λ ts. Contains ts t) (sym (same k)) ((are k t).1 h))

  -- one leaves, the only one with its number
  pub leave_by : (g : Standing) → In g → ((s : Standing) → In s → s.t ≡ g.t → s ≡ g) → ChangesAll (without_number g.t) g.keys es fs
      → AreUnderBy (λ s. In s × (s.t ≢ g.t)) fs
  leave_by g in_ one changes k t = (to, from)
    where
      to : Contains (under k fs) t → Has (λ s. In s × (s.t ≢ g.t)) k t
      to c =
          let r = taken_to g.t k g.keys (under k es) t (subst (λ ts. Contains ts t) (changes k) c) in
          let h = (are k t).0 r.0 in
          record {
            standing = h.standing;
            there = (h.there, λ e. r.1 (subst (λ (s : Standing). Contains s.keys k) (one h.standing h.there e) h.key) (sym h.number ∙ e));
            number = h.number;
            key = h.key;
          }

      from : Has (λ s. In s × (s.t ≢ g.t)) k t → Contains (under k fs) t
      from h =
          let old = (are k t).1 (record { standing = h.standing; there = h.there.0; number = h.number; key = h.key }) in
          subst (λ ts. Contains ts t) (sym (changes k)) (taken_from g.t k g.keys (under k es) t old (λ d e. h.there.1 (h.number ∙ e)))

  -- one comes
  pub enter_by : (p : Standing) → ChangesAll (with_number p.t) p.keys es fs → AreUnderBy (λ s. In s ⊎ (s ≡ p)) fs
  enter_by p changes k t = (λ c. to (given_to p.t k p.keys (under k es) t (subst (λ ts. Contains ts t) (changes k) c)), from)
    where
      to : Contains (under k es) t ⊎ (Contains p.keys k × (t ≡ p.t)) → Has (λ s. In s ⊎ (s ≡ p)) k t
      to (inl c) = let h = (are k t).0 c in record { standing = h.standing; there = inl h.there; number = h.number; key = h.key }
      to (inr r) = record { standing = p; there = inr refl; number = sym r.1; key = r.0 }

      put : (s : Standing) → In s ⊎ (s ≡ p) → s.t ≡ t → Contains s.keys k → Contains (changed_all (with_number p.t) p.keys k (under k es)) t
      put s (inl i) e c = given_old p.t k p.keys (under k es) t ((are k t).1 (record { standing = s; there = i; number = e; key = c }))
      put s (inr q) e c =
          let number : p.t ≡ t = sym (ap (λ (z : Standing). z.t) q) ∙ e in
          subst (Contains (changed_all (with_number p.t) p.keys k (under k es))) number
          (given_new p.t k p.keys (under k es) (subst (λ (z : Standing). Contains z.keys k) q c))

      from : Has (λ s. In s ⊎ (s ≡ p)) k t → Contains (under k fs) t
      from h = subst (λ ts. Contains ts t) (sym (changes k)) (put h.standing h.there h.number h.key)

pub alike_by : (In Out : Standing → Type 0) (es : Entries) → ((s : Standing) → In s → Out s) → ((s : Standing) → Out s → In s)
    → AreUnderBy In es → AreUnderBy Out es
alike_by In Out es to from are k t = (
  λ c. let h = (are k t).0 c in record { standing = h.standing; there = to h.standing h.there; number = h.number; key = h.key },
  λ h. (are k t).1 (record { standing = h.standing; there = from h.standing h.there; number = h.number; key = h.key }),
)
