-- Which keys a transaction has under which entries.
use Rattle.std.proofs.Common.{◌≡◌, ℕ, zero, suc, ◌+◌, ◌-◌, ◌≤◌, ◌⊎◌, inl, inr, Bool, true, false, List, [], ◌∷◌, ◌++◌, sym, ap, subst, refl}
use Rattle.std.proofs.Common.{◌∙◌, arith, Some, Contains, ℤ}
use Rattle.std.specs.Prelude.{slice_get}
use Rattle.std.proofs.lemmas.Option.{same_Some, none-some}
use Rattle.std.proofs.lemmas.List.Elements.{Contains-append_left, Contains-append_right, Contains-append_cases}
use Rattle.acc_base.specs.declared.designs.At.{At}
use Rattle.acc_base.specs.declared.designs.Entry.{Entry}
use Rattle.acc_lock_holders.specs.Keys.{Key}
use Rattle.acc_lock_holders.proofs.Lowest.{contains_cases, contains_head, none_in}
use Rattle.acc_lock_index.specs.Roles.{standing_key, coming_key, undoing_key, held_values, step_values, stands, may_stand, may_undo}
use Rattle.acc_lock_index.specs.Roles.{one_if, keys_at, keys_from}

-- ---- a key that stands alone, or not at all

pub in_one_if : (b : Bool) (x k : Key) → Contains (one_if b x) k → (b ≡ true) × (x ≡ k)
in_one_if true x k c = by (contains_cases x [] k c)
  where
    by : (x ≡ k) ⊎ Contains [] k → (true ≡ true) × (x ≡ k)
    by (inl e) = (refl, e)
    by (inr n) = absurd (none_in k n)
in_one_if false x k c = absurd (none_in k c)

pub one_if_in : (b : Bool) (x : Key) → b ≡ true → Contains (one_if b x) x
one_if_in true x e = contains_head x []
one_if_in false x e = cc

-- ---- the keys under entries

module _ (at : At) (locals : List ℤ) (points : List Bool) where
  pub record Placed (i : ℕ) (es : List Entry) (k : Key) : Type 0 where
    pub j : ℕ
    pub entry : Entry
    pub is_entry : slice_get es j ≡ Some entry
    pub at_entry : Contains (keys_at at locals points (i + j) entry) k

  pub placed : (i : ℕ) (es : List Entry) (k : Key) → Contains (keys_from at locals points i es) k → Placed i es k
  placed i [] k c = absurd (none_in k c)
  placed i (e ∷ es) k c =
      by (Contains-append_cases (keys_at at locals points i e) (keys_from at locals points (i + 1) es) k c) (λ h. placed (i + 1) es k h)
    where
      by : Contains (keys_at at locals points i e) k ⊎ Contains (keys_from at locals points (i + 1) es) k
          → (Contains (keys_from at locals points (i + 1) es) k → Placed (i + 1) es k) → Placed i (e ∷ es) k
      by (inl h) ih = record {
        j = 0;
        entry = e;
        is_entry = refl;
        at_entry = (let z : i ≡ i + 0 = omega arith in subst (λ n. Contains (keys_at at locals points n e) k) z h);
      }
      by (inr h) ih =
          let r = ih h in
          record {
            j = suc r.j;
            entry = r.entry;
            is_entry = r.is_entry;
            at_entry = (let z : (i + 1) + r.j ≡ i + suc r.j = omega arith in
                subst (λ n. Contains (keys_at at locals points n r.entry) k) z r.at_entry);
          }

  pub put : (i : ℕ) (es : List Entry) (j : ℕ) (e : Entry) (k : Key) → slice_get es j ≡ Some e
      → Contains (keys_at at locals points (i + j) e) k
      → Contains (keys_from at locals points i es) k
  put i [] j e k h c = absurd (none-some e h)
  put i (x ∷ es) zero e k h c =
      let same : x ≡ e = same_Some x e h in
      let z : i + 0 ≡ i = omega arith in
      Contains-append_left (keys_at at locals points i x) (keys_from at locals points (i + 1) es) k
      (subst (λ w. Contains (keys_at at locals points i w) k) (sym same) (subst (λ n. Contains (keys_at at locals points n e) k) z c))
  put i (x ∷ es) (suc j) e k h c =
      let z : i + suc j ≡ (i + 1) + j = omega arith in
      Contains-append_right (keys_at at locals points i x) (keys_from at locals points (i + 1) es) k
      (put (i + 1) es j e k h (subst (λ n. Contains (keys_at at locals points n e) k) z c))

  module _ (n : ℕ) (e : Entry) where
    abbrev first_keys : List Key
    first_keys = one_if (stands at e) (standing_key n (held_values e locals))

    abbrev next_keys : List Key
    next_keys = one_if (may_stand at.ty points e) (coming_key n (held_values e locals))

    abbrev last_keys : List Key
    last_keys = one_if (may_undo at.ty points e) (undoing_key n (step_values e locals))

    pub data KeyIs (k : Key) : Type 0 where
      standing : stands at e ≡ true → standing_key n (held_values e locals) ≡ k → KeyIs k
      coming : may_stand at.ty points e ≡ true → coming_key n (held_values e locals) ≡ k → KeyIs k
      undoing : may_undo at.ty points e ≡ true → undoing_key n (step_values e locals) ≡ k → KeyIs k

    pub key_is : (k : Key) → Contains (keys_at at locals points n e) k → KeyIs k
    key_is k c = by (Contains-append_cases (first_keys ++ next_keys) last_keys k c)
      where
        sooner : Contains first_keys k ⊎ Contains next_keys k → KeyIs k
        sooner (inl h) = let p = in_one_if (stands at e) (standing_key n (held_values e locals)) k h in standing p.0 p.1
        sooner (inr h) = let p = in_one_if (may_stand at.ty points e) (coming_key n (held_values e locals)) k h in coming p.0 p.1

        by : Contains (first_keys ++ next_keys) k ⊎ Contains last_keys k → KeyIs k
        by (inl h) = sooner (Contains-append_cases first_keys next_keys k h)
        by (inr h) = let p = in_one_if (may_undo at.ty points e) (undoing_key n (step_values e locals)) k h in undoing p.0 p.1

    pub has_standing : stands at e ≡ true → Contains (keys_at at locals points n e) (standing_key n (held_values e locals))
    has_standing h =
        Contains-append_left (first_keys ++ next_keys) last_keys _
        (Contains-append_left first_keys next_keys _ (one_if_in (stands at e) _ h))

    pub has_coming : may_stand at.ty points e ≡ true → Contains (keys_at at locals points n e) (coming_key n (held_values e locals))
    has_coming h =
        Contains-append_left (first_keys ++ next_keys) last_keys _
        (Contains-append_right first_keys next_keys _ (one_if_in (may_stand at.ty points e) _ h))

    pub has_undoing : may_undo at.ty points e ≡ true → Contains (keys_at at locals points n e) (undoing_key n (step_values e locals))
    has_undoing h = Contains-append_right (first_keys ++ next_keys) last_keys _ (one_if_in (may_undo at.ty points e) _ h)

  -- a key that stands for the entry with number n is one of its
  numbered : (n : ℕ) (e : Entry) (k : Key) → Contains (keys_at at locals points n e) k → k.entry ≡ n
  numbered n e k c = by (key_is n e k c)
    where
      by : KeyIs n e k → k.entry ≡ n
      by (standing h f) = ap (λ (z : Key). z.entry) (sym f)
      by (coming h f) = ap (λ (z : Key). z.entry) (sym f)
      by (undoing h f) = ap (λ (z : Key). z.entry) (sym f)

  pub at_number : (es : List Entry) (n : ℕ) (e : Entry) (k : Key) → 1 ≤ n → slice_get es (n - 1) ≡ Some e → k.entry ≡ n
      → Contains (keys_from at locals points 1 es) k → Contains (keys_at at locals points n e) k
  at_number es n e k first is number c =
      let p = placed 1 es k c in
      let q : k.entry ≡ 1 + p.j = numbered (1 + p.j) p.entry k p.at_entry in
      let r : 1 + p.j ≡ n = sym q ∙ number in
      let s : p.j ≡ n - 1 = omega (arith, r) in
      let same : p.entry ≡ e = same_Some p.entry e (sym p.is_entry ∙ (ap (slice_get es) s ∙ is)) in
      subst (λ w. Contains (keys_at at locals points n w) k) same
      (subst (λ m. Contains (keys_at at locals points m p.entry) k) r p.at_entry)

  pub put_at : (es : List Entry) (n : ℕ) (e : Entry) (k : Key) → 1 ≤ n → slice_get es (n - 1) ≡ Some e
      → Contains (keys_at at locals points n e) k → Contains (keys_from at locals points 1 es) k
  put_at es n e k first is c =
      let z : n ≡ 1 + (n - 1) = omega (arith, first) in
      put 1 es (n - 1) e k is (subst (λ m. Contains (keys_at at locals points m e) k) z c)
