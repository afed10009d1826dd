-- What is found under keys, entry by entry, is the lowest holder with its lowest entry.
use Rattle.std.proofs.Common.{◌≡◌, ℕ, zero, suc, ◌+◌, ◌<◌, ◌≤◌, ◌⊎◌, inl, inr, Bool, true, false, List, [], ◌∷◌, sym, subst, refl}
use Rattle.std.proofs.Common.{arith, if◌then◌else◌, Option, Some, None, Contains}
use Rattle.std.specs.Prelude.{slice_get, nat_lt}
use Rattle.std.proofs.lemmas.Option.{same_Some, none-some}
use Rattle.std.proofs.lemmas.Bool.Decides.{nat_tests}
use Rattle.acc_base.specs.declared.designs.Entry.{Entry}
use Rattle.acc_lock_holders.specs.Keys.{Key}
use Rattle.acc_lock_holders.specs.Numbers.{least_but, TellsLeast, IsOther}
use Rattle.acc_lock_holders.specs.Entries.{Entries, under}
use Rattle.acc_lock_holders.proofs.Lowest.{contains_cases, contains_head, contains_tail, none_in, tells_alike, tells_from}
use Rattle.acc_lock_index.specs.Asks.{Asked, asks, lowest_under, nearer, first_from, TellsFirst}

module _ (es : Entries) (t : ℕ) where
  -- a number but t is under one of the keys
  pub record IsUnder (keys : List Key) (h : ℕ) : Type 0 where
    pub key : Key
    pub among : Contains keys key
    pub other : IsOther (under key es) t h

  tells_under : (keys : List Key) (P : ℕ → Type 0) (best : Option ℕ) → TellsLeast P best
      → TellsLeast (λ h. P h ⊎ IsUnder keys h) (lowest_under es t best keys)
  tells_under [] P best h = tells_alike P (λ n. P n ⊎ IsUnder [] n) (λ n p. inl p) from best h
    where
      from : (n : ℕ) → P n ⊎ IsUnder [] n → P n
      from n (inl p) = p
      from n (inr u) = absurd (none_in u.key u.among)
  tells_under (k ∷ keys) P best h =
      tells_alike (λ n. (P n ⊎ IsOther (under k es) t n) ⊎ IsUnder keys n) (λ n. P n ⊎ IsUnder (k ∷ keys) n) to from
      (lowest_under es t (least_but t best (under k es)) keys)
      (tells_under keys (λ n. P n ⊎ IsOther (under k es) t n) (least_but t best (under k es)) (tells_from t (under k es) P best h))
    where
      to : (n : ℕ) → (P n ⊎ IsOther (under k es) t n) ⊎ IsUnder keys n → P n ⊎ IsUnder (k ∷ keys) n
      to n (inl (inl p)) = inl p
      to n (inl (inr o)) = inr (record { key = k; among = contains_head k keys; other = o })
      to n (inr u) = inr (record { key = u.key; among = contains_tail k keys u.key u.among; other = u.other })

      from : (n : ℕ) → P n ⊎ IsUnder (k ∷ keys) n → (P n ⊎ IsOther (under k es) t n) ⊎ IsUnder keys n
      from n (inl p) = inl (inl p)
      from n (inr u) = by (contains_cases k keys u.key u.among)
        where
          by : (k ≡ u.key) ⊎ Contains keys u.key → (P n ⊎ IsOther (under k es) t n) ⊎ IsUnder keys n
          by (inl e) = inl (inr (subst (λ z. IsOther (under z es) t n) (sym e) u.other))
          by (inr m) = inr (record { key = u.key; among = m; other = u.other })

  pub tells_lowest : (keys : List Key) → TellsLeast (IsUnder keys) (lowest_under es t None keys)
  tells_lowest keys =
      tells_alike (λ n. ⊥ ⊎ IsUnder keys n) (IsUnder keys) to (λ n q. inr q) (lowest_under es t None keys)
      (tells_under keys (λ n. ⊥) None (λ n b. b))
    where
      to : (n : ℕ) → ⊥ ⊎ IsUnder keys n → IsUnder keys n
      to n (inl b) = absurd b
      to n (inr q) = q

pub first_alike : (P Q : ℕ → ℕ → Type 0) → ((h n : ℕ) → P h n → Q h n) → ((h n : ℕ) → Q h n → P h n) → (r : Option (ℕ × ℕ)) → TellsFirst P r
    → TellsFirst Q r
first_alike P Q to from None f = λ h n q. f h n (from h n q)
first_alike P Q to from (Some r) f = (to r.0 r.1 f.0, λ h n l q. f.1 h n l (from h n q), λ n l q. f.2 n l (from r.0 n q))

-- one entry more, with a number above those before
module _ (P : ℕ → ℕ → Type 0) (H : ℕ → Type 0) (n : ℕ) (above : (h m : ℕ) → P h m → m < n) where
  abbrev pub Joined : ℕ → ℕ → Type 0
  Joined h m = P h m ⊎ ((m ≡ n) × H h)

  pub tells_nearer : (best : Option (ℕ × ℕ)) (here : Option ℕ) → TellsFirst P best → TellsLeast H here
      → TellsFirst Joined (nearer best here n)
  tells_nearer best None f l = first_alike P Joined (λ h m p. inl p) from best f
    where
      from : (h m : ℕ) → Joined h m → P h m
      from h m (inl p) = p
      from h m (inr q) = absurd (l h q.1)
  tells_nearer None (Some h) f l = (inr (refl, l.0), low, same)
    where
      low : (g m : ℕ) → g < h → Joined g m → ⊥
      low g m k (inl p) = f g m p
      low g m k (inr q) = l.1 g k q.1

      same : (m : ℕ) → m < n → Joined h m → ⊥
      same m k (inl p) = f h m p
      same m k (inr q) = absurd (omega (arith, k, q.0))
  tells_nearer (Some b) (Some h) f l = by (nat_lt h b.0) refl
    where
      low : h < b.0 → (g m : ℕ) → g < h → Joined g m → ⊥
      low z g m k (inl p) = f.1 g m (omega (arith, z, k)) p
      low z g m k (inr q) = l.1 g k q.1

      same : h < b.0 → (m : ℕ) → m < n → Joined h m → ⊥
      same z m k (inl p) = f.1 h m z p
      same z m k (inr q) = absurd (omega (arith, k, q.0))

      low_old : b.0 ≤ h → (g m : ℕ) → g < b.0 → Joined g m → ⊥
      low_old z g m k (inl p) = f.1 g m k p
      low_old z g m k (inr q) = l.1 g (omega (arith, z, k)) q.1

      same_old : b.0 ≤ h → (m : ℕ) → m < b.1 → Joined b.0 m → ⊥
      same_old z m k (inl p) = f.2 m k p
      same_old z m k (inr q) = let a = above b.0 b.1 f.0 in absurd (omega (arith, k, q.0, a))

      by : (x : Bool) → nat_lt h b.0 ≡ x → TellsFirst Joined (if x then Some (h, n) else Some b)
      by true e = let z : h < b.0 = grind (arith, nat_tests) in (inr (refl, l.0), low z, same z)
      by false e = let z : b.0 ≤ h = grind (arith, nat_tests) in (inl f.0, low_old z, same_old z)

module _ (es : Entries) (t : ℕ) (a : Asked) where
  -- a number but t is under a key that is asked for the entry with number n, from i
  pub record IsFound (i : ℕ) (entries : List Entry) (h n : ℕ) : Type 0 where
    pub j : ℕ
    pub number : n ≡ i + j
    pub entry : Entry
    pub is_entry : slice_get entries j ≡ Some entry
    pub under_one : IsUnder es t (asks a n entry) h

  tells_rest : (i : ℕ) (entries : List Entry) (P : ℕ → ℕ → Type 0) (best : Option (ℕ × ℕ)) → ((h m : ℕ) → P h m → m < i) → TellsFirst P best
      → TellsFirst (λ h n. P h n ⊎ IsFound i entries h n) (first_from es t a best i entries)
  tells_rest i [] P best above f = first_alike P (λ h n. P h n ⊎ IsFound i [] h n) (λ h n p. inl p) from best f
    where
      from : (h n : ℕ) → P h n ⊎ IsFound i [] h n → P h n
      from h n (inl p) = p
      from h n (inr q) = absurd (none-some q.entry q.is_entry)
  tells_rest i (e ∷ entries) P best above f =
      first_alike (λ h n. Joined P H i above h n ⊎ IsFound (i + 1) entries h n) (λ h n. P h n ⊎ IsFound i (e ∷ entries) h n) to from
      (first_from es t a next (i + 1) entries)
      (tells_rest (i + 1) entries (Joined P H i above) next above_next
      (tells_nearer P H i above best here f (tells_lowest es t (asks a i e))))
    where
      H : ℕ → Type 0
      H = IsUnder es t (asks a i e)

      here : Option ℕ
      here = lowest_under es t None (asks a i e)

      next : Option (ℕ × ℕ)
      next = nearer best here i

      above_next : (h m : ℕ) → Joined P H i above h m → m < i + 1
      above_next h m (inl p) = let l = above h m p in omega (arith, l)
      above_next h m (inr q) = let l = q.0 in omega (arith, l)

      to : (h n : ℕ) → Joined P H i above h n ⊎ IsFound (i + 1) entries h n → P h n ⊎ IsFound i (e ∷ entries) h n
      to h n (inl (inl p)) = inl p
      to h n (inl (inr q)) = inr (record {
        j = 0;
        number = (let z = q.0 in omega (arith, z));
        entry = e;
        is_entry = refl;
        under_one = subst (λ m. IsUnder es t (asks a m e) h) (sym q.0) q.1;
      })
      to h n (inr q) = inr (record {
        j = suc q.j;
        number = (let z = q.number in omega (arith, z));
        entry = q.entry;
        is_entry = q.is_entry;
        under_one = q.under_one;
      })

      split : (h n j : ℕ) (x : Entry) → n ≡ i + j → slice_get (e ∷ entries) j ≡ Some x → IsUnder es t (asks a n x) h
          → Joined P H i above h n ⊎ IsFound (i + 1) entries h n
      split h n zero x number is u =
          let z : n ≡ i = omega (arith, number) in
          let same : e ≡ x = same_Some e x is in
          inl (inr (z, subst (λ m. IsUnder es t (asks a m e) h) z (subst (λ w. IsUnder es t (asks a n w) h) (sym same) u)))
      split h n (suc j) x number is u = inr (record {
        j = j;
        number = omega (arith, number);
        entry = x;
        is_entry = is;
        under_one = u;
      })

      from : (h n : ℕ) → P h n ⊎ IsFound i (e ∷ entries) h n → Joined P H i above h n ⊎ IsFound (i + 1) entries h n
      from h n (inl p) = inl (inl p)
      from h n (inr q) = split h n q.j q.entry q.number q.is_entry q.under_one

  pub tells_first : (entries : List Entry) → TellsFirst (IsFound 1 entries) (first_from es t a None 1 entries)
  tells_first entries =
      first_alike (λ h n. ⊥ ⊎ IsFound 1 entries h n) (IsFound 1 entries) to (λ h n q. inr q) (first_from es t a None 1 entries)
      (tells_rest 1 entries (λ h n. ⊥) None (λ h m b. absurd b) (λ h n b. b))
    where
      to : (h n : ℕ) → ⊥ ⊎ IsFound 1 entries h n → IsFound 1 entries h n
      to h n (inl b) = absurd b
      to h n (inr q) = q
