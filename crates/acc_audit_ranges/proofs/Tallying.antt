-- What comes of numbers of keys as one comes or goes.
use Rattle.std.proofs.Common.{◌≡◌, ℕ, zero, suc, ◌+◌, ◌-◌, ◌<◌, ◌≤◌, ◌==◌, Bool, true, false, ◌&&◌, ◌||◌, cond, List, [], ◌∷◌, ◌++◌, length, take, get_or}
use Rattle.std.proofs.Common.{refl, sym, ap, ◌∙◌, ℤ, ◌<ℤ◌, arith, subst, Option, Some, None, slice_get}
use Rattle.std.specs.Prelude.{count_by}
use Rattle.std.specs.List.{list_any}
use Rattle.std.specs.declared.cmp.Ordering.{Ordering}
use Rattle.std.specs.declared.cmp.Ordering.TheVariants.{Less, Equal, Greater}
use Rattle.std.specs.Ordering.{int_cmp, nat_cmp, is_eq, ordering_then, match_ordering, MatchOrdering}
use Rattle.std.specs.Cmp.{ranked, int_ranks}
use Rattle.std.specs.BTreeMap.{get}
use Rattle.std.specs.BTreeSet.{BTreeSet, insert_key}
use Rattle.std.specs.Set.{remove_key}
use Rattle.std.proofs.lemmas.Bool.{false≢true, and_parts}
use Rattle.std.proofs.lemmas.Bool.Decides.{Decides-eqb, nat_tests}
use Rattle.std.proofs.lemmas.List.{take_more, length-take}
use Rattle.std.proofs.lemmas.List.Sums.{sum_by-cons}
use Rattle.acc_base.specs.Tables.{Place, place_cmp}
use Rattle.acc_index_store.proofs.Naming.{place_is}
use Rattle.acc_audit_ranges.specs.declared.parts.Way.{Way}
use Rattle.acc_audit_ranges.specs.declared.parts.Way.TheVariants.{In, Out}
use Rattle.acc_audit_ranges.specs.Ranges.{same, is_part}
use Rattle.acc_audit_ranges.specs.Parts.{Values, Parts, spot_cmp, counted, number, number_in, number_at, changed, CountsIn, Counts, is_there, is_spot, has_at}
use Rattle.acc_audit_ranges.specs.Parts.{Takes, AreCounted}
use Rattle.acc_audit_ranges.proofs.Adding.{or_false, none_past}

-- ---- one value

is_equal : (o : Ordering) → is_eq o ≡ true → o ≡ Equal
is_equal Less h = absurd (false≢true h)
is_equal Equal h = refl
is_equal Greater h = absurd (false≢true h)

pub same_is : (x y : ℤ) → same x y ≡ true → x ≡ y
same_is x y h = subst (λ o. MatchOrdering o (x <ℤ y) (x ≡ y) (y <ℤ x)) (is_equal (int_cmp x y) h) (int_ranks x y)

changed_none : (way : Way) (n : ℕ) → changed way n false ≡ n
changed_none In n = omega arith
changed_none Out n = omega arith

module _ (x : ℤ) (n : ℕ) (old new : Values) (is : n ≡ number old x) where
  pub counts_more : ((q : ℤ) → get int_cmp new q ≡ cond (same x q) (Some (n + 1)) (get int_cmp old q)) → CountsIn In x old new
  counts_more u q = ap counted (u q) ∙ by (same x q) refl
    where
      by : (b : Bool) → same x q ≡ b → counted (cond b (Some (n + 1)) (get int_cmp old q)) ≡ changed In (number old q) b
      by true e = ap (λ m. m + 1) (is ∙ ap (number old) (same_is x q e))
      by false e = sym (changed_none In (number old q))

  pub counts_less : 1 < n → ((q : ℤ) → get int_cmp new q ≡ cond (same x q) (Some (n - 1)) (get int_cmp old q)) → CountsIn Out x old new
  counts_less many u q = ap counted (u q) ∙ by (same x q) refl
    where
      by : (b : Bool) → same x q ≡ b → counted (cond b (Some (n - 1)) (get int_cmp old q)) ≡ changed Out (number old q) b
      by true e = ap (λ m. m - 1) (is ∙ ap (number old) (same_is x q e))
      by false e = sym (changed_none Out (number old q))

  pub counts_last : n ≤ 1 → ((q : ℤ) → get int_cmp new q ≡ cond (same x q) None (get int_cmp old q)) → CountsIn Out x old new
  counts_last few u q = ap counted (u q) ∙ by (same x q) refl
    where
      by : (b : Bool) → same x q ≡ b → counted (cond b None (get int_cmp old q)) ≡ changed Out (number old q) b
      by true e = let m : n ≡ number old q = is ∙ ap (number old) (same_is x q e) in omega (arith, m, few)
      by false e = sym (changed_none Out (number old q))

-- ---- places of keys

nat_same : (n m : ℕ) → is_eq (nat_cmp n m) ≡ (n == m)
nat_same n m = by (nat_cmp n m) (ranked n m (nat_cmp n m) refl)
  where
    by : (o : Ordering) → MatchOrdering o (n < m) (n ≡ m) (m < n) → is_eq o ≡ (n == m)
    by Less h = grind (arith, nat_tests)
    by Equal h = grind (arith, nat_tests)
    by Greater h = grind (arith, nat_tests)

then_both : (o r : Ordering) → is_eq (ordering_then o r) ≡ (is_eq o && is_eq r)
then_both Less r = refl
then_both Equal r = refl
then_both Greater r = refl

spot_same : (table place t j : ℕ) → is_eq (spot_cmp (table, place) (t, j)) ≡ is_spot table place t j
spot_same table place t j =
    then_both (nat_cmp table t) (nat_cmp place j) ∙ (λ i. nat_same table t i && nat_same place j i)

spot_is : (table place t j : ℕ) → is_spot table place t j ≡ true → (table ≡ t) × (place ≡ j)
spot_is table place t j h =
    let both = and_parts (table == t) (place == j) h in
    ((Decides-eqb table t).0 both.0, (Decides-eqb place j).0 both.1)

module _ (table place : ℕ) (old new : Parts) where
  pub takes : (o : Option Values) (values : Values) → get spot_cmp old (table, place) ≡ o → ((q : ℤ) → number values q ≡ number_in o q) →
      ((s : ℕ × ℕ) → get spot_cmp new s ≡ cond (is_eq (spot_cmp (table, place) s)) None (get spot_cmp old s)) →
      Takes table place old new values
  takes o values was is u = record {
    taken = λ q. is q ∙ sym (ap (λ x. number_in x q) was);
    others = λ t j q.
        ap (λ x. number_in x q) (u (t, j) ∙ ap (λ b. cond b None (get spot_cmp old (t, j))) (spot_same table place t j))
        ∙ by (is_spot table place t j) t j q;
  }
    where
      by : (b : Bool) (t j : ℕ) (q : ℤ) → number_in (cond b None (get spot_cmp old (t, j))) q ≡ cond b 0 (number_at old t j q)
      by true t j q = refl
      by false t j q = refl

module _ (way : Way) (table place : ℕ) (x : ℤ) (old mid new : Parts) (before after : Values) where
  pub counts_at : Takes table place old mid before → CountsIn way x before after →
      ((s : ℕ × ℕ) → get spot_cmp new s ≡ cond (is_eq (spot_cmp (table, place) s)) (Some after) (get spot_cmp mid s)) →
      Counts way (is_there table place x) old new
  counts_at took counts u t j q =
      ap (λ o. number_in o q) (u (t, j) ∙ ap (λ b. cond b (Some after) (get spot_cmp mid (t, j))) (spot_same table place t j))
      ∙ by (is_spot table place t j) refl (took.others t j q)
    where
      by : (b : Bool) → is_spot table place t j ≡ b → number_at mid t j q ≡ cond b 0 (number_at old t j q) →
          number_in (cond b (Some after) (get spot_cmp mid (t, j))) q ≡ changed way (number_at old t j q) (b && same x q)
      by true e other =
          let at = spot_is table place t j e in
          counts q ∙ ap (λ n. changed way n (same x q)) (took.taken q ∙ (λ i. number_at old (at.0 i) (at.1 i) q))
      by false e other = other ∙ sym (changed_none way (number_at old t j q))

-- ---- a key's components, one after the other

changed_both : (way : Way) (n : ℕ) (a b : Bool) → (a && b) ≡ false → changed way (changed way n a) b ≡ changed way n (a || b)
changed_both way n true true h = absurd (false≢true (sym h))
changed_both way n true false h = changed_none way (changed way n true)
changed_both way n false b h = ap (λ m. changed way m b) (changed_none way n)

part_with : (xs : List ℤ) (x : ℤ) (j : ℕ) (q : ℤ) →
    is_part q (slice_get (xs ++ x ∷ []) j) ≡ (is_part q (slice_get xs j) || ((length xs == j) && same x q))
part_with [] x zero q = refl
part_with [] x (suc j) q = let e : (0 == suc j) ≡ false = grind (arith, nat_tests) in ap (λ b. b && same x q) (sym e)
part_with (y ∷ xs) x zero q =
    let e : (suc (length xs) == 0) ≡ false = grind (arith, nat_tests) in
    sym (ap (λ b. same y q || (b && same x q)) e ∙ or_false (same y q))
part_with (y ∷ xs) x (suc j) q =
    let e : (length xs == j) ≡ (suc (length xs) == suc j) = grind (arith, nat_tests) in
    part_with xs x j q ∙ ap (λ b. is_part q (slice_get xs j) || (b && same x q)) e

none_behind : (xs : List ℤ) (x : ℤ) (j : ℕ) (q : ℤ) → (is_part q (slice_get xs j) && ((length xs == j) && same x q)) ≡ false
none_behind xs x j q = by (length xs == j) refl
  where
    nothing : (b : Bool) → (b && false) ≡ false
    nothing true = refl
    nothing false = refl

    by : (b : Bool) → (length xs == j) ≡ b → (is_part q (slice_get xs j) && (b && same x q)) ≡ false
    by false e = nothing (is_part q (slice_get xs j))
    by true e =
        let at : length xs ≡ j = (Decides-eqb (length xs) j).0 e in
        ap (λ o. is_part q o && same x q) (none_past xs j (omega (arith, at)))

and_assoc : (a b c : Bool) → ((a && b) && c) ≡ (a && (b && c))
and_assoc true b c = refl
and_assoc false b c = refl

and_or : (a b c : Bool) → ((a && b) || (a && c)) ≡ (a && (b || c))
and_or true b c = refl
and_or false b c = refl

and_and : (a b c : Bool) → (b && c) ≡ false → ((a && b) && (a && c)) ≡ false
and_and true b c h = h
and_and false b c h = refl

-- the first i components of a key are counted
abbrev pub Counted : Way → ℕ → List ℤ → ℕ → Parts → Parts → Type 0
Counted way table key i old new = Counts way (λ t j q. has_at t j q (table, take i key)) old new

pub none_counted : (way : Way) (table : ℕ) (key : List ℤ) (parts : Parts) → Counted way table key 0 parts parts
none_counted way table key parts t j q =
    sym (ap (changed way (number_at parts t j q)) (by (table == t)) ∙ changed_none way (number_at parts t j q))
  where
    by : (b : Bool) → (b && false) ≡ false
    by true = refl
    by false = refl

pub one_counted : (way : Way) (table : ℕ) (key : List ℤ) (i : ℕ) (x d : ℤ) (old mid new : Parts) → i < length key → x ≡ get_or key i d →
    Counted way table key i old mid → Counts way (is_there table i x) mid new → Counted way table key (i + 1) old new
one_counted way table key i x d old mid new within here done more t j q =
    let xs = take i key in
    let a = table == t in
    let b = is_part q (slice_get xs j) in
    let c : Bool = (length xs == j) && same x q in
    let cut = length-take i key in
    let long : length xs ≡ i = omega (arith, cut, within) in
    let there : is_there table i x t j q ≡ (a && c) =
    and_assoc a (i == j) (same x q) ∙ ap (λ n. a && ((n == j) && same x q)) (sym long) in
    let with : is_part q (slice_get (take (i + 1) key) j) ≡ (b || c) =
    ap (λ l. is_part q (slice_get l j)) (take_more key i d within ∙ ap (λ y. xs ++ y ∷ []) (sym here)) ∙ part_with xs x j q in
    more t j q
    ∙ (λ k. changed way (done t j q k) (there k))
    ∙ changed_both way (number_at old t j q) (a && b) (a && c) (and_and a b c (none_behind xs x j q))
    ∙ ap (changed way (number_at old t j q)) (and_or a b c ∙ ap (λ z. a && z) (sym with))

-- ---- places that come and go

-- one where it passes
abbrev once : Bool → ℕ
once b = cond b 1 0

module _ (f : Place → Bool) where
  one_first : (x : Place) (xs : List Place) → count_by f (x ∷ xs) ≡ cond (f x) 1 0 + count_by f xs
  one_first x xs = sum_by-cons (λ y. cond (f y) 1 0) x xs

  module _ (p : Place) where
    pub inserted : (ks : List Place) → list_any (λ k. is_eq (place_cmp p k)) ks ≡ false →
        count_by f (insert_key place_cmp ks p) ≡ changed In (count_by f ks) (f p)
    inserted [] h = let a = one_first p [] in omega (arith, a)
    inserted (x ∷ xs) h = by (place_cmp p x) h (inserted xs)
      where
        by : (o : Ordering) → (is_eq o || list_any (λ k. is_eq (place_cmp p k)) xs) ≡ false →
            (list_any (λ k. is_eq (place_cmp p k)) xs ≡ false →
            count_by f (insert_key place_cmp xs p) ≡ changed In (count_by f xs) (f p)) →
            count_by f (match_ordering o (p ∷ x ∷ xs) (x ∷ xs) (x ∷ insert_key place_cmp xs p)) ≡ changed In (count_by f (x ∷ xs)) (f p)
        by Less g ih = let a = one_first p (x ∷ xs) in omega (arith, a)
        by Equal g ih = absurd (false≢true (sym g))
        by Greater g ih =
            let a = one_first x (insert_key place_cmp xs p) in
            let b = one_first x xs in
            let c = ih g in
            omega (arith, a, b, c)

    pub removed : (ks : List Place) → list_any (λ k. is_eq (place_cmp p k)) ks ≡ true →
        count_by f (remove_key (λ k. is_eq (place_cmp p k)) ks) + cond (f p) 1 0 ≡ count_by f ks
    removed [] h = absurd (false≢true h)
    removed (x ∷ xs) h = by (is_eq (place_cmp p x)) refl h (removed xs)
      where
        by : (b : Bool) → is_eq (place_cmp p x) ≡ b → (b || list_any (λ k. is_eq (place_cmp p k)) xs) ≡ true →
            (list_any (λ k. is_eq (place_cmp p k)) xs ≡ true →
            count_by f (remove_key (λ k. is_eq (place_cmp p k)) xs) + cond (f p) 1 0 ≡ count_by f xs) →
            count_by f (cond b xs (x ∷ remove_key (λ k. is_eq (place_cmp p k)) xs)) + cond (f p) 1 0 ≡ count_by f (x ∷ xs)
        by true e g ih =
            let a = one_first x xs in
            let b : once (f p) ≡ once (f x) = ap (λ y. once (f y)) (place_is p x e) in
            omega (arith, a, b)
        by false e g ih =
            let a = one_first x (remove_key (λ k. is_eq (place_cmp p k)) xs) in
            let b = one_first x xs in
            let c = ih g in
            omega (arith, a, b, c)

module _ (parts after : Parts) (old new : BTreeSet Place) (p : Place) where
  pub came : list_any (λ k. is_eq (place_cmp p k)) old.keys ≡ false → new.keys ≡ insert_key place_cmp old.keys p →
      Counts In (λ t j q. has_at t j q p) parts after → AreCounted parts old → AreCounted after new
  came absent keys counts are t j q =
      counts t j q ∙ ap (λ n. changed In n (has_at t j q p)) (are t j q)
      ∙ sym (ap (count_by (has_at t j q)) keys ∙ inserted (has_at t j q) p old.keys absent)

  pub went : list_any (λ k. is_eq (place_cmp p k)) old.keys ≡ true → new.keys ≡ remove_key (λ k. is_eq (place_cmp p k)) old.keys →
      Counts Out (λ t j q. has_at t j q p) parts after → AreCounted parts old → AreCounted after new
  went there keys counts are t j q =
      let a = removed (has_at t j q) p old.keys there in
      let b = are t j q in
      let c = counts t j q in
      ap (λ n. n) c ∙ by a b ∙ sym (ap (count_by (has_at t j q)) keys)
    where
      by : (count_by (has_at t j q) (remove_key (λ k. is_eq (place_cmp p k)) old.keys) + cond (has_at t j q p) 1 0 ≡ count_by (has_at t j q) old.keys) →
          number_at parts t j q ≡ count_by (has_at t j q) old.keys →
          changed Out (number_at parts t j q) (has_at t j q p) ≡ count_by (has_at t j q) (remove_key (λ k. is_eq (place_cmp p k)) old.keys)
      by a b = omega (arith, a, b)
