-- The places of a store give what its rows have.
use Rattle.std.proofs.Common.{◌≡◌, ℕ, ◌+◌, ◌<◌, ◌≤◌, ◌==◌, Bool, true, false, ◌&&◌, ◌||◌, List, [], ◌∷◌, ◌++◌, length, take, get_or, All, refl, sym, ap}
use Rattle.std.proofs.Common.{◌∙◌, ℤ, subst, Some, cond, map, arith, zero, suc}
use Rattle.std.specs.Prelude.{slice_get, Result, Ok, Err, OnOk, OnErr}
use Rattle.std.specs.List.{list_any, AllByRecursion}
use Rattle.std.specs.Ordering.{int_cmp, is_eq, ordering_then}
use Rattle.std.specs.declared.cmp.Ordering.{Ordering}
use Rattle.std.specs.declared.cmp.Ordering.TheVariants.{Less, Equal, Greater}
use Rattle.std.specs.BTreeMap.{get, is_at as is_at_key}
use Rattle.std.specs.Map.{lookup}
use Rattle.std.specs.Prelude.{nat_le, count_by}
use Rattle.std.proofs.lemmas.List.Sums.{sum_by-cons}
use Rattle.std.proofs.lemmas.Bool.Decides.{nat_tests}
use Rattle.std.specs.BTreeSet.{BTreeSet, contains, Updates}
use Rattle.std.proofs.lemmas.List.{take_more, take_all}
use Rattle.std.proofs.lemmas.Bool.{false≢true, and_parts}
use Rattle.std.proofs.lemmas.Bool.Decides.{Decides-eqb}
use Rattle.std.proofs.lemmas.List.Elements.{recursion_from_All, All-from_recursion}
use Rattle.acc_base.specs.declared.tables.Row.{Row}
use Rattle.acc_base.specs.Tables.{Place, place_of, place_cmp, is_at}
use Rattle.acc_base.proofs.Places.{place_total, one_place, is_equal}
use Rattle.acc_base.proofs.RowChanges.{put_all, drop_all}
use Rattle.acc_store.specs.declared.writes.Write.{Write}
use Rattle.acc_store.specs.declared.writes.Write.TheVariants.{Row as Puts, Gone}
use Rattle.acc_store.specs.Rows.{write, written}
use Rattle.acc_index_store.specs.Indexes.{place_written, names, are_naming}
use Rattle.acc_index_store.proofs.Naming.{place_is, place_flip}
use Rattle.std.proofs.lemmas.List.Folds.{list_any_more}
use Rattle.acc_audit_ranges.specs.Ranges.{same, is_part, has_part, parts_have}
use Rattle.acc_audit_ranges.specs.declared.noted.Noted.{Noted}
use Rattle.acc_audit_ranges.specs.Parts.{Values, counted, number, number_at, has_at}
use Rattle.acc_audit_ranges.specs.Keyed.{Covers, Grows, IsNoted, IsAllBut, AreWithin, Stands, IsExact, shows, still}
use Rattle.acc_audit_ranges.proofs.Tallying.{same_is}
use Rattle.acc_audit_ranges.proofs.Unnamed.{same_any}

-- ---- tests of lists

or_right : (a b : Bool) → b ≡ true → (a || b) ≡ true
or_right true b h = refl
or_right false b h = h

any_elim : {X : Type 0} (p : X → Bool) (Q : Type 0) (xs : List X) → ((x : X) → p x ≡ true → Q) → list_any p xs ≡ true → Q
any_elim p Q [] f h = absurd (false≢true h)
any_elim p Q (x ∷ xs) f h = by (p x) refl h (any_elim p Q xs f)
  where
    by : (b : Bool) → p x ≡ b → (b || list_any p xs) ≡ true → (list_any p xs ≡ true → Q) → Q
    by true e h rest = f x e
    by false e h rest = rest h

any_weaker : {X : Type 0} (p r : X → Bool) (xs : List X) → ((x : X) → p x ≡ true → r x ≡ true) → list_any p xs ≡ true →
    list_any r xs ≡ true
any_weaker p r [] f h = absurd (false≢true h)
any_weaker p r (x ∷ xs) f h = by (p x) refl h (any_weaker p r xs f)
  where
    by : (b : Bool) → p x ≡ b → (b || list_any p xs) ≡ true → (list_any p xs ≡ true → list_any r xs ≡ true) →
        (r x || list_any r xs) ≡ true
    by true e h rest = ap (λ b. b || list_any r xs) (f x e)
    by false e h rest = or_right (r x) (list_any r xs) (rest h)

both_ways : (a b : Bool) → (a ≡ true → b ≡ true) → (b ≡ true → a ≡ true) → a ≡ b
both_ways true b f g = sym (f refl)
both_ways false true f g = g refl
both_ways false false f g = refl

and_true : (a b : Bool) → a ≡ true → b ≡ true → (a && b) ≡ true
and_true a b f g = ap (λ x. x && b) f ∙ g

-- ---- places

place_self : (p : Place) → is_eq (place_cmp p p) ≡ true
place_self p = by (place_cmp p p) (place_total.antisymm p p)
  where
    by : (o : Ordering) → o ≡ Rattle.std.specs.Ordering.ordering_reverse o → is_eq o ≡ true
    by Less e = cc
    by Equal e = refl
    by Greater e = cc

eqb_self : (n m : ℕ) → n ≡ m → (n == m) ≡ true
eqb_self n m e = (Decides-eqb n m).1 e

-- a row at the place of a key has what the key has
at_has : (db : List Row) (t j : ℕ) (q : ℤ) (k : List ℤ) → is_part q (slice_get k j) ≡ true → list_any (is_at t k) db ≡ true →
    parts_have db t j q ≡ true
at_has db t j q k part = any_weaker (is_at t k) (has_part t j q) db one
  where
    one : (r : Row) → is_at t k r ≡ true → has_part t j q r ≡ true
    one r at =
        let same : (t, k) ≡ place_of r = one_place (t, k) (place_of r) (is_equal (place_cmp (t, k) (place_of r)) at) in
        and_true (r.table == t) (is_part q (slice_get r.key.parts j)) (eqb_self r.table t (sym (ap (λ p. p.0) same)))
        (ap (λ p. is_part q (slice_get p.1 j)) (sym same) ∙ part)

-- one of some keys that passes a test
any_there : (f : Place → Bool) (Q : Type 0) (ks : List Place) → ((p : Place) → f p ≡ true → list_any (λ k. is_eq (place_cmp p k)) ks ≡ true → Q) →
    list_any f ks ≡ true → Q
any_there f Q [] found h = absurd (false≢true h)
any_there f Q (x ∷ xs) found h =
    by (f x) refl h
    (any_there f Q xs (λ p e at. found p e (or_right (is_eq (place_cmp p x)) (list_any (λ k. is_eq (place_cmp p k)) xs) at)))
  where
    by : (b : Bool) → f x ≡ b → (b || list_any f xs) ≡ true → (list_any f xs ≡ true → Q) → Q
    by true e g ih = found x e (ap (λ b. b || list_any (λ k. is_eq (place_cmp x k)) xs) (place_self x))
    by false e g ih = ih g

module _ (db : List Row) (t j : ℕ) (q : ℤ) where
  given : (p : Place) → has_at t j q p ≡ true → list_any (is_at p.0 p.1) db ≡ true → parts_have db t j q ≡ true
  given p h there =
      let a = and_parts (p.0 == t) (is_part q (slice_get p.1 j)) h in
      let table : p.0 ≡ t = (Decides-eqb p.0 t).0 a.0 in
      at_has db t j q p.1 a.1 (subst (λ n. list_any (is_at n p.1) db ≡ true) table there)

  -- the place of a row has what the row has
  of_row : (r : Row) (p : Place) → has_part t j q r ≡ true → is_eq (place_cmp (place_of r) p) ≡ true → has_at t j q p ≡ true
  of_row r p has at = ap (has_at t j q) (sym (one_place (place_of r) p (is_equal (place_cmp (place_of r) p) at))) ∙ has

  kept : (places : BTreeSet Place) (rows : List Row) → Covers places rows → parts_have rows t j q ≡ true →
      list_any (has_at t j q) places.keys ≡ true
  kept places [] covers h = absurd (false≢true h)
  kept places (r ∷ rest) covers h = by (has_part t j q r) refl h (kept places rest covers.1)
    where
      by : (b : Bool) → has_part t j q r ≡ b → (b || parts_have rest t j q) ≡ true →
          (parts_have rest t j q ≡ true → list_any (has_at t j q) places.keys ≡ true) →
          list_any (has_at t j q) places.keys ≡ true
      by false e h ih = ih h
      by true e h ih =
          any_weaker (λ p. is_eq (place_cmp (place_of r) p)) (has_at t j q) places.keys (λ p at. of_row r p e at) covers.0

  pub there_all : (places : BTreeSet Place) → Covers places db → ((p : Place) → Stands places db p) →
      list_any (has_at t j q) places.keys ≡ parts_have db t j q
  there_all places covers stand =
      both_ways (list_any (has_at t j q) places.keys) (parts_have db t j q)
      (any_there (has_at t j q) (parts_have db t j q ≡ true) places.keys (λ p h there. given p h (stand p there)))
      (kept places db covers)

-- some are counted exactly where one is there
some_counted : (f : Place → Bool) (ks : List Place) → nat_le 1 (count_by f ks) ≡ list_any f ks
some_counted f [] = refl
some_counted f (x ∷ xs) = ap (nat_le 1) (sum_by-cons (λ y. cond (f y) 1 0) x xs) ∙ by (f x) (some_counted f xs)
  where
    by : (b : Bool) → nat_le 1 (count_by f xs) ≡ list_any f xs → nat_le 1 (cond b 1 0 + count_by f xs) ≡ (b || list_any f xs)
    by true ih = grind (arith, nat_tests)
    by false ih = ap (nat_le 1) (by_zero (count_by f xs)) ∙ ih
      where
        by_zero : (n : ℕ) → 0 + n ≡ n
        by_zero n = omega arith

-- what is told of a place of a table's keys
pub told_all : (noted : Noted) (db : List Row) (t j : ℕ) (q : ℤ) → Covers noted.places db → IsExact noted db →
    nat_le 1 (number_at noted.parts t j q) ≡ parts_have db t j q
told_all noted db t j q covers exact =
    ap (nat_le 1) (exact.counted t j q) ∙ some_counted (has_at t j q) noted.places.keys ∙ there_all db t j q noted.places covers exact.stand

-- ---- the values that are counted

same_flip : (x y : ℤ) → same x y ≡ true → same y x ≡ true
same_flip x y h = let e = same_is x y h in subst (λ z. same z x ≡ true) e (subst (λ z. same x z ≡ true) (sym e) h)

module _ (values : Values) (q : ℤ) where
  shown : (es : List (ℤ × ℕ)) → AllByRecursion (λ e. get int_cmp values e.0 ≡ Some e.1) es → list_any (shows q) es ≡ true →
      nat_le 1 (number values q) ≡ true
  shown [] found h = absurd (false≢true h)
  shown (e ∷ es) found h = by (shows q e) refl h (shown es found.1)
    where
      by : (b : Bool) → shows q e ≡ b → (b || list_any (shows q) es) ≡ true → (list_any (shows q) es ≡ true → nat_le 1 (number values q) ≡ true)
          → nat_le 1 (number values q) ≡ true
      by false s g ih = ih g
      by true s g ih =
          let parts = and_parts (nat_le 1 e.1) (same e.0 q) s in
          ap (λ o. nat_le 1 (counted o)) (ap (get int_cmp values) (sym (same_is e.0 q parts.1)) ∙ found.0) ∙ parts.0

  listed : (es : List (ℤ × ℕ)) → nat_le 1 (counted (lookup (λ k. is_eq (int_cmp q k)) es)) ≡ true → list_any (shows q) es ≡ true
  listed [] h = absurd (false≢true h)
  listed (e ∷ es) h = by (is_eq (int_cmp q e.0)) refl h (listed es)
    where
      by : (b : Bool) → is_eq (int_cmp q e.0) ≡ b → nat_le 1 (counted (cond b (Some e.1) (lookup (λ k. is_eq (int_cmp q k)) es))) ≡ true →
          (nat_le 1 (counted (lookup (λ k. is_eq (int_cmp q k)) es)) ≡ true → list_any (shows q) es ≡ true) → list_any (shows q) (e ∷ es) ≡ true
      by true s g ih = ap (λ b. b || list_any (shows q) es) (and_true (nat_le 1 e.1) (same e.0 q) g (same_flip q e.0 s))
      by false s g ih = or_right (shows q e) (list_any (shows q) es) (ih g)

  pub shown_all : All (λ e. get int_cmp values e.0 ≡ Some e.1) values.entries → list_any (shows q) values.entries ≡ nat_le 1 (number values q)
  shown_all found =
      both_ways (list_any (shows q) values.entries) (nat_le 1 (number values q))
      (shown values.entries (recursion_from_All (λ e. get int_cmp values e.0 ≡ Some e.1) values.entries found)) (listed values.entries)

-- ---- writes

pub covers_more : (a b : BTreeSet Place) (db : List Row) → Grows a b → Covers a db → Covers b db
covers_more a b [] grows covers = tt
covers_more a b (r ∷ db) grows covers = (grows (place_of r) covers.0, covers_more a b db grows covers.1)

covers_one : (places : BTreeSet Place) (w : Write) (db : List Row) → IsNoted places w → Covers places db → Covers places (write w db)
covers_one places (Puts r) db noted covers = put_all (λ r. contains place_cmp places (place_of r) ≡ true) r db noted covers
covers_one places (Gone t k) db noted covers = drop_all (λ r. contains place_cmp places (place_of r) ≡ true) t k.parts db covers

covers_all : (places : BTreeSet Place) (ws : List Write) (db : List Row) → AllByRecursion (IsNoted places) ws → Covers places db →
    Covers places (written ws db)
covers_all places [] db noted covers = covers
covers_all places (w ∷ ws) db noted covers = covers_all places ws (write w db) noted.1 (covers_one places w db noted.0 covers)

pub covers_written : (a b : BTreeSet Place) (ws : List Write) (db new : List Row) → Grows a b → All (IsNoted b) ws → Covers a db →
    new ≡ written ws db → Covers b new
covers_written a b ws db new grows noted covers is =
    subst (Covers b) (sym is) (covers_all b ws db (recursion_from_All (IsNoted b) ws noted) (covers_more a b db grows covers))

-- ---- places that are noted

cond_true : (b c : Bool) → c ≡ true → Rattle.std.specs.Prelude.cond b true c ≡ true
cond_true true c h = refl
cond_true false c h = h

pub noted_more : (a b : BTreeSet Place) (w : Write) → Grows a b → IsNoted a w → IsNoted b w
noted_more a b (Puts r) grows h = grows (place_of r) h
noted_more a b (Gone t k) grows h = tt

all_more : (a b : BTreeSet Place) (ws : List Write) (w : Write) → Grows a b → AllByRecursion (IsNoted a) ws → IsNoted b w →
    AllByRecursion (IsNoted b) (ws ++ w ∷ [])
all_more a b [] w grows all h = (h, tt)
all_more a b (v ∷ ws) w grows all h = (noted_more a b v grows all.0, all_more a b ws w grows all.1 h)

pub noted_step : (a b : BTreeSet Place) (ws : List Write) (i : ℕ) (w : Write) → i < length ws → w ≡ get_or ws i w → Grows a b →
    AllByRecursion (IsNoted a) (take i ws) → IsNoted b w → AllByRecursion (IsNoted b) (take (i + 1) ws)
noted_step a b ws i w within here grows all h =
    subst (AllByRecursion (IsNoted b)) (sym (take_more ws i w within ∙ ap (λ v. take i ws ++ v ∷ []) (sym here)))
    (all_more a b (take i ws) w grows all h)

pub noted_all : (a : BTreeSet Place) (ws : List Write) (i : ℕ) → length ws ≤ i → AllByRecursion (IsNoted a) (take i ws) → All (IsNoted a) ws
noted_all a ws i past all = All-from_recursion (IsNoted a) ws (subst (AllByRecursion (IsNoted a)) (take_all i ws past) all)

pub grows_by : (old new : BTreeSet Place) (key : Place) → Updates place_cmp old new key true → Grows old new
grows_by old new key u p h = u.0 p ∙ cond_true (is_at_key (place_cmp key) p) (contains place_cmp old p) h

pub only_by : (old new : BTreeSet Place) (key : Place) → Updates place_cmp old new key true → IsAllBut key old new
only_by old new key u p h = by (is_eq (place_cmp key p)) refl (sym (u.0 p) ∙ h)
  where
    by : (b : Bool) → is_eq (place_cmp key p) ≡ b → cond b true (contains place_cmp old p) ≡ true →
        (contains place_cmp old p || is_eq (place_cmp p key)) ≡ true
    by true e g = or_right (contains place_cmp old p) (is_eq (place_cmp p key)) (place_flip p key ∙ e)
    by false e g = ap (λ b. b || is_eq (place_cmp p key)) g

pub none_came : (places : BTreeSet Place) → AreWithin [] places places
none_came places p h = ap (λ b. b || false) h

either_of : (a b c : Bool) → ((a || b) || c) ≡ (a || (b || c))
either_of true b c = refl
either_of false b c = refl

pub only_step : (old mid new : BTreeSet Place) (ws : List Write) (i : ℕ) (w : Write) → i < length ws → w ≡ get_or ws i w →
    AreWithin (take i ws) old mid → IsAllBut (place_written w) mid new → AreWithin (take (i + 1) ws) old new
only_step old mid new ws i w within here all one p h = by (contains place_cmp mid p) refl (one p h)
  where
    naming : are_naming (take (i + 1) ws) p ≡ (are_naming (take i ws) p || names p w)
    naming = list_any_more (names p) ws i w within ∙ ap (λ x. are_naming (take i ws) p || names p x) (sym here)

    whole : ((contains place_cmp old p || are_naming (take i ws) p) || names p w) ≡ (contains place_cmp old p || are_naming (take (i + 1) ws) p)
    whole =
        either_of (contains place_cmp old p) (are_naming (take i ws) p) (names p w) ∙ ap (λ b. contains place_cmp old p || b) (sym naming)

    by : (b : Bool) → contains place_cmp mid p ≡ b → (b || names p w) ≡ true →
        (contains place_cmp old p || are_naming (take (i + 1) ws) p) ≡ true
    by true e g = sym whole ∙ ap (λ b. b || names p w) (all p e)
    by false e g = sym whole ∙ or_right (contains place_cmp old p || are_naming (take i ws) p) (names p w) g

any_past : (test : Write → Bool) (n : ℕ) (ws : List Write) → list_any test (take n ws) ≡ true → list_any test ws ≡ true
any_past test zero ws h = absurd (false≢true h)
any_past test (suc n) [] h = h
any_past test (suc n) (w ∷ ws) h = by (test w) h (any_past test n ws)
  where
    by : (b : Bool) → (b || list_any test (take n ws)) ≡ true → (list_any test (take n ws) ≡ true → list_any test ws ≡ true) →
        (b || list_any test ws) ≡ true
    by true g ih = refl
    by false g ih = ih g

pub only_past : (old new : BTreeSet Place) (ws : List Write) (n : ℕ) → AreWithin (take n ws) old new → AreWithin ws old new
only_past old new ws n within p h = by (contains place_cmp old p) (within p h)
  where
    by : (b : Bool) → (b || are_naming (take n ws) p) ≡ true → (b || are_naming ws p) ≡ true
    by true g = refl
    by false g = any_past (names p) n ws g

-- ---- answers that may fail

pub on_ok : {A E : Type 0} (P Q : Type 0) → (P → Q) → (r : Result A E) → OnOk r P → OnOk r Q
on_ok P Q f (Ok x) h = f h
on_ok P Q f (Err e) h = tt

-- ---- places that are forgotten

or_first : (a b : Bool) → (a || b) ≡ false → a ≡ false
or_first false b e = refl
or_first true b e = e

or_rest : (a b : Bool) → (a || b) ≡ false → b ≡ false
or_rest false b e = e
or_rest true b e = absurd (false≢true (sym e))

-- no row stands at the place that is forgotten
pub covers_without : (a b : BTreeSet Place) (p : Place) (db : List Row) → list_any (is_at p.0 p.1) db ≡ false → Updates place_cmp a b p false →
    Covers a db → Covers b db
covers_without a b p [] none u covers = tt
covers_without a b p (r ∷ db) none u covers = (
  u.2 (place_of r) (or_first (is_at p.0 p.1 r) (list_any (is_at p.0 p.1) db) none) ∙ covers.0,
  covers_without a b p db (or_rest (is_at p.0 p.1 r) (list_any (is_at p.0 p.1) db) none) u covers.1,
)

-- ---- where no row but one that is noted stands

or_one : (a b : Bool) → (a || b) ≡ true → b ≡ false → a ≡ true
or_one true b h e = refl
or_one false b h e = absurd (false≢true (sym e ∙ h))

stands_named : (places : BTreeSet Place) (db : List Row) (ws : List Write) (p : Place) →
    AllByRecursion (Stands places db) (map place_written ws) → are_naming ws p ≡ true → Stands places db p
stands_named places db [] p all h = absurd (false≢true h)
stands_named places db (w ∷ ws) p all h = by (names p w) refl h (stands_named places db ws p all.1)
  where
    by : (b : Bool) → names p w ≡ b → (b || are_naming ws p) ≡ true → (are_naming ws p ≡ true → Stands places db p) → Stands places db p
    by false e g ih = ih g
    by true e g ih = subst (Stands places db) (sym (place_is p (place_written w) e)) all.0

-- a row stands at each place behind the writes
pub stands_all : (ws : List Write) (db new : List Row) (old mid last : BTreeSet Place) → ((p : Place) → Stands old db p) →
    AreWithin ws old mid → Grows last mid → All (Stands last new) (map place_written ws) → new ≡ written ws db → (p : Place) → Stands last new p
stands_all ws db new old mid last stand within grows named is p there = by (are_naming ws p) refl
  where
    by : (b : Bool) → are_naming ws p ≡ b → list_any (is_at p.0 p.1) new ≡ true
    by true e = stands_named last new ws p (recursion_from_All (Stands last new) (map place_written ws) named) e there
    by false e =
        ap (list_any (is_at p.0 p.1)) is ∙ same_any ws db (λ k. is_eq (place_cmp p k)) e
        ∙ stand p (or_one (contains place_cmp old p) (are_naming ws p) (within p (grows p there)) e)

stands_more : (a b : BTreeSet Place) (db : List Row) (p : Place) → Grows b a → (ps : List Place) → AllByRecursion (Stands a db) ps →
    Stands b db p → AllByRecursion (Stands b db) (ps ++ p ∷ [])
stands_more a b db p grows [] all one = (one, tt)
stands_more a b db p grows (x ∷ ps) all one = (λ h. all.0 (grows x h), stands_more a b db p grows ps all.1 one)

pub stands_step : (a b : BTreeSet Place) (db : List Row) (ps : List Place) (i : ℕ) (p : Place) → i < length ps → p ≡ get_or ps i p →
    Grows b a → AllByRecursion (Stands a db) (take i ps) → Stands b db p → AllByRecursion (Stands b db) (take (i + 1) ps)
stands_step a b db ps i p within here grows all one =
    subst (AllByRecursion (Stands b db)) (sym (take_more ps i p within ∙ ap (λ x. take i ps ++ x ∷ []) (sym here)))
    (stands_more a b db p grows (take i ps) all one)

pub stands_past : (a : BTreeSet Place) (db : List Row) (ps : List Place) (i : ℕ) → length ps ≤ i → AllByRecursion (Stands a db) (take i ps) →
    All (Stands a db) ps
stands_past a db ps i past all = All-from_recursion (Stands a db) ps (subst (AllByRecursion (Stands a db)) (take_all i ps past) all)

-- what is known where nothing failed
pub settled : {A E : Type 0} (P Q : Type 0) (whole : Bool) (r : Result A E) → OnOk r P → OnOk r Q → still whole r ≡ true →
    (whole ≡ true) × P × Q
settled P Q whole (Ok x) p q h = (h, p, q)
settled P Q whole (Err e) p q h = absurd (false≢true h)
