-- The parts after a prefix rise along entries in order.
use Rattle.std.proofs.Common.{◌≡◌, ℕ, ◌<◌, Bool, true, false, cond, List, [], ◌∷◌, length, sym, ◌∙◌, refl, arith, ℤ, ◌<ℤ◌, Option, Some}
use Rattle.std.proofs.Common.{None}
use Rattle.std.specs.Prelude.{◌≤ℤ◌, ◌==◌, slice_get}
use Rattle.std.specs.List.{AllByRecursion, starts_with}
use Rattle.std.specs.List.Sorted.{IsStrictlySortedBy}
use Rattle.std.specs.declared.cmp.Ordering.{Ordering}
use Rattle.std.specs.declared.cmp.Ordering.TheVariants.{Less, Equal, Greater}
use Rattle.std.specs.Ordering.{nat_cmp, int_cmp, int_eq, ordering_then, MatchOrdering}
use Rattle.std.specs.Cmp.{int_ranks, ranked, signed_Decides, unsigned_Decides, first_so, second_so}
use Rattle.std.specs.Cmp.Lexicographic.{slice_cmp}
use Rattle.std.specs.Map.{keys_of}
use Rattle.std.proofs.lemmas.Int.{ints}
use Rattle.acc_base.specs.Tables.{Place, place_cmp, parts_at, with_part}
use Rattle.acc_store.proofs.Live.{content}
use Rattle.acc_store.specs.Rows.{Entry, live, is_below, entries_below, IsUp, IsRising}

key_rises : (p a b : List ℤ) → starts_with int_eq a p ≡ true → starts_with int_eq b p ≡ true → slice_cmp int_cmp a b ≡ Less → (x y : ℤ) →
    slice_get a (length p) ≡ Some x → slice_get b (length p) ≡ Some y → x ≤ℤ y
key_rises [] [] b sa sb h x y ex ey = cc
key_rises [] (c ∷ a) [] sa sb h x y ex ey = cc
key_rises [] (c ∷ a) (d ∷ b) sa sb h x y ex ey = by (int_cmp c d) (int_ranks c d) h
  where
    by : (o : Ordering) → MatchOrdering o (c <ℤ d) (c ≡ d) (d <ℤ c) → ordering_then o (slice_cmp int_cmp a b) ≡ Less → x ≤ℤ y
    by Less g e = let f : c ≡ x = cc in let k : d ≡ y = cc in omega (arith, ints)
    by Equal g e = let f : c ≡ x = cc in let k : d ≡ y = cc in omega (arith, ints)
    by Greater g e = cc
key_rises (q ∷ p) [] b sa sb h x y ex ey = cc
key_rises (q ∷ p) (c ∷ a) [] sa sb h x y ex ey = cc
key_rises (q ∷ p) (c ∷ a) (d ∷ b) sa sb h x y ex ey =
    let ca : q ≡ c = (signed_Decides q c).0 (first_so (int_eq q c) (starts_with int_eq a p) sa) in
    let db : q ≡ d = (signed_Decides q d).0 (first_so (int_eq q d) (starts_with int_eq b p) sb) in
    by (int_cmp c d) (int_ranks c d) (sym ca ∙ db) h
    (λ g. key_rises p a b (second_so (int_eq q c) (starts_with int_eq a p) sa) (second_so (int_eq q d) (starts_with int_eq b p) sb) g x
    y ex ey)
  where
    by : (o : Ordering) → MatchOrdering o (c <ℤ d) (c ≡ d) (d <ℤ c) → c ≡ d → ordering_then o (slice_cmp int_cmp a b) ≡ Less →
        (slice_cmp int_cmp a b ≡ Less → x ≤ℤ y) → x ≤ℤ y
    by Less g e f k = absurd (omega (arith, ints))
    by Equal g e f k = k f
    by Greater g e f k = cc

module _ (t : ℕ) (p : List ℤ) where
  place_rises : (a b : Place) → is_below t p a ≡ true → is_below t p b ≡ true → place_cmp a b ≡ Less → (x y : ℤ) →
      slice_get a.1 (length p) ≡ Some x → slice_get b.1 (length p) ≡ Some y → x ≤ℤ y
  place_rises a b ha hb h x y ex ey =
      let ta : a.0 ≡ t = (unsigned_Decides a.0 t).0 (first_so (a.0 == t) (starts_with int_eq a.1 p) ha) in
      let tb : b.0 ≡ t = (unsigned_Decides b.0 t).0 (first_so (b.0 == t) (starts_with int_eq b.1 p) hb) in
      by (nat_cmp a.0 b.0) (ranked a.0 b.0 (nat_cmp a.0 b.0) refl) (ta ∙ sym tb) h
      (λ g. key_rises p a.1 b.1 (second_so (a.0 == t) (starts_with int_eq a.1 p) ha)
      (second_so (b.0 == t) (starts_with int_eq b.1 p) hb) g x y ex ey)
    where
      by : (o : Ordering) → MatchOrdering o (a.0 < b.0) (a.0 ≡ b.0) (b.0 < a.0) → a.0 ≡ b.0 →
          ordering_then o (slice_cmp int_cmp a.1 b.1) ≡ Less → (slice_cmp int_cmp a.1 b.1 ≡ Less → x ≤ℤ y) → x ≤ℤ y
      by Less g e f k = absurd (omega arith)
      by Equal g e f k = k f
      by Greater g e f k = cc

  -- a part of an earlier place is not above the parts of later ones
  first_rises : (a : Place) (x : ℤ) (es : List Entry) → is_below t p a ≡ true → slice_get a.1 (length p) ≡ Some x →
      AllByRecursion (λ q. place_cmp a q ≡ Less) (keys_of es) → AllByRecursion (λ y. x ≤ℤ y)
      (parts_at (length p) (live (entries_below t p es)))
  first_rises a x [] ha ex h = tt
  first_rises a x (e ∷ es) ha ex h = by (is_below t p e.0) refl e.1.cells (first_rises a x es ha ex h.1)
    where
      add : (v : Option ℤ) → ((y : ℤ) → v ≡ Some y → x ≤ℤ y) → AllByRecursion (λ y. x ≤ℤ y)
          (parts_at (length p) (live (entries_below t p es))) →
          AllByRecursion (λ y. x ≤ℤ y) (with_part v (parts_at (length p) (live (entries_below t p es))))
      add None g ih = ih
      add (Some y) g ih = (g y refl, ih)

      by : (b : Bool) → is_below t p e.0 ≡ b → (v : Option (List ℤ)) →
          AllByRecursion (λ y. x ≤ℤ y) (parts_at (length p) (live (entries_below t p es))) →
          AllByRecursion (λ y. x ≤ℤ y) (parts_at (length p) (live (cond b ((e.0, content v e.1.room) ∷ entries_below t p es)
          (entries_below t p es))))
      by false g v ih = ih
      by true g None ih = ih
      by true g (Some c) ih = add (slice_get e.0.1 (length p)) (λ y ey. place_rises a e.0 ha g h.0 x y ex ey) ih

  pub parts_rise : (es : List Entry) → IsUp es → IsRising (parts_at (length p) (live (entries_below t p es)))
  unfolding IsStrictlySortedBy
  parts_rise [] up = tt
  parts_rise (e ∷ es) up = by (is_below t p e.0) refl e.1.cells (parts_rise es up.1)
    where
      add : (v : Option ℤ) → slice_get e.0.1 (length p) ≡ v → is_below t p e.0 ≡ true →
          IsRising (parts_at (length p) (live (entries_below t p es))) → IsRising
          (with_part v (parts_at (length p) (live (entries_below t p es))))
      add None g b ih = ih
      add (Some x) g b ih = (first_rises e.0 x es b g up.0, ih)

      by : (b : Bool) → is_below t p e.0 ≡ b → (v : Option (List ℤ)) → IsRising (parts_at (length p) (live (entries_below t p es))) →
          IsRising (parts_at (length p) (live (cond b ((e.0, content v e.1.room) ∷ entries_below t p es) (entries_below t p es))))
      by false g v ih = ih
      by true g None ih = ih
      by true g (Some c) ih = add (slice_get e.0.1 (length p)) refl g ih
