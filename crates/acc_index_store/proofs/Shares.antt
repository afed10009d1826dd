-- Under which prefix a row counts.
use Rattle.std.proofs.Common.{◌≡◌, ◌<◌, ◌≤◌, Bool, true, false, ◌&&◌, cond, List, [], ◌∷◌, length, take, refl, sym, ap, ◌∙◌, subst}
use Rattle.std.proofs.Common.{Option, Some, None, arith, ℤ, if◌then◌else◌}
use Rattle.std.specs.Prelude.{find, ◌==◌, nat_le, option_map, unsigned_abs}
use Rattle.std.specs.List.{starts_with}
use Rattle.std.specs.declared.cmp.Ordering.{Ordering}
use Rattle.std.specs.declared.cmp.Ordering.TheVariants.{Less, Equal, Greater}
use Rattle.std.specs.Ordering.{int_cmp, int_eq, is_eq, ordering_then}
use Rattle.std.specs.Cmp.{both_ways, signed_Decides, unsigned_Decides}
use Rattle.std.specs.Cmp.Lexicographic.{slice_cmp}
use Rattle.std.proofs.lemmas.Bool.{and_parts, and_right, leb-true, leb-false}
use Rattle.std.proofs.lemmas.List.{length-take}
use Rattle.acc_base.specs.declared.bounds.TheConstants.{LARGEST_SUM}
use Rattle.acc_base.specs.declared.tables.Row.{Row}
use Rattle.acc_base.specs.Tables.{Place, place_of, is_at, is_under, cell}
use Rattle.acc_index_store.specs.declared.prefixes.Prefixes.{Prefixes}
use Rattle.acc_index_store.specs.declared.totals.Total.{Total}
use Rattle.acc_index_store.specs.declared.totals.Way.{Way}
use Rattle.acc_index_store.specs.declared.totals.Way.TheVariants.{In, Out}
use Rattle.acc_index_store.specs.Totals.{counted, Entries, is_same, found, Changes}
use Rattle.acc_index_store.specs.Indexes.{prefix_at, share, Moves, CanMove}
use Rattle.acc_index_store.proofs.Finding.{same_self}
use Rattle.acc_index_store.proofs.Naming.{place_is}

-- ---- keys that begin with a prefix

int_flip : (x y : ℤ) → int_eq x y ≡ int_eq y x
int_flip x y =
    both_ways (int_eq x y) (int_eq y x) (λ h. (signed_Decides y x).1 (sym ((signed_Decides x y).0 h)))
    (λ h. (signed_Decides x y).1 (sym ((signed_Decides y x).0 h)))

then_equal : (o r : Ordering) → is_eq (ordering_then o r) ≡ (is_eq o && is_eq r)
then_equal Less r = refl
then_equal Equal r = refl
then_equal Greater r = refl

pub starts_same : (q p : List ℤ) → length p ≤ length q → starts_with int_eq q p ≡ is_same (take (length p) q) p
starts_same q [] h = refl
starts_same [] (x ∷ p) h = absurd (omega arith)
starts_same (y ∷ q) (x ∷ p) h =
    ap (λ b. b && starts_with int_eq q p) (int_flip x y) ∙ ap (λ b. int_eq y x && b) (starts_same q p (omega arith)) ∙
    sym (then_equal (int_cmp y x) (slice_cmp int_cmp (take (length p) q) p))

pub starts_not : (q p : List ℤ) → length q < length p → starts_with int_eq q p ≡ false
starts_not q [] h = absurd (omega arith)
starts_not [] (x ∷ p) h = refl
starts_not (y ∷ q) (x ∷ p) h = and_right (int_eq x y) (starts_with int_eq q p) (starts_not q p (omega arith))

find_passes : (test : Row → Bool) (rows : List Row) (r : Row) → find test rows ≡ Some r → test r ≡ true
find_passes test [] r h = cc
find_passes test (x ∷ rows) r h = by (test x) refl h (find_passes test rows r)
  where
    by : (b : Bool) → test x ≡ b → cond b (Some x) (find test rows) ≡ Some r → (find test rows ≡ Some r → test r ≡ true) → test r ≡ true
    by true e f ih = let same : x ≡ r = cc in ap test (sym same) ∙ e
    by false e f ih = ih f

same_both : (b : Bool) (o : Option ℤ) → o ≡ cond b o o
same_both true o = refl
same_both false o = refl

-- ---- what a place's row adds

module _ (k : Prefixes) (q : Place) where
  abbrev pub counts : Bool
  counts = (k.table == q.0) && nat_le k.parts (length q.1)

  some_counts : (p : List ℤ) → Some p ≡ prefix_at k q → (counts ≡ true) × (p ≡ take k.parts q.1)
  some_counts p h = by counts refl h
    where
      by : (b : Bool) → counts ≡ b → Some p ≡ (if b then Some (take k.parts q.1) else None) → (counts ≡ true) × (p ≡ take k.parts q.1)
      by true e f = (e, cc)
      by false e f = absurd (cc)

  none_counts : None ≡ prefix_at k q → counts ≡ false
  none_counts h = by counts refl h
    where
      by : (b : Bool) → counts ≡ b → None ≡ (if b then Some (take k.parts q.1) else None) → counts ≡ false
      by true e f = absurd (cc)
      by false e f = e

  under_there : (p : List ℤ) → length p ≡ k.parts → counts ≡ true → ((q.0 == k.table) && starts_with int_eq q.1 p) ≡
      is_same (take k.parts q.1) p
  under_there p long h =
      let both = and_parts (k.table == q.0) (nat_le k.parts (length q.1)) h in
      let table : (q.0 == k.table) ≡ true = (unsigned_Decides q.0 k.table).1 (sym ((unsigned_Decides k.table q.0).0 both.0)) in
      let fits : length p ≤ length q.1 = let le = leb-true k.parts (length q.1) both.1 in omega arith in
      ap (λ b. b && starts_with int_eq q.1 p) table ∙ starts_same q.1 p fits ∙ ap (λ n. is_same (take n q.1) p) long

  under_not : (p : List ℤ) → length p ≡ k.parts → counts ≡ false → ((q.0 == k.table) && starts_with int_eq q.1 p) ≡ false
  under_not p long h = by (q.0 == k.table) refl
    where
      by : (b : Bool) → (q.0 == k.table) ≡ b → (b && starts_with int_eq q.1 p) ≡ false
      by false e = refl
      by true e =
          let table : (k.table == q.0) ≡ true = (unsigned_Decides k.table q.0).1 (sym ((unsigned_Decides q.0 k.table).0 e)) in
          let less : nat_le k.parts (length q.1) ≡ false = ap (λ b. b && nat_le k.parts (length q.1)) (sym table) ∙ h in
          let short = leb-false k.parts (length q.1) less in
          starts_not q.1 p (omega arith)

  under_is : (p : List ℤ) (r : Row) → is_at q.0 q.1 r ≡ true → is_under k.table p r ≡ ((q.0 == k.table) && starts_with int_eq q.1 p)
  under_is p r h =
      let same = place_is q (place_of r) h in
      λ i. ((sym same i).0 == k.table) && starts_with int_eq (sym same i).1 p

  module _ (rows : List Row) where
    abbrev pub row : Option Row
    row = find (is_at q.0 q.1) rows

    pub share_there : (p0 : List ℤ) → Some p0 ≡ prefix_at k q → (p : List ℤ) → length p ≡ k.parts →
        share k p row ≡ cond (is_same p0 p) (option_map (cell k.col) row) None
    share_there p0 h p long = by row refl
      where
        by : (o : Option Row) → row ≡ o → share k p o ≡ cond (is_same p0 p) (option_map (cell k.col) o) None
        by None e = same_both (is_same p0 p) None
        by (Some r) e =
            let is = some_counts p0 h in
            let under : is_under k.table p r ≡ is_same p0 p =
            under_is p r (find_passes (is_at q.0 q.1) rows r e) ∙ under_there p long is.0 ∙ ap (λ x. is_same x p) (sym is.1) in
            ap (λ b. if b then Some (cell k.col r) else None) under

    pub share_none : None ≡ prefix_at k q → (p : List ℤ) → length p ≡ k.parts → share k p row ≡ None
    share_none h p long = by row refl
      where
        by : (o : Option Row) → row ≡ o → share k p o ≡ None
        by None e = refl
        by (Some r) e =
            let under : is_under k.table p r ≡ false =
            under_is p r (find_passes (is_at q.0 q.1) rows r e) ∙ under_not p long (none_counts h) in
            ap (λ b. if b then Some (cell k.col r) else None) under

    counted_none : (way : Way) (v : Total) → counted way None v ≡ v
    counted_none In v = refl
    counted_none Out v = refl

    -- the total under the prefix changes by the row's value, and no other
    pub moves_there : (way : Way) (p0 : List ℤ) (x : Option ℤ) (es fs : Entries) → Some p0 ≡ prefix_at k q → x ≡
        option_map (cell k.col) row →
        Changes (counted way x) p0 es fs → Moves k way row es fs
    moves_there way p0 x es fs h value changes p long =
        changes p ∙ by (is_same p0 p) ∙ sym (ap (λ o. counted way o (found p es)) (share_there p0 h p long))
      where
        by : (b : Bool) → cond b (counted way x (found p es)) (found p es) ≡ counted way (cond b (option_map (cell k.col) row) None)
            (found p es)
        by true = ap (λ o. counted way o (found p es)) value
        by false = sym (counted_none way (found p es))

    pub moves_none : (way : Way) (es : Entries) → None ≡ prefix_at k q → Moves k way row es es
    moves_none way es h p long = sym (ap (λ o. counted way o (found p es)) (share_none h p long) ∙ counted_none way (found p es))

    pub can_there : (way : Way) (p0 : List ℤ) (x : Option ℤ) (es : Entries) → Some p0 ≡ prefix_at k q → x ≡ option_map (cell k.col) row →
        CanMove k way row es → unsigned_abs (counted way x (found p0 es)).sum ≤ LARGEST_SUM
    can_there way p0 x es h value can =
        let is = some_counts p0 h in
        let both = and_parts (k.table == q.0) (nat_le k.parts (length q.1)) is.0 in
        let le = leb-true k.parts (length q.1) both.1 in
        let long : length p0 ≡ k.parts = ap length is.1 ∙ omega (arith, length-take k.parts q.1) in
        let same : share k p0 row ≡ x =
        share_there p0 h p0 long ∙ ap (λ b. cond b (option_map (cell k.col) row) None) (same_self p0) ∙ sym value in
        subst (λ o. unsigned_abs (counted way o (found p0 es)).sum ≤ LARGEST_SUM) same (can p0 long)
