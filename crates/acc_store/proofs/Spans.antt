-- The entries between two places are those whose keys begin with a prefix.
use Rattle.std.proofs.Common.{◌≡◌, ℕ, zero, suc, ◌+◌, ◌-◌, ◌<◌, ◌≤◌, length, Bool, true, false, not, ◌&&◌, cond, List, [], ◌∷◌, ◌++◌, ap}
use Rattle.std.proofs.Common.{sym, subst, ◌∙◌, refl, arith, ℤ, ◌<ℤ◌, Option, Some, None}
use Rattle.std.specs.Prelude.{filter, replicate, ◌==◌, ◌≤ℤ◌, Decides}
use Rattle.std.specs.List.{AllByRecursion, starts_with}
use Rattle.std.specs.declared.cmp.Ordering.{Ordering}
use Rattle.std.specs.declared.cmp.Ordering.TheVariants.{Less, Equal, Greater}
use Rattle.std.specs.Ordering.{nat_cmp, int_cmp, int_eq, is_eq, is_le, is_lt, is_gt, ordering_then, MatchOrdering}
use Rattle.std.specs.Cmp.{int_ranks, ranked, signed_Decides, unsigned_Decides}
use Rattle.std.specs.Cmp.Lexicographic.{slice_cmp}
use Rattle.std.specs.BTreeMap.Range.{range_contains}
use Rattle.std.specs.declared.ops.Bound.TheVariants.{Included}
use Rattle.std.proofs.lemmas.Int.{ints}
use Rattle.std.proofs.lemmas.List.Elements.{recursion_from_All}
use Rattle.acc_base.specs.Tables.{Place, place_cmp, is_under}
use Rattle.acc_base.proofs.Places.{one_place}
use Rattle.acc_store.specs.Places.{top}
use Rattle.acc_store.proofs.Live.{content}
use Rattle.acc_store.specs.Rows.{Entry, row_of, with_row, live, entry_at, is_below, entries_below, AreFit}

-- a prefix is not above its longer keys
before_last : (p : List ℤ) (k : ℕ) → is_gt (slice_cmp int_cmp p (p ++ replicate k top)) ≡ false
before_last [] zero = refl
before_last [] (suc k) = refl
before_last (x ∷ p) k = by (int_cmp x x) (int_ranks x x) (before_last p k)
  where
    by : (o : Ordering) → MatchOrdering o (x <ℤ x) (x ≡ x) (x <ℤ x) → is_gt (slice_cmp int_cmp p (p ++ replicate k top)) ≡ false →
        is_gt (ordering_then o (slice_cmp int_cmp p (p ++ replicate k top))) ≡ false
    by Less h ih = refl
    by Equal h ih = ih
    by Greater h ih = absurd (omega (arith, ints))

pub span_forward : (t : ℕ) (p : List ℤ) (k : ℕ) → is_gt (place_cmp (t, p) (t, p ++ replicate k top)) ≡ false
span_forward t p k = by (nat_cmp t t) (ranked t t (nat_cmp t t) refl)
  where
    by : (o : Ordering) → MatchOrdering o (t < t) (t ≡ t) (t < t) →
        is_gt (ordering_then o (slice_cmp int_cmp p (p ++ replicate k top))) ≡ false
    by Less h = refl
    by Equal h = before_last p k
    by Greater h = absurd (omega arith)

-- what is not above the greatest part isn't above it in a first place of keys
top_first : (x : ℤ) (o : Ordering) → x ≤ℤ top → is_lt o ≡ false → is_lt (ordering_then (int_cmp top x) o) ≡ false
top_first x o small later = by (int_cmp top x) (int_ranks top x)
  where
    by : (first : Ordering) → MatchOrdering first (top <ℤ x) (top ≡ x) (x <ℤ top) → is_lt (ordering_then first o) ≡ false
    by Less h = absurd (omega (arith, ints))
    by Equal h = later
    by Greater h = refl

unlike : (a x : ℤ) (b : Bool) → Decides b (a ≡ x) → (a ≡ x → ⊥) → false ≡ b
unlike a x true d n = absurd (n (d.0 refl))
unlike a x false d n = refl

-- no key of at most k parts is above k greatest parts
below_tops : (k : ℕ) (q : List ℤ) → AllByRecursion (λ x. x ≤ℤ top) q → length q ≤ k → is_lt (slice_cmp int_cmp (replicate k top) q) ≡ false
below_tops zero [] small fits = refl
below_tops (suc k) [] small fits = refl
below_tops zero (x ∷ q) small fits = absurd (omega arith)
below_tops (suc k) (x ∷ q) small fits = top_first x (slice_cmp int_cmp (replicate k top) q) small.0 (below_tops k q small.1 (omega arith))

key_between : (p q : List ℤ) (k : ℕ) → AllByRecursion (λ x. x ≤ℤ top) q → length q ≤ length p + k →
    (is_le (slice_cmp int_cmp p q) && not (is_lt (slice_cmp int_cmp (p ++ replicate k top) q))) ≡ starts_with int_eq q p
key_between [] [] k small fits = ap not (below_tops k [] small (omega arith))
key_between [] (x ∷ q) k small fits = ap not (below_tops k (x ∷ q) small (omega arith))
key_between (a ∷ p) [] k small fits = refl
key_between (a ∷ p) (x ∷ q) k small fits = by (int_cmp a x) (int_ranks a x) (key_between p q k small.1 (omega arith))
  where
    by : (o : Ordering) → MatchOrdering o (a <ℤ x) (a ≡ x) (x <ℤ a) →
        (is_le (slice_cmp int_cmp p q) && not (is_lt (slice_cmp int_cmp (p ++ replicate k top) q))) ≡ starts_with int_eq q p →
        (is_le (ordering_then o (slice_cmp int_cmp p q)) && not (is_lt (ordering_then o (slice_cmp int_cmp (p ++ replicate k top) q)))) ≡
        (int_eq a x && starts_with int_eq q p)
    by Less h ih = ap (λ b. b && starts_with int_eq q p) (unlike a x (int_eq a x) (signed_Decides a x) (λ e. omega (arith, ints)))
    by Equal h ih = ih ∙ ap (λ b. b && starts_with int_eq q p) (sym ((signed_Decides a x).1 h))
    by Greater h ih = ap (λ b. b && starts_with int_eq q p) (unlike a x (int_eq a x) (signed_Decides a x) (λ e. omega (arith, ints)))

place_between : (t : ℕ) (p : List ℤ) (k : ℕ) (q : Place) → AllByRecursion (λ x. x ≤ℤ top) q.1 → length q.1 ≤ length p + k →
    (is_le (place_cmp (t, p) q) && not (is_lt (place_cmp (t, p ++ replicate k top) q))) ≡ is_below t p q
place_between t p k q small fits = by (nat_cmp t q.0) (ranked t q.0 (nat_cmp t q.0) refl)
  where
    unlike_table : (b : Bool) → Decides b (q.0 ≡ t) → (q.0 ≡ t → ⊥) → false ≡ b
    unlike_table true d n = absurd (n (d.0 refl))
    unlike_table false d n = refl

    by : (o : Ordering) → MatchOrdering o (t < q.0) (t ≡ q.0) (q.0 < t) →
        (is_le (ordering_then o (slice_cmp int_cmp p q.1)) && not (is_lt (ordering_then o (slice_cmp int_cmp (p ++ replicate k top) q.1))))
        ≡ is_below t p q
    by Less h = ap (λ b. b && starts_with int_eq q.1 p) (unlike_table (q.0 == t) (unsigned_Decides q.0 t) (λ e. omega arith))
    by Equal h = key_between p q.1 k small fits ∙ ap (λ b. b && starts_with int_eq q.1 p) (sym ((unsigned_Decides q.0 t).1 (sym h)))
    by Greater h = ap (λ b. b && starts_with int_eq q.1 p) (unlike_table (q.0 == t) (unsigned_Decides q.0 t) (λ e. omega arith))

pub span_is : (t : ℕ) (p : List ℤ) (es : List Entry) → length p ≤ 6 → AreFit es →
    filter (λ e. range_contains place_cmp (Included (t, p)) (Included (t, p ++ replicate (6 - length p) top)) e.0) es ≡ entries_below t p es
span_is t p [] short fit = refl
span_is t p (e ∷ es) short fit =
    let fits : length e.0.1 ≤ length p + (6 - length p) = let few = fit.0.short in omega arith in
    λ i. cond (place_between t p (6 - length p) e.0 (recursion_from_All (λ x. x ≤ℤ top) e.0.1 fit.0.parts) fits i)
    (e ∷ span_is t p es short fit.1 i) (span_is t p es short fit.1 i)

-- the rows of the entries whose keys begin with a prefix
pub live_below : (t : ℕ) (p : List ℤ) (es : List Entry) → live (entries_below t p es) ≡ filter (is_under t p) (live es)
live_below t p [] = refl
live_below t p (e ∷ es) = by (is_below t p e.0) refl e.1.cells (live_below t p es)
  where
    by : (b : Bool) → is_below t p e.0 ≡ b → (v : Option (List ℤ)) → live (entries_below t p es) ≡ filter (is_under t p) (live es) →
        live (cond b ((e.0, content v e.1.room) ∷ entries_below t p es) (entries_below t p es)) ≡ filter (is_under t p)
        (with_row e.0 v (live es))
    by true h None ih = ih
    by false h None ih = ih
    by true h (Some c) ih = ap (λ rows. row_of e.0 c ∷ rows) ih ∙ sym
        (ap (λ b. cond b (row_of e.0 c ∷ filter (is_under t p) (live es)) (filter (is_under t p) (live es))) h)
    by false h (Some c) ih = ih ∙ sym (ap (λ b. cond b (row_of e.0 c ∷ filter (is_under t p) (live es)) (filter (is_under t p) (live es)))
        h)

-- ---- keys of more parts than are kept

starts_short : (q p : List ℤ) → length q < length p → starts_with int_eq q p ≡ false
starts_short q [] h = absurd (omega arith)
starts_short [] (x ∷ p) h = refl
starts_short (y ∷ q) (x ∷ p) h = ap (λ b. int_eq x y && b) (starts_short q p (omega arith)) ∙ never (int_eq x y)
  where
    never : (b : Bool) → (b && false) ≡ false
    never true = refl
    never false = refl

below_long : (t : ℕ) (p : List ℤ) (es : List Entry) → 6 < length p → AreFit es → entries_below t p es ≡ []
below_long t p [] long fit = refl
below_long t p (e ∷ es) long fit =
    let short = fit.0.short in
    ap (λ b. cond b (e ∷ entries_below t p es) (entries_below t p es)) (none (e.0.0 == t) (starts_short e.0.1 p (omega arith))) ∙ below_long
    t p es long
    fit.1
  where
    none : (b : Bool) → starts_with int_eq e.0.1 p ≡ false → (b && starts_with int_eq e.0.1 p) ≡ false
    none true h = h
    none false h = refl

-- no row's key begins with a longer one
pub none_under : (t : ℕ) (p : List ℤ) (es : List Entry) → 6 < length p → AreFit es → filter (is_under t p) (live es) ≡ []
none_under t p es long fit = sym (live_below t p es) ∙ ap live (below_long t p es long fit)

-- and none has one
pub entry_long : (t : ℕ) (k : List ℤ) (es : List Entry) → 6 < length k → AreFit es → entry_at (t, k) es ≡ None
entry_long t k [] long fit = refl
entry_long t k (e ∷ es) long fit = by (place_cmp (t, k) e.0) refl (entry_long t k es long fit.1)
  where
    by : (o : Ordering) → place_cmp (t, k) e.0 ≡ o → entry_at (t, k) es ≡ None → cond (is_eq o) (Some e.1) (entry_at (t, k) es) ≡ None
    by Less h ih = ih
    by Greater h ih = ih
    by Equal h ih =
        let same = one_place (t, k) e.0 h in
        let short = fit.0.short in
        let few : length k ≤ 6 = subst (λ (q : Place). length q.1 ≤ 6) (sym same) short in
        absurd (omega arith)
