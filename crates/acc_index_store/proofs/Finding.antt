-- What a change of one entry makes of the totals under each prefix.
use Rattle.std.proofs.Common.{◌≡◌, Bool, true, false, cond, List, refl, sym, ap, ◌∙◌, Option, Some, None, ℤ, pos, Vec, Global, arith}
use Rattle.std.specs.Prelude.{is_some, ◌==◌}
use Rattle.std.specs.Ordering.{int_cmp, is_eq, eq_by_cmp, ordering_reverse}
use Rattle.std.specs.declared.cmp.Ordering.{Ordering}
use Rattle.std.specs.declared.cmp.Ordering.TheVariants.{Less, Equal, Greater}
use Rattle.std.specs.Cmp.Lexicographic.{slice_cmp, lists_total}
use Rattle.std.specs.Cmp.{int_cmp_total}
use Rattle.std.specs.Map.{KeepsOthers, IsKeyTest, AreApart}
use Rattle.std.specs.BTreeMap.{is_at}
use Rattle.std.proofs.lemmas.Bool.Decides.{nat_tests}
use Rattle.acc_base.proofs.Places.{one_place, is_equal}
use Rattle.acc_index_store.specs.declared.totals.Total.{Total}
use Rattle.acc_index_store.specs.Totals.{Entries, is_same, entry, or_none, found, has_total, is_blank_in, IsSame, KeepsRoom, Changes}

pub same_is : (p q : List ℤ) → is_same p q ≡ true → p ≡ q
same_is p q h = ap (λ x. x.1) (one_place (0, p) (0, q) (is_equal (slice_cmp int_cmp p q) h))

pub same_self : (p : List ℤ) → is_same p p ≡ true
same_self p = by (slice_cmp int_cmp p p) ((lists_total int_cmp_total).antisymm p p)
  where
    by : (o : Ordering) → o ≡ ordering_reverse o → is_eq o ≡ true
    by Less e = cc
    by Equal e = refl
    by Greater e = cc

pub is_other : (p q : List ℤ) → is_same q p ≡ false → is_same p q ≡ false
is_other p q h = by (is_same p q) refl
  where
    by : (b : Bool) → is_same p q ≡ b → b ≡ false
    by false e = refl
    by true e = let f : true ≡ false = sym (same_self p) ∙ ap (λ x. is_same x p) (same_is p q e) ∙ h in cc

-- the entries, where one prefix has another total
abbrev pub Rewrites : List ℤ → Option Total → Entries → Entries → Type 0
Rewrites q w es fs = (p : List ℤ) → entry p fs ≡ cond (is_same q p) w (entry p es)

abbrev pub key_cmp : Vec ℤ Global → Vec ℤ Global → Ordering
key_cmp x y = slice_cmp int_cmp x.items y.items

module _ (es fs : Entries) (q : List ℤ) where
  pub rewrites : (w : Option Total) → entry q fs ≡ w → KeepsOthers (eq_by_cmp key_cmp) (is_at (λ k. slice_cmp int_cmp q k.items)) es fs
      → Rewrites q w es fs
  unfolding KeepsOthers
  rewrites w here others p = by (is_same q p) refl
    where
      test : IsKeyTest (eq_by_cmp key_cmp) (is_at (λ k. slice_cmp int_cmp p k.items))
      test x y h = ap (λ xs. is_same xs y.items) (same_is p x.items h)

      apart : is_same q p ≡ false → AreApart (is_at (λ k. slice_cmp int_cmp q k.items)) (is_at (λ (k : Vec ℤ Global). slice_cmp int_cmp p
          k.items))
      apart e k h = is_other p k.items (ap (λ x. is_same x p) (sym (same_is q k.items h)) ∙ e)

      by : (b : Bool) → is_same q p ≡ b → entry p fs ≡ cond b w (entry p es)
      by true e = ap (λ x. entry x fs) (sym (same_is q p e)) ∙ here
      by false e = others (is_at (λ k. slice_cmp int_cmp p k.items)) test (apart e)

  pub changes_there : (v w : Total) (change : Total → Total) → entry q es ≡ Some v → w ≡ change v → Rewrites q (Some w) es fs
      → Changes change q es fs
  changes_there v w change there made new p = by (is_same q p) refl (new p)
    where
      by : (b : Bool) → is_same q p ≡ b → entry p fs ≡ cond b (Some w) (entry p es) → found p fs ≡ cond b (change (found p es)) (found p es)
      by true e f =
          let old : entry p es ≡ Some v = ap (λ x. entry x es) (sym (same_is q p e)) ∙ there in
          ap or_none f ∙ (made ∙ sym (ap (λ o. change (or_none o)) old))
      by false e f = ap or_none f

  pub keeps_room : (w : Total) → Rewrites q (Some w) es fs → KeepsRoom es fs
  keeps_room w new p old = by (is_same q p) (new p)
    where
      by : (b : Bool) → entry p fs ≡ cond b (Some w) (entry p es) → has_total fs p ≡ true
      by true f = ap is_some f
      by false f = ap is_some f ∙ old

  pub room_there : (w : Total) → Rewrites q (Some w) es fs → has_total fs q ≡ true
  room_there w new = ap is_some (new q) ∙ ap (λ b. is_some (cond b (Some w) (entry q es))) (same_self q)

  -- a prefix without a total gets one of no row
  pub same_made : has_total es q ≡ false → Rewrites q (Some (record { rows = 0; sum = pos 0 })) es fs → IsSame es fs
  same_made absent new p = by (is_same q p) refl (new p) (entry q es) refl
    where
      by : (b : Bool) → is_same q p ≡ b → entry p fs ≡ cond b (Some (record { rows = 0; sum = pos 0 })) (entry p es)
          → (o : Option Total) → entry q es ≡ o → found p fs ≡ found p es
      by false e f o g = ap or_none f
      by true e f None g = ap or_none f ∙ sym (ap or_none (ap (λ x. entry x es) (sym (same_is q p e)) ∙ g))
      by true e f (Some v) g = let h : true ≡ false = sym (ap is_some g) ∙ absent in cc

  -- a prefix loses its total, which is of no row
  pub same_gone : is_blank_in (entry q es) ≡ true → ((found q es).rows ≡ 0 → (found q es).sum ≡ pos 0) → Rewrites q None es fs →
      IsSame es fs
  same_gone blank none new p = by (is_same q p) refl (new p) (entry q es) refl
    where
      zero : (v : Total) → entry q es ≡ Some v → v ≡ record { rows = 0; sum = pos 0 }
      zero v g =
          let test : (v.rows == 0) ≡ true = sym (ap is_blank_in g) ∙ blank in
          let rows : v.rows ≡ 0 = grind (arith, nat_tests) in
          let at : found q es ≡ v = ap or_none g in
          let sum : v.sum ≡ pos 0 = sym (ap (λ x. x.sum) at) ∙ none (ap (λ x. x.rows) at ∙ rows) in
          λ i. record { rows = rows i; sum = sum i }

      by : (b : Bool) → is_same q p ≡ b → entry p fs ≡ cond b None (entry p es) → (o : Option Total) → entry q es ≡ o → found p fs ≡
          found p es
      by false e f o g = ap or_none f
      by true e f None g = ap or_none f ∙ sym (ap or_none (ap (λ x. entry x es) (sym (same_is q p e)) ∙ g))
      by true e f (Some v) g =
          ap or_none f ∙ sym (ap or_none (ap (λ x. entry x es) (sym (same_is q p e)) ∙ g) ∙ zero v g)
