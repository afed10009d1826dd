-- What a change of one entry is to look-ups, to the order of keys and to their fitness.
use Rattle.std.proofs.Common.{◌≡◌, Bool, true, false, cond, List, [], ◌∷◌, ◌++◌, ℤ, ap, sym, ◌∙◌, refl, subst, Option, Some, None}
use Rattle.std.specs.Prelude.{MatchOption, is_some}
use Rattle.std.specs.List.{AllByRecursion}
use Rattle.std.specs.List.Sorted.{IsStrictlySortedBy}
use Rattle.std.specs.declared.cmp.Ordering.{Ordering}
use Rattle.std.specs.declared.cmp.Ordering.TheVariants.{Less, Equal, Greater}
use Rattle.std.specs.Ordering.{is_eq, match_ordering, ordering_reverse}
use Rattle.std.specs.Cmp.{IsTotalOrder, eq_by_cmp_equiv}
use Rattle.std.specs.Map.{keys_of, lookup, remove_entry, set_value}
use Rattle.std.specs.BTreeMap.{insert_entry, is_at as at}
use Rattle.std.proofs.lemmas.Map.{lookup-remove_entry, lookup-set_value, keys-set_value}
use Rattle.std.proofs.lemmas.Map.Keys.{IsDistinct-from_sorted}
use Rattle.acc_base.specs.Tables.{Place, place_cmp}
use Rattle.acc_base.proofs.Places.{place_total}
use Rattle.acc_store.specs.Contents.{Content}
use Rattle.acc_store.specs.Rows.{Entry, entry_at, IsUp, AreFit, IsFit, live, with_row, row_of}
use Rattle.acc_store.specs.Runs.{Alters}
use Rattle.acc_store.proofs.Laid.{all_inserted, all_removed, all_weaker}

module _ {K X : Type 0} {cmp : K → K → Ordering} (o : IsTotalOrder cmp) (k : K) where
  sorted_removed : (test : K → Bool) (es : List (K × X)) → IsStrictlySortedBy cmp (keys_of es) → IsStrictlySortedBy cmp
      (keys_of (remove_entry test es))
  unfolding IsStrictlySortedBy
  sorted_removed test [] s = tt
  sorted_removed test (e ∷ es) s = by (test e.0) (sorted_removed test es s.1)
    where
      by : (b : Bool) → IsStrictlySortedBy cmp (keys_of (remove_entry test es)) → IsStrictlySortedBy cmp
          (keys_of (cond b es (e ∷ remove_entry test es)))
      by true ih = s.1
      by false ih = (all_removed (λ q. cmp e.0 q ≡ Less) test es s.0, ih)

  sorted_inserted : (v : X) (es : List (K × X)) → IsStrictlySortedBy cmp (keys_of es) → IsStrictlySortedBy cmp
      (keys_of (insert_entry cmp es k v))
  unfolding IsStrictlySortedBy
  sorted_inserted v [] s = (tt, tt)
  sorted_inserted v (e ∷ es) s = by (cmp k e.0) refl (sorted_inserted v es s.1)
    where
      by : (c : Ordering) → cmp k e.0 ≡ c → IsStrictlySortedBy cmp (keys_of (insert_entry cmp es k v)) →
          IsStrictlySortedBy cmp (keys_of (match_ordering c ((k, v) ∷ e ∷ es) ((e.0, v) ∷ es) (e ∷ insert_entry cmp es k v)))
      by Less h ih = ((h, all_weaker (λ q. cmp e.0 q ≡ Less) (λ q. cmp k q ≡ Less) (λ q g. o.trans k e.0 q h g) es s.0), s)
      by Equal h ih = s
      by Greater h ih = (all_inserted (λ q. cmp e.0 q ≡ Less) cmp k v (o.antisymm e.0 k ∙ ap ordering_reverse h) es s.0, ih)

  -- what a look-up of q finds after v came to k
  lookup_inserted : (v : X) (q : K) (es : List (K × X)) →
      lookup (at (cmp q)) (insert_entry cmp es k v) ≡ cond (is_eq (cmp k q)) (Some v) (lookup (at (cmp q)) es)
  lookup_inserted v q [] = ap (λ b. cond b (Some v) None) ((eq_by_cmp_equiv o).symm q k)
  lookup_inserted v q (e ∷ es) = by (cmp k e.0) refl (lookup_inserted v q es)
    where
      rest : Option X
      rest = lookup (at (cmp q)) es

      twice : (b : Bool) → cond b (Some v) rest ≡ cond b (Some v) (cond b (Some e.1) rest)
      twice true = refl
      twice false = refl

      other : (b d : Bool) → (b ≡ true → d ≡ true → ⊥) → cond d (Some e.1) (cond b (Some v) rest) ≡ cond b (Some v) (cond d (Some e.1) rest)
      other true true h = absurd (h refl refl)
      other true false h = refl
      other false d h = refl

      by : (c : Ordering) → cmp k e.0 ≡ c → lookup (at (cmp q)) (insert_entry cmp es k v) ≡ cond (is_eq (cmp k q)) (Some v) rest →
          lookup (at (cmp q)) (match_ordering c ((k, v) ∷ e ∷ es) ((e.0, v) ∷ es) (e ∷ insert_entry cmp es k v)) ≡
          cond (is_eq (cmp k q)) (Some v) (cond (is_eq (cmp q e.0)) (Some e.1) rest)
      by Less h ih = ap (λ b. cond b (Some v) (cond (is_eq (cmp q e.0)) (Some e.1) rest)) ((eq_by_cmp_equiv o).symm q k)
      by Equal h ih =
          let same : is_eq (cmp k q) ≡ is_eq (cmp q e.0) = ap is_eq (o.congr k e.0 q h) ∙ (eq_by_cmp_equiv o).symm e.0 q in
          twice (is_eq (cmp q e.0)) ∙ ap (λ b. cond b (Some v) (cond (is_eq (cmp q e.0)) (Some e.1) rest)) (sym same)
      by Greater h ih =
          ap (cond (is_eq (cmp q e.0)) (Some e.1)) ih ∙ other (is_eq (cmp k q)) (is_eq (cmp q e.0))
          (λ a b. let e : true ≡ false = sym b ∙ sym ((eq_by_cmp_equiv o).congr k q e.0 a) ∙ ap is_eq h in cc)

pub up_inserted : (p : Place) (v : Content) (es : List Entry) → IsUp es → IsUp (insert_entry place_cmp es p v)
up_inserted p v es up = sorted_inserted place_total p v es up

pub up_removed : (p : Place) (es : List Entry) → IsUp es → IsUp (remove_entry (at (place_cmp p)) es)
up_removed p es up = sorted_removed place_total p (at (place_cmp p)) es up

pub at_inserted : (p : Place) (v : Content) (es : List Entry) (q : Place) → entry_at q (insert_entry place_cmp es p v) ≡ cond
    (at (place_cmp p) q) (Some v) (entry_at q es)
at_inserted p v es q = lookup_inserted place_total p v q es

pub at_removed : (p : Place) (es : List Entry) → IsUp es → (q : Place) → entry_at q (remove_entry (at (place_cmp p)) es) ≡ cond
    (at (place_cmp p) q) None (entry_at q es)
at_removed p es up q = lookup-remove_entry (eq_by_cmp_equiv place_total) (at (place_cmp p)) ((eq_by_cmp_equiv place_total).congr p) q es
    (IsDistinct-from_sorted place_cmp (keys_of es) up)

-- by whether there is an entry
module _ (p : Place) (P : Content → Content → Type 0) (es fs : List Entry) where
  pub alters_by : (G : Type 0) → Alters p P es fs → (entry_at p es ≡ None → fs ≡ es → G) →
      ((s t : Content) → entry_at p es ≡ Some s → P s t → fs ≡ set_value (at (place_cmp p)) es t →
      ((q : Place) → entry_at q fs ≡ cond (at (place_cmp p) q) (Some t) (entry_at q es)) → G) → G
  alters_by G h none some = by (entry_at p es) refl h
    where
      by : (f : Option Content) → entry_at p es ≡ f → MatchOption f (fs ≡ es)
          (λ s. (t : Content) × P s t × (fs ≡ set_value (at (place_cmp p)) es t)) → G
      by None e g = none e g
      by (Some s) e g = some s g.0 e g.1 g.2 (λ q. ap (entry_at q) g.2 ∙
          lookup-set_value (eq_by_cmp_equiv place_total) (at (place_cmp p)) ((eq_by_cmp_equiv place_total).congr p) q g.0 es (ap is_some e))

  pub alters_keys : Alters p P es fs → keys_of fs ≡ keys_of es
  alters_keys h = alters_by (keys_of fs ≡ keys_of es) h (λ e g. ap keys_of g)
      (λ s t e c g at. ap keys_of g ∙ keys-set_value (λ q. is_eq (place_cmp p q)) es t)

  pub alters_up : Alters p P es fs → IsUp es → IsUp fs
  alters_up h up = subst (IsStrictlySortedBy place_cmp) (sym (alters_keys h)) up

  pub alters_fit : Alters p P es fs → AreFit es → AreFit fs
  alters_fit h fit = subst (AllByRecursion IsFit) (sym (alters_keys h)) fit

pub up_none : IsUp []
unfolding IsStrictlySortedBy
up_none = tt

pub live_both : (es fs : List Entry) → live (es ++ fs) ≡ live es ++ live fs
live_both [] fs = refl
live_both (e ∷ es) fs = by e.1.cells (live_both es fs)
  where
    by : (v : Option (List ℤ)) → live (es ++ fs) ≡ live es ++ live fs → with_row e.0 v (live (es ++ fs)) ≡ with_row e.0 v (live es) ++ live
        fs
    by None ih = ih
    by (Some c) ih = ap (λ rows. row_of e.0 c ∷ rows) ih
