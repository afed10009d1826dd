-- What writes leave as it was: rows that pass a test of their places, which no place that is written passes.
use Rattle.std.proofs.Common.{◌≡◌, Bool, true, false, ◌||◌, cond, List, [], ◌∷◌, length, refl, sym, ap, ◌∙◌, Some, not}
use Rattle.std.specs.Prelude.{filter, find, count_by}
use Rattle.std.specs.List.{list_any, AllByRecursion}
use Rattle.std.proofs.lemmas.Bool.{false≢true, or_parts}
use Rattle.std.proofs.lemmas.List.Sums.{length-filter}
use Rattle.std.proofs.lemmas.Map.Views.{any-filter_same}
use Rattle.acc_base.specs.declared.tables.Row.{Row}
use Rattle.acc_base.specs.Tables.{Place, place_of}
use Rattle.acc_store.specs.declared.writes.Write.{Write}
use Rattle.acc_store.specs.Rows.{written}
use Rattle.acc_index_store.specs.Indexes.{place_written, names, are_naming}
use Rattle.acc_index_store.proofs.Naming.{place_is}
use Rattle.acc_index_store.proofs.Written.{others_kept}

-- ---- tests of lists

module _ {X : Type 0} where
  pub none_weaker : (p q : X → Bool) → ((x : X) → q x ≡ false → p x ≡ false) → (xs : List X) → list_any q xs ≡ false → list_any p xs ≡ false
  none_weaker p q weaker [] h = refl
  none_weaker p q weaker (x ∷ xs) h =
      let parts = or_parts (q x) (list_any q xs) h in
      ap (λ b. b || list_any p xs) (weaker x parts.0) ∙ none_weaker p q weaker xs parts.1

  pub none_of : (p : X → Bool) (xs : List X) → list_any p xs ≡ false → AllByRecursion (λ x. p x ≡ false) xs
  none_of p [] h = tt
  none_of p (x ∷ xs) h = let parts = or_parts (p x) (list_any p xs) h in (parts.0, none_of p xs parts.1)

  nothing_any : (xs : List X) → list_any (λ x. false) xs ≡ false
  nothing_any [] = refl
  nothing_any (x ∷ xs) = nothing_any xs

  -- what passes a test within those that pass a weaker one
  module _ (test p : X → Bool) (weaker : (x : X) → test x ≡ true → p x ≡ true) where
    filter_within : (xs : List X) → filter test (filter p xs) ≡ filter test xs
    filter_within [] = refl
    filter_within (x ∷ xs) = by (test x) refl (p x) refl (filter_within xs)
      where
        by : (b : Bool) → test x ≡ b → (c : Bool) → p x ≡ c → filter test (filter p xs) ≡ filter test xs →
            filter test (cond c (x ∷ filter p xs) (filter p xs)) ≡ cond b (x ∷ filter test xs) (filter test xs)
        by b e true f ih =
            ap (λ d. cond d (x ∷ filter test (filter p xs)) (filter test (filter p xs))) e ∙ ap (λ ys. cond b (x ∷ ys) ys) ih
        by true e false f ih = absurd (false≢true (sym f ∙ weaker x e))
        by false e false f ih = ih

    find_within : (xs : List X) → find test (filter p xs) ≡ find test xs
    find_within [] = refl
    find_within (x ∷ xs) = by (test x) refl (p x) refl (find_within xs)
      where
        by : (b : Bool) → test x ≡ b → (c : Bool) → p x ≡ c → find test (filter p xs) ≡ find test xs →
            find test (cond c (x ∷ filter p xs) (filter p xs)) ≡ cond b (Some x) (find test xs)
        by b e true f ih = ap (λ d. cond d (Some x) (find test (filter p xs))) e ∙ ap (λ o. cond b (Some x) o) ih
        by true e false f ih = absurd (false≢true (sym f ∙ weaker x e))
        by false e false f ih = ih

-- ---- places that no write names

-- what passes a test that the place of no write passes isn't named
unnamed_from : (test : Place → Bool) (ws : List Write) → list_any (λ w. test (place_written w)) ws ≡ false → (p : Place) → test p ≡ true →
    are_naming ws p ≡ false
unnamed_from test [] none p h = refl
unnamed_from test (w ∷ ws) none p h =
    let parts = or_parts (test (place_written w)) (list_any (λ v. test (place_written v)) ws) none in
    by (names p w) refl parts.0 (unnamed_from test ws parts.1 p h)
  where
    by : (b : Bool) → names p w ≡ b → test (place_written w) ≡ false → are_naming ws p ≡ false → (b || are_naming ws p) ≡ false
    by true e other ih = absurd (false≢true (sym other ∙ ap test (sym (place_is p (place_written w) e)) ∙ h))
    by false e other ih = ih

module _ (ws : List Write) (before : List Row) where
  abbrev now : List Row
  now = written ws before

  module _ (test : Place → Bool) (none : list_any (λ w. test (place_written w)) ws ≡ false) where
    abbrev passes : Row → Bool
    passes r = test (place_of r)

    abbrev unnamed : Row → Bool
    unnamed r = not (are_naming ws (place_of r))

    row_unnamed : (r : Row) → passes r ≡ true → unnamed r ≡ true
    row_unnamed r h = ap not (unnamed_from test ws none (place_of r) h)

    -- the rows that pass the test are the same
    pub same_filter : filter passes now ≡ filter passes before
    same_filter =
        sym (filter_within passes unnamed row_unnamed now) ∙ ap (filter passes) (others_kept ws before)
        ∙ filter_within passes unnamed row_unnamed before

    pub same_find : find passes now ≡ find passes before
    same_find =
        sym (find_within passes unnamed row_unnamed now) ∙ ap (find passes) (others_kept ws before)
        ∙ find_within passes unnamed row_unnamed before

    pub same_any : list_any passes now ≡ list_any passes before
    same_any =
        sym (any-filter_same passes unnamed true row_unnamed now) ∙ ap (list_any passes) (others_kept ws before)
        ∙ any-filter_same passes unnamed true row_unnamed before

    pub same_count : count_by passes now ≡ count_by passes before
    same_count = sym (length-filter passes now) ∙ ap length same_filter ∙ length-filter passes before
