-- Blank entries: where a change leaves one, and that none is left once each write's is forgotten.
use Rattle.std.proofs.Common.{◌≡◌, ℕ, ◌+◌, ◌<◌, ◌≤◌, subst, Bool, true, false, cond, not, ◌&&◌, ◌||◌, List, [], length, get_or, take, drop}
use Rattle.std.proofs.Common.{ap, sym, ◌∙◌, refl, Option, None}
use Rattle.std.specs.List.{list_any}
use Rattle.std.specs.BTreeMap.{is_at as at}
use Rattle.std.proofs.lemmas.List.{drop_more, drop_all, take_all, take-append-drop}
use Rattle.std.proofs.lemmas.List.Folds.{list_any_more, list_any-append}
use Rattle.acc_base.specs.Tables.{Place, place_cmp}
use Rattle.acc_base.proofs.Places.{one_place, is_equal}
use Rattle.acc_store.specs.declared.writes.Write.{Write}
use Rattle.acc_store.specs.Contents.{Content}
use Rattle.acc_store.specs.Rows.{Entry, entry_at, is_blank, is_blank_at, BlanksAre, HasNoBlank, AddsBlanks, ClearsBlanks, WritesBlanks}
use Rattle.acc_store.specs.Rows.{is_put, is_gone, leaves_blank}

-- ---- a change of the entry at one place

module _ (es fs : List Entry) (p : Place) (o : Option Content)
    (new : (q : Place) → entry_at q fs ≡ cond (at (place_cmp p) q) o (entry_at q es)) where
  -- it adds a blank there at most
  pub change_adds : AddsBlanks (at (place_cmp p)) es fs
  change_adds q h = by (at (place_cmp p) q) (sym (ap is_blank (new q)) ∙ h)
    where
      last : (b : Bool) → (b || true) ≡ true
      last true = refl
      last false = refl

      first : (b c : Bool) → b ≡ true → (b || c) ≡ true
      first b c g = ap (λ x. x || c) g

      by : (b : Bool) → is_blank (cond b o (entry_at q es)) ≡ true → (is_blank_at es q || b) ≡ true
      by true g = last (is_blank_at es q)
      by false g = first (is_blank_at es q) false g

  -- and clears it where it leaves no blank
  pub change_clears : is_blank o ≡ false → ClearsBlanks (at (place_cmp p)) es fs
  change_clears none q h = by (at (place_cmp p) q) (sym (ap is_blank (new q)) ∙ h)
    where
      by : (b : Bool) → is_blank (cond b o (entry_at q es)) ≡ true → (is_blank_at es q && not b) ≡ true
      by true g = let e : false ≡ true = sym none ∙ g in cc
      by false g = ap (λ x. x && true) g

-- entries that stay as they are
pub same_adds : (test : Place → Bool) (es fs : List Entry) → fs ≡ es → AddsBlanks test es fs
same_adds test es fs same q h = ap (λ x. x || test q) (ap (λ xs. is_blank_at xs q) (sym same) ∙ h)

-- and clear a place that has no blank
pub none_clears : (es : List Entry) (p : Place) → is_blank_at es p ≡ false → ClearsBlanks (at (place_cmp p)) es es
none_clears es p none q h = by (at (place_cmp p) q) refl
  where
    by : (b : Bool) → at (place_cmp p) q ≡ b → (is_blank_at es q && not b) ≡ true
    by true e =
        let same : p ≡ q = one_place p q (is_equal (place_cmp p q) e) in
        let f : false ≡ true = sym none ∙ ap (is_blank_at es) same ∙ h in
        cc
    by false e = ap (λ x. x && true) h

pub absent_clears : (es : List Entry) (p : Place) → entry_at p es ≡ None → ClearsBlanks (at (place_cmp p)) es es
absent_clears es p none = none_clears es p (ap is_blank none)

-- ---- write by write

gone_none : (q : Place) (P G g b p : Bool) → (g || (b && not p)) ≡ true → (b ≡ true → ((p || P) || G) ≡ true) → (P || (G || g)) ≡ true
gone_none q true G g b p h ih = refl
gone_none q false true g b p h ih = refl
gone_none q false false true b p h ih = refl
gone_none q false false false true true h ih = cc
gone_none q false false false true false h ih = ih refl
gone_none q false false false false p h ih = cc

left_none : (R l b : Bool) → (b && not l) ≡ true → (b ≡ true → (l || R) ≡ true) → R ≡ true
left_none R l false h ih = cc
left_none R true true h ih = cc
left_none R false true h ih = ih refl

added : (T p b : Bool) → (b || p) ≡ true → (b ≡ true → T ≡ true) → (T || p) ≡ true
added true p b h ih = refl
added false p true h ih = let e : false ≡ true = ih refl in cc
added false p false h ih = h

module _ (ws : List Write) (i : ℕ) (w : Write) (within : i < length ws) (here : w ≡ get_or ws i w) where
  any_rest : (test : Write → Bool) → list_any test (drop i ws) ≡ (test w || list_any test (drop (i + 1) ws))
  any_rest test = ap (list_any test) (drop_more ws i w within) ∙ ap (λ x. test x || list_any test (drop (i + 1) ws)) (sym here)

  any_more : (test : Write → Bool) → list_any test (take (i + 1) ws) ≡ (list_any test (take i ws) || test w)
  any_more test = list_any_more test ws i w within ∙ ap (λ x. list_any test (take i ws) || test x) (sym here)

  -- one more write has room
  pub blanks_more : (es fs : List Entry) → AddsBlanks (λ p. is_put p w) es fs →
      BlanksAre is_put (take i ws) es → BlanksAre is_put (take (i + 1) ws) fs
  blanks_more es fs adds so_far q h =
      any_more (is_put q) ∙ added (list_any (is_put q) (take i ws)) (is_put q w) (is_blank_at es q) (adds q h) (so_far q)

  -- one more write is done
  pub blanks_written : (es fs : List Entry) → WritesBlanks w es fs →
      ((q : Place) → is_blank_at es q ≡ true → (list_any (is_put q) (drop i ws) || list_any (is_gone q) (take i ws)) ≡ true) →
      (q : Place) → is_blank_at fs q ≡ true → (list_any (is_put q) (drop (i + 1) ws) || list_any (is_gone q) (take (i + 1) ws)) ≡ true
  blanks_written es fs writes so_far q h =
      let puts = list_any (is_put q) (drop (i + 1) ws) in
      let gone = list_any (is_gone q) (take i ws) in
      ap (λ b. puts || b) (any_more (is_gone q)) ∙
      gone_none q puts gone (is_gone q w) (is_blank_at es q) (is_put q w) (writes q h)
      (λ e. ap (λ b. b || gone) (sym (any_rest (is_put q))) ∙ so_far q e)

  -- one more write's blank is forgotten
  pub blanks_forgotten : (were_put : Bool) (es fs : List Entry) → ClearsBlanks (λ p. leaves_blank were_put p w) es fs →
      BlanksAre (leaves_blank were_put) (drop i ws) es → BlanksAre (leaves_blank were_put) (drop (i + 1) ws) fs
  blanks_forgotten were_put es fs clears left q h =
      left_none (list_any (leaves_blank were_put q) (drop (i + 1) ws)) (leaves_blank were_put q w) (is_blank_at es q) (clears q h)
      (λ e. sym (any_rest (leaves_blank were_put q)) ∙ left q e)

-- blanks of the first writes are blanks of the writes
pub blanks_of_first : (n : ℕ) (ws : List Write) (es : List Entry) → BlanksAre is_put (take n ws) es → BlanksAre is_put ws es
blanks_of_first n ws es first q h =
    ap (list_any (is_put q)) (sym (take-append-drop n ws)) ∙ list_any-append (is_put q) (take n ws) (drop n ws) ∙
    ap (λ b. b || list_any (is_put q) (drop n ws)) (first q h)

-- where no write is left no blank is
pub none_blank : (test : Place → Write → Bool) (es : List Entry) → BlanksAre test [] es → HasNoBlank es
none_blank test es none q = by (is_blank_at es q) (none q)
  where
    by : (b : Bool) → (b ≡ true → false ≡ true) → b ≡ false
    by true h = let e : false ≡ true = h refl in cc
    by false h = refl

-- behind the last write no row is still to be put
pub all_written : (ws : List Write) (n : ℕ) (es : List Entry) → length ws ≤ n →
    ((q : Place) → is_blank_at es q ≡ true → (list_any (is_put q) (drop n ws) || list_any (is_gone q) (take n ws)) ≡ true) →
    BlanksAre is_gone ws es
all_written ws n es whole so_far q h =
    sym (λ i. list_any (is_put q) (drop_all n ws whole i) || list_any (is_gone q) (take_all n ws whole i)) ∙ so_far q h

-- and none is still to be forgotten
pub all_forgotten : (test : Place → Write → Bool) (ws : List Write) (n : ℕ) (es : List Entry) → length ws ≤ n →
    BlanksAre test (drop n ws) es → HasNoBlank es
all_forgotten test ws n es whole left = none_blank test es (subst (λ xs. BlanksAre test xs es) (drop_all n ws whole) left)
