-- Entries as rows: what a look-up finds, and what a change of an entry does.
use Rattle.std.proofs.Common.{◌≡◌, ℕ, Bool, true, false, cond, ◌||◌, List, [], ◌∷◌, ap, sym, ◌∙◌, refl, subst, ℤ, Option, Some, None}
use Rattle.std.proofs.Common.{is_some}
use Rattle.std.specs.Prelude.{find}
use Rattle.std.specs.List.{AllByRecursion, list_any}
use Rattle.std.specs.List.Sorted.{IsStrictlySortedBy}
use Rattle.std.specs.declared.cmp.Ordering.{Ordering}
use Rattle.std.specs.declared.cmp.Ordering.TheVariants.{Less, Equal, Greater}
use Rattle.std.specs.Ordering.{is_eq, match_ordering}
use Rattle.std.specs.Map.{keys_of, remove_entry, set_value}
use Rattle.std.specs.BTreeMap.{insert_entry, is_at as at}
use Rattle.acc_base.specs.Tables.{Place, place_cmp, is_at, put, put_here, drop_row, column_of, cell_of}
use Rattle.acc_base.proofs.Places.{place_total, one_place}
use Rattle.acc_store.specs.Contents.{Content}
use Rattle.acc_store.specs.Rows.{Entry, row_of, with_row, live, entry_at, flat, cells_at, column_in, columns_of, IsUp, has_entry, is_blank}
use Rattle.acc_store.specs.Rows.{is_blank_at}

abbrev pub content : Option (List ℤ) → ℕ → Content
content v n = record { cells = v; room = n }

-- ---- entries past a place

abbrev ArePast : Place → List Entry → Type 0
ArePast p es = AllByRecursion (λ q. place_cmp p q ≡ Less) (keys_of es)

past_both : (p q : Place) (es : List Entry) → place_cmp p q ≡ Less → ArePast q es → ArePast p es
past_both p q [] h g = tt
past_both p q (e ∷ es) h g = (place_total.trans p q e.0 h g.0, past_both p q es h g.1)

put_first : (p : Place) (cols : List ℤ) (es : List Entry) → ArePast p es → put (row_of p cols) (live es) ≡ row_of p cols ∷ live es
put_first p cols [] h = refl
put_first p cols (e ∷ es) h = by e.1.cells (put_first p cols es h.1)
  where
    by : (v : Option (List ℤ)) → put (row_of p cols) (live es) ≡ row_of p cols ∷ live es →
        put (row_of p cols) (with_row e.0 v (live es)) ≡ row_of p cols ∷ with_row e.0 v (live es)
    by None ih = ih
    by (Some c) ih = ap (λ o. put_here o (row_of p cols) (row_of e.0 c) (live es) (put (row_of p cols) (live es))) h.0

drop_none : (p : Place) (es : List Entry) → ArePast p es → drop_row p.0 p.1 (live es) ≡ live es
drop_none p [] h = refl
drop_none p (e ∷ es) h = by e.1.cells (drop_none p es h.1)
  where
    by : (v : Option (List ℤ)) → drop_row p.0 p.1 (live es) ≡ live es →
        drop_row p.0 p.1 (with_row e.0 v (live es)) ≡ with_row e.0 v (live es)
    by None ih = ih
    by (Some c) ih = ap (λ o. cond (is_eq o) (live es) (row_of e.0 c ∷ drop_row p.0 p.1 (live es))) h.0 ∙ ap (λ rows. row_of e.0 c ∷ rows)
        ih

any_none : (p : Place) (es : List Entry) → ArePast p es → list_any (is_at p.0 p.1) (live es) ≡ false
any_none p [] h = refl
any_none p (e ∷ es) h = by e.1.cells (any_none p es h.1)
  where
    by : (v : Option (List ℤ)) → list_any (is_at p.0 p.1) (live es) ≡ false → list_any (is_at p.0 p.1) (with_row e.0 v (live es)) ≡ false
    by None ih = ih
    by (Some c) ih = ap (λ o. is_eq o || list_any (is_at p.0 p.1) (live es)) h.0 ∙ ih

find_none : (p : Place) (es : List Entry) → ArePast p es → find (is_at p.0 p.1) (live es) ≡ None
find_none p [] h = refl
find_none p (e ∷ es) h = by e.1.cells (find_none p es h.1)
  where
    by : (v : Option (List ℤ)) → find (is_at p.0 p.1) (live es) ≡ None → find (is_at p.0 p.1) (with_row e.0 v (live es)) ≡ None
    by None ih = ih
    by (Some c) ih = ap (λ o. cond (is_eq o) (Some (row_of e.0 c)) (find (is_at p.0 p.1) (live es))) h.0 ∙ ih

past_same : (p q : Place) (es : List Entry) → place_cmp p q ≡ Equal → ArePast q es → ArePast p es
past_same p q es h g = subst (λ x. ArePast x es) (sym (one_place p q h)) g

-- ---- look-ups

pub live_any : (p : Place) (es : List Entry) → IsUp es → list_any (is_at p.0 p.1) (live es) ≡ is_some (cells_at p es)
unfolding IsStrictlySortedBy
live_any p [] up = refl
live_any p (e ∷ es) up = by (place_cmp p e.0) refl e.1.cells (live_any p es up.1)
  where
    by : (o : Ordering) → place_cmp p e.0 ≡ o → (v : Option (List ℤ)) → list_any (is_at p.0 p.1) (live es) ≡ is_some (cells_at p es) →
        list_any (is_at p.0 p.1) (with_row e.0 v (live es)) ≡ is_some (flat (cond (is_eq o) (Some (content v e.1.room)) (entry_at p es)))
    by Less h None ih = ih
    by Less h (Some c) ih = ap (λ x. is_eq x || list_any (is_at p.0 p.1) (live es)) h ∙ ih
    by Equal h None ih = any_none p es (past_same p e.0 es h up.0)
    by Equal h (Some c) ih = ap (λ x. is_eq x || list_any (is_at p.0 p.1) (live es)) h
    by Greater h None ih = ih
    by Greater h (Some c) ih = ap (λ x. is_eq x || list_any (is_at p.0 p.1) (live es)) h ∙ ih

pub live_column : (p : Place) (col : ℕ) (es : List Entry) → IsUp es → column_of (live es) p.0 p.1 col ≡ column_in col (cells_at p es)
unfolding IsStrictlySortedBy
live_column p col [] up = refl
live_column p col (e ∷ es) up = by (place_cmp p e.0) refl e.1.cells (live_column p col es up.1)
  where
    by : (o : Ordering) → place_cmp p e.0 ≡ o → (v : Option (List ℤ)) → column_of (live es) p.0 p.1 col ≡ column_in col (cells_at p es) →
        column_of (with_row e.0 v (live es)) p.0 p.1 col ≡ column_in col (flat (cond (is_eq o) (Some (content v e.1.room)) (entry_at p es)))
    by Less h None ih = ih
    by Less h (Some c) ih = ap (λ x. cell_of col (cond (is_eq x) (Some (row_of e.0 c)) (find (is_at p.0 p.1) (live es)))) h ∙ ih
    by Equal h None ih = ap (cell_of col) (find_none p es (past_same p e.0 es h up.0))
    by Equal h (Some c) ih = ap (λ x. cell_of col (cond (is_eq x) (Some (row_of e.0 c)) (find (is_at p.0 p.1) (live es)))) h
    by Greater h None ih = ih
    by Greater h (Some c) ih = ap (λ x. cell_of col (cond (is_eq x) (Some (row_of e.0 c)) (find (is_at p.0 p.1) (live es)))) h ∙ ih

pub live_columns : (p : Place) (es : List Entry) → IsUp es → columns_of (find (is_at p.0 p.1) (live es)) ≡ cells_at p es
unfolding IsStrictlySortedBy
live_columns p [] up = refl
live_columns p (e ∷ es) up = by (place_cmp p e.0) refl e.1.cells (live_columns p es up.1)
  where
    by : (o : Ordering) → place_cmp p e.0 ≡ o → (v : Option (List ℤ)) → columns_of (find (is_at p.0 p.1) (live es)) ≡ cells_at p es →
        columns_of (find (is_at p.0 p.1) (with_row e.0 v (live es))) ≡ flat (cond (is_eq o) (Some (content v e.1.room)) (entry_at p es))
    by Less h None ih = ih
    by Less h (Some c) ih = ap (λ x. columns_of (cond (is_eq x) (Some (row_of e.0 c)) (find (is_at p.0 p.1) (live es)))) h ∙ ih
    by Equal h None ih = ap columns_of (find_none p es (past_same p e.0 es h up.0))
    by Equal h (Some c) ih = ap (λ x. columns_of (cond (is_eq x) (Some (row_of e.0 c)) (find (is_at p.0 p.1) (live es)))) h
    by Greater h None ih = ih
    by Greater h (Some c) ih = ap (λ x. columns_of (cond (is_eq x) (Some (row_of e.0 c)) (find (is_at p.0 p.1) (live es)))) h ∙ ih

-- ---- changes

pub live_put : (p : Place) (cols : List ℤ) (n : ℕ) (es : List Entry) → IsUp es →
    live (insert_entry place_cmp es p (content (Some cols) n)) ≡ put (row_of p cols) (live es)
unfolding IsStrictlySortedBy
live_put p cols n [] up = refl
live_put p cols n (e ∷ es) up = by (place_cmp p e.0) refl e.1.cells (live_put p cols n es up.1)
  where
    by : (o : Ordering) → place_cmp p e.0 ≡ o → (v : Option (List ℤ)) →
        live (insert_entry place_cmp es p (content (Some cols) n)) ≡ put (row_of p cols) (live es) →
        live (match_ordering o ((p, content (Some cols) n) ∷ (e.0, content v e.1.room) ∷ es) ((e.0, content (Some cols) n) ∷ es)
        ((e.0, content v e.1.room) ∷ insert_entry place_cmp es p (content (Some cols) n))) ≡ put (row_of p cols) (with_row e.0 v (live es))
    by Less h None ih = sym (put_first p cols es (past_both p e.0 es h up.0))
    by Less h (Some c) ih = sym (ap (λ o. put_here o (row_of p cols) (row_of e.0 c) (live es) (put (row_of p cols) (live es))) h)
    by Equal h None ih = ap (λ q. row_of q cols ∷ live es) (sym (one_place p e.0 h)) ∙ sym (put_first p cols es (past_same p e.0 es h up.0))
    by Equal h (Some c) ih = ap (λ q. row_of q cols ∷ live es) (sym (one_place p e.0 h)) ∙ sym
        (ap (λ o. put_here o (row_of p cols) (row_of e.0 c) (live es) (put (row_of p cols) (live es))) h)
    by Greater h None ih = ih
    by Greater h (Some c) ih = ap (λ rows. row_of e.0 c ∷ rows) ih ∙ sym
        (ap (λ o. put_here o (row_of p cols) (row_of e.0 c) (live es) (put (row_of p cols) (live es))) h)

pub live_drop : (p : Place) (n : ℕ) (es : List Entry) → IsUp es →
    live (insert_entry place_cmp es p (content None n)) ≡ drop_row p.0 p.1 (live es)
unfolding IsStrictlySortedBy
live_drop p n [] up = refl
live_drop p n (e ∷ es) up = by (place_cmp p e.0) refl e.1.cells (live_drop p n es up.1)
  where
    by : (o : Ordering) → place_cmp p e.0 ≡ o → (v : Option (List ℤ)) →
        live (insert_entry place_cmp es p (content None n)) ≡ drop_row p.0 p.1 (live es) →
        live (match_ordering o ((p, content None n) ∷ (e.0, content v e.1.room) ∷ es) ((e.0, content None n) ∷ es)
        ((e.0, content v e.1.room) ∷ insert_entry place_cmp es p (content None n))) ≡ drop_row p.0 p.1 (with_row e.0 v (live es))
    by Less h None ih = sym (drop_none p es (past_both p e.0 es h up.0))
    by Less h (Some c) ih = sym (ap (λ o. cond (is_eq o) (live es) (row_of e.0 c ∷ drop_row p.0 p.1 (live es))) h ∙ ap
        (λ rows. row_of e.0 c ∷ rows) (drop_none p es (past_both p e.0 es h up.0)))
    by Equal h None ih = sym (drop_none p es (past_same p e.0 es h up.0))
    by Equal h (Some c) ih = sym (ap (λ o. cond (is_eq o) (live es) (row_of e.0 c ∷ drop_row p.0 p.1 (live es))) h)
    by Greater h None ih = ih
    by Greater h (Some c) ih = ap (λ rows. row_of e.0 c ∷ rows) ih ∙ sym
        (ap (λ o. cond (is_eq o) (live es) (row_of e.0 c ∷ drop_row p.0 p.1 (live es))) h)

-- a new blank entry is no row
pub live_blank : (p : Place) (s : Content) (es : List Entry) → s.cells ≡ None → has_entry es p ≡ false →
    live (insert_entry place_cmp es p s) ≡ live es
live_blank p s [] blank h = ap (λ v. with_row p v []) blank
live_blank p s (e ∷ es) blank h = by (place_cmp p e.0) h (live_blank p s es blank)
  where
    by : (o : Ordering) → is_some (cond (is_eq o) (Some e.1) (entry_at p es)) ≡ false →
        (has_entry es p ≡ false → live (insert_entry place_cmp es p s) ≡ live es) →
        live (match_ordering o ((p, s) ∷ e ∷ es) ((e.0, s) ∷ es) (e ∷ insert_entry place_cmp es p s)) ≡ live (e ∷ es)
    by Less g ih = ap (λ v. with_row p v (live (e ∷ es))) blank
    by Equal g ih = cc
    by Greater g ih = ap (with_row e.0 e.1.cells) (ih g)

-- and one may be forgotten
pub live_forget : (p : Place) (es : List Entry) → is_blank_at es p ≡ true → live (remove_entry (at (place_cmp p)) es) ≡ live es
live_forget p [] h = cc
live_forget p (e ∷ es) h = by (is_eq (place_cmp p e.0)) e.1.cells h (live_forget p es)
  where
    by : (b : Bool) (v : Option (List ℤ)) → is_blank (cond b (Some (content v e.1.room)) (entry_at p es)) ≡ true →
        (is_blank_at es p ≡ true → live (remove_entry (at (place_cmp p)) es) ≡ live es) →
        live (cond b es ((e.0, content v e.1.room) ∷ remove_entry (at (place_cmp p)) es)) ≡ with_row e.0 v (live es)
    by true None g ih = refl
    by true (Some c) g ih = cc
    by false v g ih = ap (with_row e.0 v) (ih g)

-- a place without an entry is no row's
pub live_absent : (p : Place) (es : List Entry) → IsUp es → entry_at p es ≡ None → live es ≡ drop_row p.0 p.1 (live es)
live_absent p es up h = sym (live_blank p (content None 0) es refl (ap is_some h)) ∙ live_drop p 0 es up

-- ---- an entry that is there

none_past : (p : Place) (es : List Entry) → ArePast p es → entry_at p es ≡ None
none_past p [] h = refl
none_past p (e ∷ es) h = ap (λ o. cond (is_eq o) (Some e.1) (entry_at p es)) h.0 ∙ none_past p es h.1

pub set_is_insert : (p : Place) (s t : Content) (es : List Entry) → IsUp es → entry_at p es ≡ Some s →
    set_value (at (place_cmp p)) es t ≡ insert_entry place_cmp es p t
unfolding IsStrictlySortedBy
set_is_insert p s t [] up h = cc
set_is_insert p s t (e ∷ es) up h = by (place_cmp p e.0) refl h (set_is_insert p s t es up.1)
  where
    by : (o : Ordering) → place_cmp p e.0 ≡ o → cond (is_eq o) (Some e.1) (entry_at p es) ≡ Some s →
        (entry_at p es ≡ Some s → set_value (at (place_cmp p)) es t ≡ insert_entry place_cmp es p t) →
        cond (is_eq o) ((e.0, t) ∷ es) (e ∷ set_value (at (place_cmp p)) es t) ≡ match_ordering o ((p, t) ∷ e ∷ es) ((e.0, t) ∷ es)
        (e ∷ insert_entry place_cmp es p t)
    by Less g h ih = let none : entry_at p es ≡ None = none_past p es (past_both p e.0 es g up.0) in cc
    by Equal g h ih = refl
    by Greater g h ih = ap (λ fs. e ∷ fs) (ih h)

-- a row is put where there is an entry
pub put_there : (p : Place) (cols : List ℤ) (s t : Content) (es : List Entry) → IsUp es → entry_at p es ≡ Some s → t.cells ≡ Some cols →
    live (set_value (at (place_cmp p)) es t) ≡ put (row_of p cols) (live es)
put_there p cols s t es up h e =
    ap live (set_is_insert p s t es up h) ∙ ap (λ v. live (insert_entry place_cmp es p (content v t.room))) e ∙ live_put p cols t.room es up

-- and dropped there
pub drop_there : (p : Place) (s t : Content) (es : List Entry) → IsUp es → entry_at p es ≡ Some s → t.cells ≡ None →
    live (set_value (at (place_cmp p)) es t) ≡ drop_row p.0 p.1 (live es)
drop_there p s t es up h e =
    ap live (set_is_insert p s t es up h) ∙ ap (λ v. live (insert_entry place_cmp es p (content v t.room))) e ∙ live_drop p t.room es up

-- an entry that keeps its cells
pub same_there : (p : Place) (s t : Content) (es : List Entry) → entry_at p es ≡ Some s → t.cells ≡ s.cells →
    live (set_value (at (place_cmp p)) es t) ≡ live es
same_there p s t [] h e = refl
same_there p s t (x ∷ es) h e = by (at (place_cmp p) x.0) h (λ g. same_there p s t es g e)
  where
    by : (b : Bool) → cond b (Some x.1) (entry_at p es) ≡ Some s →
        (entry_at p es ≡ Some s → live (set_value (at (place_cmp p)) es t) ≡ live es) →
        live (cond b ((x.0, t) ∷ es) (x ∷ set_value (at (place_cmp p)) es t)) ≡ with_row x.0 x.1.cells (live es)
    by true g ih = ap (λ v. with_row x.0 v (live es)) (e ∙ sym (ap flat g))
    by false g ih = ap (with_row x.0 x.1.cells) (ih g)
