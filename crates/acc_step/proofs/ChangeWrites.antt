-- Changes of rows as writes.
use Rattle.std.proofs.Common.{◌≡◌, ℕ, Bool, true, false, not, ◌||◌, List, ap, sym, ◌∙◌, refl, ℤ, ◌+ℤ◌, Option, Some, None, if◌then◌else◌}
use Rattle.std.specs.Prelude.{find, slice_set}
use Rattle.std.specs.List.{list_any}
use Rattle.acc_base.specs.declared.tables.Row.{Row}
use Rattle.acc_base.specs.declared.designs.Side.{Side}
use Rattle.acc_base.specs.Tables.{Place, place_of, IsInOrder, is_at, put, change_row, set_cell, cell, cell_of, column_of}
use Rattle.acc_base.proofs.Lookups.{found_at, any_none, any_some, change_none, change_put}
use Rattle.acc_store.specs.declared.writes.Write.{Write}
use Rattle.acc_store.specs.declared.writes.Write.TheVariants.{Row as Puts}
use Rattle.acc_store.specs.Rows.{columns_of, row_of, write, written}
use Rattle.acc_step.specs.Overlay.{columns_at, may_store, sum_in, put_with, set_of, add_of, with_write}
use Rattle.acc_step.proofs.Overlays.{written-push, written_in_order}

none_found : (o : Option Row) → columns_of o ≡ None → o ≡ None
none_found None h = refl
none_found (Some r) h = cc

module _ (p : Place) (ws vs : List Write) (db : List Row) where
  abbrev here : Row → Bool
  here = is_at p.0 p.1

  -- one more write
  pub write_more : (w : Write) → vs ≡ with_write ws (Some w) → written vs db ≡ write w (written ws db)
  write_more w e = ap (λ xs. written xs db) e ∙ written-push ws w db

  -- a change where there is no row needs no write
  change_absent : (f : Row → Row) → columns_at p (written ws db) ≡ None → vs ≡ ws → written vs db ≡ change_row p.0 p.1 f (written ws db)
  change_absent f h e =
      ap (λ xs. written xs db) e ∙ sym (change_none p f (written ws db) (none_found (find here (written ws db)) h))

  -- a change of a row that is there is a write of the changed one
  change_there : (f : Row → Row) (cols new : List ℤ) → IsInOrder db → columns_at p (written ws db) ≡ Some cols →
      ((r : Row) → r.cols ≡ cols → f r ≡ row_of (place_of r) new) → vs ≡ with_write ws (Some (Puts (row_of p new))) →
      written vs db ≡ change_row p.0 p.1 f (written ws db)
  change_there f cols new order h made e = write_more (Puts (row_of p new)) e ∙ by (find here (written ws db)) refl h
    where
      by : (o : Option Row) → find here (written ws db) ≡ o → columns_of o ≡ Some cols →
          put (row_of p new) (written ws db) ≡ change_row p.0 p.1 f (written ws db)
      by None g k = cc
      by (Some r) g k =
          let at : p ≡ place_of r = found_at p (written ws db) r g in
          let same : r.cols ≡ cols = cc in
          sym (change_put p f (row_of p new) r (written ws db) refl (written_in_order ws db order) g
          (made r same ∙ ap (λ q. row_of q new) (sym at)))

  pub set_changed : (c : ℕ) (v : ℤ) → IsInOrder db → vs ≡ with_write ws (set_of p c v (columns_at p (written ws db))) →
      written vs db ≡ change_row p.0 p.1 (set_cell c v) (written ws db)
  set_changed c v order e = by (columns_at p (written ws db)) refl e
    where
      by : (o : Option (List ℤ)) → columns_at p (written ws db) ≡ o → vs ≡ with_write ws (set_of p c v o) →
          written vs db ≡ change_row p.0 p.1 (set_cell c v) (written ws db)
      by None h g = change_absent (set_cell c v) h g
      by (Some cols) h g =
          change_there (set_cell c v) cols (slice_set cols c v) order h (λ r same. ap (λ xs. row_of (place_of r) (slice_set xs c v)) same) g

  module _ (side : Side) (c : ℕ) (v : ℤ) where
    abbrev adds : Row → Row
    adds r = set_cell c (cell c r +ℤ v) r

    pub add_changed : (w : Option Write) → IsInOrder db → Some w ≡ add_of side p c v (columns_at p (written ws db)) → vs ≡ with_write ws w →
        written vs db ≡ change_row p.0 p.1 adds (written ws db)
    add_changed w order d e = by (columns_at p (written ws db)) refl d
      where
        there : (cols : List ℤ) (b : Bool) → columns_at p (written ws db) ≡ Some cols →
            Some w ≡ (if b then Some (Some (put_with p c (sum_in c v cols) cols)) else None) →
            written vs db ≡ change_row p.0 p.1 adds (written ws db)
        there cols true h g =
            let is : w ≡ Some (put_with p c (sum_in c v cols) cols) = cc in
            change_there adds cols (slice_set cols c (sum_in c v cols)) order h
            (λ r same. ap (λ xs. row_of (place_of r) (slice_set xs c (sum_in c v xs))) same) (e ∙ ap (with_write ws) is)
        there cols false h g = cc

        by : (o : Option (List ℤ)) → columns_at p (written ws db) ≡ o → Some w ≡ add_of side p c v o →
            written vs db ≡ change_row p.0 p.1 adds (written ws db)
        by None h g = let none : w ≡ None = cc in change_absent adds h (e ∙ ap (with_write ws) none)
        by (Some cols) h g = there cols (may_store side (sum_in c v cols)) h g

    abbrev may_add : Bool
    may_add = not (list_any here (written ws db)) || may_store side (column_of (written ws db) p.0 p.1 c +ℤ v)

    -- whether the sum may be stored, by the row that is there
    pub may_add_by : (o : Option Row) → find here (written ws db) ≡ o →
        may_add ≡ (elim o [ None ↦ true | Some r ↦ may_store side (sum_in c v r.cols) ])
    may_add_by None f = ap (λ b. not b || may_store side (column_of (written ws db) p.0 p.1 c +ℤ v)) (any_none here (written ws db) f)
    may_add_by (Some r) f = (λ i. not (any_some here (written ws db) r f i) || may_store side (cell_of c (f i) +ℤ v))

    pub add_may : (w : Option Write) → Some w ≡ add_of side p c v (columns_at p (written ws db)) → may_add ≡ true
    add_may w d = by (find here (written ws db)) refl d
      where
        stored : (b : Bool) (x : Write) → Some w ≡ (if b then Some (Some x) else None) → b ≡ true
        stored true x g = refl
        stored false x g = cc

        by : (o : Option Row) → find here (written ws db) ≡ o → Some w ≡ add_of side p c v (columns_of o) → may_add ≡ true
        by None f g = may_add_by None f
        by (Some r) f g =
            may_add_by (Some r) f ∙ stored (may_store side (sum_in c v r.cols)) (put_with p c (sum_in c v r.cols) r.cols) g

    pub add_barred : None ≡ add_of side p c v (columns_at p (written ws db)) → may_add ≡ false
    add_barred d = by (find here (written ws db)) refl d
      where
        barred : (b : Bool) (x : Option Write) → None ≡ (if b then Some x else None) → b ≡ false
        barred true x g = cc
        barred false x g = refl

        by : (o : Option Row) → find here (written ws db) ≡ o → None ≡ add_of side p c v (columns_of o) → may_add ≡ false
        by None f g = cc
        by (Some r) f g =
            may_add_by (Some r) f ∙ barred (may_store side (sum_in c v r.cols)) (Some (put_with p c (sum_in c v r.cols) r.cols)) g
