-- The columns at a place after a change of the rows.
use Rattle.std.proofs.Common.{◌≡◌, Bool, true, false, cond, List, [], ◌∷◌, ap, sym, subst, ◌∙◌, refl, ℤ, Option, Some, None, if◌then◌else◌}
use Rattle.std.specs.Prelude.{find, option_map, slice_set}
use Rattle.std.specs.Ordering.{is_eq}
use Rattle.acc_base.specs.declared.tables.Row.{Row}
use Rattle.acc_base.specs.declared.designs.Side.{Side}
use Rattle.acc_base.specs.Tables.{Place, place_of, place_cmp, IsInOrder, is_at, change_row}
use Rattle.acc_base.proofs.Places.{one_place, is_equal}
use Rattle.acc_store.specs.declared.writes.Write.TheVariants.{Row as ToPut, Gone}
use Rattle.acc_store.specs.Rows.{columns_of, row_of}
use Rattle.acc_step.specs.declared.changes.RowChange.{RowChange}
use Rattle.acc_step.specs.declared.changes.RowChange.TheVariants.{Put as Puts, Drop as Drops, Set as Sets, Add as Adds}
use Rattle.acc_step.specs.Overlay.{columns_at, may_store, sum_in}
use Rattle.acc_step.specs.Changing.{place_at, changed, may_change}
use Rattle.acc_step.specs.RowColumns.{key_of, columns_moved, may_add_to, may_make}
use Rattle.acc_step.proofs.Overlays.{columns_written}
use Rattle.acc_step.proofs.ChangeWrites.{may_add_by}

module _ (f : List ℤ → List ℤ) (p : Place) where
  abbrev made : Row → Row
  made r = record r { cols = f r.cols }

  abbrev here : Row → Bool
  here = is_at p.0 p.1

  -- the row at a place is changed
  columns_there : (db : List Row) → columns_at p (change_row p.0 p.1 made db) ≡ option_map f (columns_at p db)
  columns_there [] = refl
  columns_there (r ∷ db) = by (here r) refl (columns_there db)
    where
      by : (b : Bool) → here r ≡ b → columns_at p (change_row p.0 p.1 made db) ≡ option_map f (columns_at p db) →
          columns_of (find here (if b then made r ∷ db else r ∷ change_row p.0 p.1 made db)) ≡ option_map f
          (columns_of (cond b (Some r) (find here db)))
      by true h ih = ap (λ c. columns_of (cond c (Some (made r)) (find here db))) h
      by false h ih = ap (λ c. columns_of (cond c (Some r) (find here (change_row p.0 p.1 made db)))) h ∙ ih

  module _ (q : Place) where
    -- one elsewhere is not
    columns_elsewhere : is_eq (place_cmp p q) ≡ false → (db : List Row) → columns_at p (change_row q.0 q.1 made db) ≡ columns_at p db
    columns_elsewhere other [] = refl
    columns_elsewhere other (r ∷ db) = by (is_at q.0 q.1 r) refl (columns_elsewhere other db)
      where
        still : (b : Bool) → columns_at p (change_row q.0 q.1 made db) ≡ columns_at p db →
            columns_of (cond b (Some r) (find here (change_row q.0 q.1 made db))) ≡ columns_of (cond b (Some r) (find here db))
        still true ih = refl
        still false ih = ih

        by : (b : Bool) → is_at q.0 q.1 r ≡ b → columns_at p (change_row q.0 q.1 made db) ≡ columns_at p db →
            columns_of (find here (if b then made r ∷ db else r ∷ change_row q.0 q.1 made db)) ≡ columns_of
            (cond (here r) (Some r) (find here db))
        by true h ih =
            let at : q ≡ place_of r = one_place q (place_of r) (is_equal (place_cmp q (place_of r)) h) in
            let no : here r ≡ false = ap (λ z. is_eq (place_cmp p z)) (sym at) ∙ other in
            ap (λ c. columns_of (cond c (Some (made r)) (find here db))) no ∙ sym (ap (λ c. columns_of (cond c (Some r) (find here db))) no)
        by false h ih = still (here r) ih

    pub columns_changed : (db : List Row) → (if is_eq (place_cmp p q) then option_map f (columns_at p db) else columns_at p db) ≡ columns_at
        p (change_row q.0 q.1 made db)
    columns_changed db = by (is_eq (place_cmp p q)) refl
      where
        by : (b : Bool) → is_eq (place_cmp p q) ≡ b →
            (if b then option_map f (columns_at p db) else columns_at p db) ≡ columns_at p (change_row q.0 q.1 made db)
        by true h =
            let same : p ≡ q = one_place p q (is_equal (place_cmp p q) h) in
            subst (λ z. option_map f (columns_at p db) ≡ columns_at p (change_row z.0 z.1 made db)) same (sym (columns_there db))
        by false h = sym (columns_elsewhere h db)

pub moved_at : (p : Place) (change : RowChange) (db : List Row) → IsInOrder db →
    columns_moved p change (columns_at p db) ≡ columns_at p (changed change db)
moved_at p (Puts k cols) db order = columns_written p (ToPut (row_of (place_at k) cols)) db order
moved_at p (Drops k) db order = columns_written p (Gone k.table (record { parts = k.parts })) db order
moved_at p (Sets k c v) db order = columns_changed (λ cols. slice_set cols c v) p (place_at k) db
moved_at p (Adds k c v) db order = columns_changed (λ cols. slice_set cols c (sum_in c v cols)) p (place_at k) db

-- whether a change may be made is told by the columns at its place
pub made_by : (side : Side) (change : RowChange) (db : List Row) →
    may_make side change (columns_at (place_at (key_of change)) db) ≡ may_change side change db
made_by side (Puts k cols) db = refl
made_by side (Drops k) db = refl
made_by side (Sets k c v) db = refl
made_by side (Adds k c v) db =
    let p = place_at k in
    same (find (is_at p.0 p.1) db) ∙ sym (may_add_by p [] [] db side c v (find (is_at p.0 p.1) db) refl)
  where
    same : (o : Option Row) → may_add_to side c v (columns_of o) ≡ (elim o [ None ↦ true | Some r ↦ may_store side (sum_in c v r.cols) ])
    same None = refl
    same (Some r) = refl
