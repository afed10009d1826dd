-- The rows under writes: their order, and what stands at a place.
use Rattle.std.proofs.Common.{◌≡◌, ◌++◌, Bool, true, false, List, [], ◌∷◌, ap, sym, ◌∙◌, refl, Some, None, if◌then◌else◌}
use Rattle.std.specs.Prelude.{find}
use Rattle.std.specs.Ordering.{is_eq}
use Rattle.acc_base.specs.declared.tables.Row.{Row}
use Rattle.acc_base.specs.Tables.{Place, place_cmp, IsInOrder, is_at, drop_row}
use Rattle.acc_base.proofs.Places.{is_equal}
use Rattle.acc_base.proofs.RowOrder.{put_in_order, drop_in_order}
use Rattle.acc_base.proofs.Lookups.{find_put, find_dropped, find_kept}
use Rattle.acc_store.specs.declared.writes.Write.{Write}
use Rattle.acc_store.specs.declared.writes.Write.TheVariants.{Row as Puts, Gone}
use Rattle.acc_store.specs.Rows.{columns_of, write, written}
use Rattle.acc_step.specs.Overlay.{columns_at, columns_step, columns_after}

write_in_order : (w : Write) (db : List Row) → IsInOrder db → IsInOrder (write w db)
write_in_order (Puts r) db order = put_in_order r db order
write_in_order (Gone t k) db order = drop_in_order t k.parts db order

pub written_in_order : (ws : List Write) (db : List Row) → IsInOrder db → IsInOrder (written ws db)
written_in_order [] db order = order
written_in_order (w ∷ ws) db order = written_in_order ws (write w db) (write_in_order w db order)

pub columns_written : (p : Place) (w : Write) (db : List Row) → IsInOrder db →
    columns_step p w (columns_at p db) ≡ columns_at p (write w db)
columns_written p (Puts r) db order = by (is_at p.0 p.1 r) ∙ sym (ap columns_of (find_put p r db))
  where
    by : (b : Bool) → (if b then Some r.cols else columns_at p db) ≡ columns_of (if b then Some r else find (is_at p.0 p.1) db)
    by true = refl
    by false = refl
columns_written p (Gone t k) db order = by (is_eq (place_cmp p (t, k.parts))) refl
  where
    by : (b : Bool) → is_eq (place_cmp p (t, k.parts)) ≡ b →
        (if b then None else columns_at p db) ≡ columns_of (find (is_at p.0 p.1) (drop_row t k.parts db))
    by true h = sym (ap columns_of (find_dropped p (t, k.parts) db (is_equal (place_cmp p (t, k.parts)) h) order))
    by false h = sym (ap columns_of (find_kept p (t, k.parts) db h))

-- the columns that the writes leave at a place are those of the row that stands there
pub columns_are : (p : Place) (ws : List Write) (db : List Row) → IsInOrder db →
    columns_after p ws (columns_at p db) ≡ columns_at p (written ws db)
columns_are p [] db order = refl
columns_are p (w ∷ ws) db order =
    ap (columns_after p ws) (columns_written p w db order) ∙ columns_are p ws (write w db) (write_in_order w db order)

pub written-push : (ws : List Write) (w : Write) (db : List Row) → written (ws ++ w ∷ []) db ≡ write w (written ws db)
written-push [] w db = refl
written-push (v ∷ ws) w db = written-push ws w (write v db)
