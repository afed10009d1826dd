-- The columns of the row at a place as actions change the rows.
use Rattle.std.specs.Prelude.{◌≤◌, ℕ, Bool, true, false, List, [], ◌∷◌, All, Option, Some, None, IfSome, option_map, if◌then◌else◌, ℤ}
use Rattle.std.specs.Prelude.{slice_set, unsigned_abs}
use Rattle.std.specs.Ordering.{is_eq}
use Rattle.acc_base.specs.declared.designs.Side.{Side}
use Rattle.acc_base.specs.declared.steps.Action.{Action}
use Rattle.acc_base.specs.Tables.{Place, place_cmp}
use Rattle.acc_step.specs.declared.changes.RowKey.{RowKey}
use Rattle.acc_step.specs.declared.changes.RowChange.{RowChange}
use Rattle.acc_step.specs.declared.changes.RowChange.TheVariants.{Put as Puts, Drop as Drops, Set as Sets, Add as Adds}
use Rattle.acc_step.specs.Overlay.{may_store, sum_in}
use Rattle.acc_step.specs.Changing.{place_at, change_if_small}

-- the key of the row that a change is of
abbrev pub key_of : RowChange → RowKey
key_of (Puts k cols) = k
key_of (Drops k) = k
key_of (Sets k c v) = k
key_of (Adds k c v) = k

-- the columns of that row after the change
abbrev pub columns_made : RowChange → Option (List ℤ) → Option (List ℤ)
columns_made (Puts k cols) old = Some cols
columns_made (Drops k) old = None
columns_made (Sets k c v) old = option_map (λ cols. slice_set cols c v) old
columns_made (Adds k c v) old = option_map (λ cols. slice_set cols c (sum_in c v cols)) old

-- the columns at a place after a change, and after the change of an action whose numbers are in range
abbrev pub columns_moved : Place → RowChange → Option (List ℤ) → Option (List ℤ)
columns_moved p change old = if is_eq (place_cmp p (place_at (key_of change))) then columns_made change old else old

abbrev pub columns_acted : Place → Option RowChange → Option (List ℤ) → Option (List ℤ)
columns_acted p None old = old
columns_acted p (Some change) old = columns_moved p change old

-- the columns at a place after actions, one after the other
abbrev pub columns_through : List ℤ → Place → List Action → Option (List ℤ) → Option (List ℤ)
columns_through env p [] old = old
columns_through env p (a ∷ rest) old = columns_through env p rest (columns_acted p (change_if_small env a) old)

-- the columns of a row, if there is one, are within m of 0
abbrev pub AreNear : ℕ → Option (List ℤ) → Type 0
AreNear m cols = IfSome cols (λ xs. All (λ v. unsigned_abs v ≤ m) xs)

-- whether a sum may be stored in the row at a place, if there is one
abbrev pub may_add_to : Side → ℕ → ℤ → Option (List ℤ) → Bool
may_add_to side c v None = true
may_add_to side c v (Some cols) = may_store side (sum_in c v cols)

-- whether a change may be made of a row with these columns
abbrev pub may_make : Side → RowChange → Option (List ℤ) → Bool
may_make side (Puts k cols) old = true
may_make side (Drops k) old = true
may_make side (Sets k c v) old = true
may_make side (Adds k c v) old = may_add_to side c v old

-- whether the change of an action may be made, by the columns at each place
abbrev pub may_follow : Side → Option RowChange → (Place → Option (List ℤ)) → Bool
may_follow side None columns = false
may_follow side (Some change) columns = may_make side change (columns (place_at (key_of change)))
