-- What a row that is put at a place does to entries.
use Rattle.std.specs.Prelude.{◌≡◌, ◌≤◌, ℕ, true, List, ℤ, Some, None}
use Rattle.std.specs.BTreeMap.{insert_entry}
use Rattle.acc_base.specs.Tables.{Place, place_cmp}
use Rattle.acc_store.specs.Contents.{Content}
use Rattle.acc_store.specs.Rows.{Entry, entry_at, has_entry, has_room_at, is_blank_at}
use Rattle.acc_store.specs.Changes.{HasTaken}
use Rattle.acc_store.specs.Runs.{Alters}
use Rattle.acc_store.specs.declared.runs.Landing.{Landing}
use Rattle.acc_store.specs.declared.runs.Landing.TheVariants.{There, Came, Back}

-- the entry at p took the cells, or they came as one, or they came back and the entries are as before
abbrev pub Lands : Place → List ℤ → Landing → List Entry → List Entry → Type 0
Lands p cells There es fs = (has_entry es p ≡ true) × Alters p (HasTaken cells) es fs
Lands p cells Came es fs = (entry_at p es ≡ None) × (n : ℕ) × (fs ≡ insert_entry place_cmp es p (record { cells = Some cells; room = n }))
Lands p cells (Back q) es fs = (q ≡ p) × (entry_at p es ≡ None) × (fs ≡ es)

-- at p is a row of these cells now, which has no less room than what was there
abbrev pub HasCome : Place → List ℤ → List Entry → List Entry → Type 0
HasCome p cells es fs = (t : Content) × (t.cells ≡ Some cells) × ((n : ℕ) → has_room_at es p n ≡ true → n ≤ t.room) ×
    (fs ≡ insert_entry place_cmp es p t)

-- no blank came
abbrev pub AddsNoBlank : List Entry → List Entry → Type 0
AddsNoBlank es fs = (p : Place) → is_blank_at fs p ≡ true → is_blank_at es p ≡ true
