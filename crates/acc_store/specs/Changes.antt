-- What is done to a slot.
use Rattle.std.specs.Prelude.{◌≡◌, ◌≤◌, length, List, ℤ, Some, None, OnOk, IsOk, Result, ⊤}
use Rattle.acc_base.specs.declared.bounds.TheConstants.{MOST_COLUMNS}
use Rattle.acc_store.specs.Contents.{Content}
use Rattle.acc_store.specs.declared.slots.Change.{Change}
use Rattle.acc_store.specs.declared.slots.Change.TheVariants.{Room, Put, Clear}

-- a change that is possible at a slot: cells that are put have room
abbrev pub CanChange : Change → Content → Type 0
CanChange (Room n) s = ⊤
CanChange (Put cells) s = (length cells.now ≤ MOST_COLUMNS) × (length cells.now ≤ s.room)
CanChange Clear s = ⊤

-- a slot s became t, with this result
abbrev pub HasChanged : {E : Type 0} → Change → Result (Unit {0}) E → Content → Content → Type 0
HasChanged (Room n) r s t = (t.cells ≡ s.cells) × (s.room ≤ t.room) × OnOk r (n ≤ t.room) × (n ≤ s.room → IsOk r)
HasChanged (Put cells) r s t = (t.cells ≡ Some cells.now) × (s.room ≤ t.room)
HasChanged Clear r s t = (t.cells ≡ None) × (s.room ≤ t.room)

-- a slot s took these cells, and is t
abbrev pub HasTaken : List ℤ → Content → Content → Type 0
HasTaken cells s t = (t.cells ≡ Some cells) × (s.room ≤ t.room)

-- it kept its own, and there wasn't room for these
abbrev pub HasRefused : List ℤ → Content → Content → Type 0
HasRefused cells s t = (t.cells ≡ s.cells) × (s.room ≤ t.room) × (length cells ≤ s.room → ⊥)
