-- Reading one item from bytes: the item at the front and the bytes behind it, or nothing where none of that version is spelled there.
use Rattle.std.specs.Prelude.{◌≡◌, ℕ, ◌+◌, ◌++◌, ◌==◌, nat_lt, List, [], ◌∷◌, length, take, drop, Option, Some, None, if◌then◌else◌}
use Rattle.std.specs.Int.{w32}
use Rattle.acc_base.specs.declared.machines.Event.{Event as TheEvent}
use Rattle.acc_wal.specs.Reading.{◌>>=◌, number_at, event_at}
use Rattle.acc_wal.specs.Items.{item_bytes, ItemFits, event_item}
use Rattle.acc_wal.specs.declared.items.Item.{Item}
use Rattle.acc_wal.specs.declared.items.Item.TheVariants.{State}

-- so many bytes
abbrev pub text_at : ℕ → List ℕ → Option (List ℕ × List ℕ)
text_at n bytes = if nat_lt (length bytes) n then None else Some (take n bytes, drop n bytes)

-- behind the code of a state: a length, and so many bytes
unfoldable pub state_at : List ℕ → Option (Item × List ℕ)
state_at bytes = number_at w32 bytes >>= λ n. text_at n.0 n.1 >>= λ text. Some (State text.0, text.1)

abbrev pub as_item : TheEvent × List ℕ → Option (Item × List ℕ)
as_item found = Some (event_item found.0, found.1)

-- a state stands behind the code 5, in version 2 alone
unfoldable pub item_at : ℕ → List ℕ → Option (Item × List ℕ)
item_at version [] = None
item_at version (code ∷ bytes) =
    if code == 5 then (if version == 2 then state_at bytes else None) else (event_at (code ∷ bytes) >>= as_item)

-- at that place of the body stands this item of the version
pub record StandsAt (version : ℕ) (body : List ℕ) (place : ℕ) (item : Item) (next : ℕ) : Type 0 where
  pub fits : ItemFits version item
  pub rest : List ℕ
  pub spelled : drop place body ≡ item_bytes item ++ rest
  pub next_is : next ≡ place + length (item_bytes item)

-- the item at that place with the place behind it, or that none is spelled there
abbrev pub ReadsItem : ℕ → List ℕ → ℕ → Option (Item × ℕ) → Type 0
ReadsItem version body place (Some found) = StandsAt version body place found.0 found.1
ReadsItem version body place None = (item : Item) (rest : List ℕ) → ItemFits version item → drop place body ≡ item_bytes item ++ rest → ⊥
