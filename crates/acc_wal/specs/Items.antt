-- The items of batches: events and states. How they are spelled, and what they are to those who ask for either.
use Rattle.std.specs.Prelude.{◌≡◌, ◌<◌, ◌+◌, ◌^◌, ℕ, suc, List, [], ◌∷◌, ◌++◌, length}
use Rattle.std.specs.List.{flat_map}
use Rattle.std.specs.Int.{w32, to_be_bytes}
use Rattle.acc_base.specs.declared.machines.Event.{Event as TheEvent}
use Rattle.acc_wal.specs.Spellings.{event_bytes, Fits}
use Rattle.acc_wal.specs.declared.items.Item.{Item}
use Rattle.acc_wal.specs.declared.items.Item.TheVariants.{Event, State}
use Rattle.acc_wal.specs.declared.items.Seal.{Seal}

unfoldable pub item_bytes : Item → List ℕ
item_bytes (Event event) = event_bytes event
item_bytes (State text) = 5 ∷ to_be_bytes w32 (length text) ++ text

-- the item belongs to this version, and each number fits its field
unfoldable pub ItemFits : ℕ → Item → Type 0
ItemFits version (Event event) = Fits event
ItemFits version (State text) = (version ≡ 2) × (length text < 2 ^ 32)

-- items, one behind the other
unfoldable pub item_body : List Item → List ℕ
item_body items = flat_map item_bytes items

abbrev pub event_item : TheEvent → Item
event_item event = Event event

-- the events
abbrev pub events_of : List Item → List TheEvent
events_of [] = []
events_of (Event event ∷ items) = event ∷ events_of items
events_of (State text ∷ items) = events_of items

-- the states, each with its place: so many events stand before the items, and then those before it
abbrev pub seals_of : ℕ → List Item → List Seal
seals_of place [] = []
seals_of place (Event event ∷ items) = seals_of (suc place) items
seals_of place (State text ∷ items) = record { place = place; text = text } ∷ seals_of place items

-- behind so many events, the items are these events, and these states at their places
pub record AreItems (place : ℕ) (items : List Item) (events : List TheEvent) (seals : List Seal) : Type 0 where
  pub events_are : events ≡ events_of items
  pub seals_are : seals ≡ seals_of place items

-- how many bytes states are spelled in
abbrev pub seal_bytes : List Seal → ℕ
seal_bytes [] = 0
seal_bytes (seal ∷ seals) = 5 + length seal.text + seal_bytes seals
