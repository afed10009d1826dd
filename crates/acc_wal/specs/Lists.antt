-- What is said of items, said of the events and the states that they are.
use Rattle.std.specs.Prelude.{◌⊎◌, ◌++◌, ℕ, List}
use Rattle.acc_base.specs.declared.machines.Event.{Event}
use Rattle.acc_wal.specs.Items.{AreItems}
use Rattle.acc_wal.specs.Journals.{CountsItems, CountsAt, IsAtRest}
use Rattle.acc_wal.specs.declared.items.Item.{Item}
use Rattle.acc_wal.specs.declared.items.Seal.{Seal}

-- the bytes are a journal with these, and at that place stands the first gate that doesn't count
pub record FindsAt (bytes base : List ℕ) (version : ℕ) (events : List Event) (seals : List Seal) (place : ℕ) : Type 0 where
  pub items : List Item
  pub first : CountsAt bytes base version items place
  pub are : AreItems 0 items events seals

-- the file is a journal at rest with these
pub record RestsWith (file base : List ℕ) (version : ℕ) (events : List Event) (seals : List Seal) (place : ℕ) : Type 0 where
  pub items : List Item
  pub rests : IsAtRest file base version items place
  pub are : AreItems 0 items events seals

-- a crash leaves the durable items, or these with the further ones
abbrev pub CountsItemsEither : List ℕ → ℕ → List Item → List Item → List ℕ → Type 0
CountsItemsEither base version durable more image =
    CountsItems image base version durable ⊎ CountsItems image base version (durable ++ more)
