-- What the parts of reading a stream answer.
use Rattle.std.specs.Prelude.{◌≡◌, ◌≢◌, ◌⊎◌, ◌<◌, ◌≤◌, ◌+◌, ℕ, List, [], ◌++◌, length, slice_index, drop, All, Option, Some, None}
use Rattle.std.specs.List.{flat_map}
use Rattle.acc_wal.specs.Items.{ItemFits, item_body}
use Rattle.acc_wal.specs.Journals.{batch, IsBatch, IsKnown}
use Rattle.acc_wal.specs.declared.items.Item.{Item}
use Rattle.acc_stream.specs.declared.batches.Found.{Found}
use Rattle.acc_stream.specs.declared.heads.Head.{Head}
use Rattle.acc_stream.specs.declared.heads.Head.TheVariants.{Cut, Whole, Ended}
use Rattle.acc_stream.specs.Streams.{HasText, HasNone, BeginsWhole, body_long, StopsAt}

-- the first two bytes are those of a journal of that known version
pub record BeginsAs (bytes : List ℕ) (version : ℕ) : Type 0 where
  pub long : 2 ≤ length bytes
  pub first : slice_index bytes 0 ≡ 0xA5
  pub second : slice_index bytes 1 ≡ version
  pub known : IsKnown version

-- what the first bytes are, where that base text is wanted
abbrev pub TellsHead : List ℕ → List ℕ → Head → Type 0
TellsHead base bytes Cut = HasNone base bytes None
TellsHead base bytes (Whole version at) = HasText bytes base version (drop at bytes) × (at ≡ 6 + length base) × (at ≤ length bytes)
TellsHead base bytes (Ended fault) = HasNone base bytes (Some fault)

-- the length of the body of the whole batch that the bytes begin with, or that none is whole
abbrev pub TellsWhole : List ℕ → Option ℕ → Type 0
TellsWhole bytes (Some long) = BeginsWhole bytes × (long ≡ body_long bytes)
TellsWhole bytes None = ¬ BeginsWhole bytes

-- these are some items of the version, and the body spells them
pub record IsBodyOf (version : ℕ) (body : List ℕ) (items : List Item) : Type 0 where
  pub some : items ≢ []
  pub fits : All (ItemFits version) items
  pub spelled : body ≡ item_body items

-- the items of a body, or that it has none
abbrev pub TellsBody : ℕ → List ℕ → Option (List Item) → Type 0
TellsBody version body (Some items) = IsBodyOf version body items
TellsBody version body None = (items : List Item) → IsBodyOf version body items → ⊥

-- whole batches that the bytes begin with, of so many bytes, and their items
pub record BeginsBatches (version : ℕ) (bytes : List ℕ) (long : ℕ) (items : List Item) : Type 0 where
  pub batches : List (List Item)
  pub batches_fit : All (IsBatch version) batches
  pub bytes_are : bytes ≡ flat_map batch batches ++ drop long bytes
  pub long_is : long ≡ length (flat_map batch batches)
  pub behind : (batches ≡ []) ⊎ (long < length bytes)
  pub items_are : items ≡ flat_map (λ batch. batch) batches

-- those up to the first that isn't whole or isn't spelled, where the first byte stands at that place
pub record ReadsOn (version place : ℕ) (bytes : List ℕ) (found : Found) : Type 0 where
  pub begins : BeginsBatches version bytes found.long found.items
  pub stops : StopsAt version (place + found.long) (drop found.long bytes) found.ended
