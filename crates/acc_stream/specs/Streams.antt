-- What the bytes of a stream say, as far as they have come. They are to be those of a journal with one base text; the rest of it may still
-- come.
use Rattle.std.specs.Prelude.{◌≡◌, ◌≢◌, ◌⊎◌, ◌<◌, ◌+◌, ◌^◌, ℕ, List, [], ◌∷◌, ◌++◌, length, slice_index, take, drop, All, Option, Some, None}
use Rattle.std.specs.List.{flat_map}
use Rattle.std.specs.Int.{w32, to_be_bytes, from_be_bytes}
use Rattle.acc_wal.specs.Journals.{front, IsBatch, IsKnown, IsOtherVersion}
use Rattle.acc_wal.specs.Bodies.{BeginsBatch}
use Rattle.acc_wal.specs.declared.items.Item.{Item}
use Rattle.acc_stream.specs.declared.faults.Fault.{Fault}
use Rattle.acc_stream.specs.declared.faults.Fault.TheVariants.{NotJournal, OtherVersion, OtherBase, Damaged, Past}

-- ---- what stands before the batches

-- so many bytes has the base text, by the four behind the first two
abbrev pub text_long : List ℕ → ℕ
text_long bytes = from_be_bytes w32 (take 4 (drop 2 bytes))

-- the base text isn't whole, and what is there may begin a journal
pub record MayBegin (bytes : List ℕ) : Type 0 where
  pub first : (length bytes < 1) ⊎ (slice_index bytes 0 ≡ 0xA5)
  pub second : (length bytes < 2) ⊎ IsKnown (slice_index bytes 1)
  pub cut : (length bytes < 6) ⊎ (length bytes < 6 + text_long bytes)

-- the first byte has come, and isn't a journal's
pub record IsStrange (bytes : List ℕ) : Type 0 where
  pub come : 0 < length bytes
  pub other : slice_index bytes 0 ≢ 0xA5

-- a journal of that known version, with that base text, which is whole, and the bytes behind it
pub record HasText (bytes text : List ℕ) (version : ℕ) (rest : List ℕ) : Type 0 where
  pub known : IsKnown version
  pub text_fits : length text < 2 ^ 32
  pub bytes_are : bytes ≡ 0xA5 ∷ version ∷ to_be_bytes w32 (length text) ++ text ++ rest

-- a journal of another base text
pub record IsOfOther (base bytes : List ℕ) : Type 0 where
  pub text : List ℕ
  pub version : ℕ
  pub rest : List ℕ
  pub has : HasText bytes text version rest
  pub other : text ≢ base

-- no batch is read: since the base text isn't whole yet, or for a fault
abbrev pub HasNone : List ℕ → List ℕ → Option Fault → Type 0
HasNone base bytes None = MayBegin bytes
HasNone base bytes (Some NotJournal) = IsStrange bytes
HasNone base bytes (Some (OtherVersion version)) = IsOtherVersion bytes version
HasNone base bytes (Some OtherBase) = IsOfOther base bytes
HasNone base bytes (Some (Damaged place)) = ⊥
HasNone base bytes (Some (Past place)) = ⊥

-- ---- batches

-- so many bytes has the body of a batch, by the four behind its gate
abbrev pub body_long : List ℕ → ℕ
body_long bytes = from_be_bytes w32 (take 4 (drop 1 bytes))

-- at the front stands a whole batch: an open gate, the length of its body, so many bytes, and one byte behind them
pub record BeginsWhole (bytes : List ℕ) : Type 0 where
  pub opened : slice_index bytes 0 ≡ 0xA5
  pub whole : 5 + body_long bytes < length bytes

-- a byte stands behind a gate that isn't open
pub record IsPast (bytes : List ℕ) : Type 0 where
  pub behind : 1 < length bytes
  pub shut : slice_index bytes 0 ≢ 0xA5

-- behind the base text stand whole batches with these items, one behind the other, and behind them, from that place on, the rest
pub record HasBatches (base bytes : List ℕ) (version : ℕ) (items : List Item) (place : ℕ) (rest : List ℕ) : Type 0 where
  pub batches : List (List Item)
  pub known : IsKnown version
  pub base_fits : length base < 2 ^ 32
  pub batches_fit : All (IsBatch version) batches
  pub bytes_are : bytes ≡ front version base batches ++ rest
  pub behind : (batches ≡ []) ⊎ (0 < length rest)
  pub items_are : items ≡ flat_map (λ batch. batch) batches
  pub place_is : place ≡ length (front version base batches)

-- the rest has no further batch that is read: since none is whole yet, or for a fault at that place
abbrev pub StopsAt : ℕ → ℕ → List ℕ → Option Fault → Type 0
StopsAt version place rest None = (¬ BeginsWhole rest) × (¬ IsPast rest)
StopsAt version place rest (Some (Damaged at)) = (at ≡ place) × BeginsWhole rest × (¬ BeginsBatch rest version)
StopsAt version place rest (Some (Past at)) = (at ≡ place) × IsPast rest
StopsAt version place rest (Some NotJournal) = ⊥
StopsAt version place rest (Some (OtherVersion other)) = ⊥
StopsAt version place rest (Some OtherBase) = ⊥

-- ---- streams

-- The items are those of the whole batches, up to the first that isn't spelled as a batch. Behind them stands the first fault, or nothing
-- but what may still become whole.
abbrev pub IsStream : List ℕ → List ℕ → List Item → Option Fault → Type 0
IsStream base bytes items ended =
    ((items ≡ []) × HasNone base bytes ended)
    ⊎ ((version place : ℕ) × (rest : List ℕ) × HasBatches base bytes version items place rest × StopsAt version place rest ended)

-- with some fault, or none
abbrev pub AreWhole : List ℕ → List ℕ → List Item → Type 0
AreWhole base bytes items = (ended : Option Fault) × IsStream base bytes items ended
