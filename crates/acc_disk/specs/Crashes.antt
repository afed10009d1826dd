-- What the calls of a disk do to its bytes, and what a crash leaves of them. Places in a file count from 0.
-- The contract of every disk speaks of this.
use Rattle.std.specs.Prelude.{◌≡◌, ℕ, ◌+◌, ◌-◌, ◌<◌, ◌≤◌, min, max, List, ◌++◌, length, take, drop, slice_index, Option, None, Some}
use Rattle.std.specs.Prelude.{IsSomeAnd, ⊤}

-- the file with these bytes at that place, over what stood there and past the old end
abbrev pub overwritten : ℕ → List ℕ → List ℕ → List ℕ
overwritten at bytes file = take at file ++ bytes ++ drop (at + length bytes) file

-- the file has these bytes at that place
abbrev pub HoldsAt : List ℕ → ℕ → List ℕ → Type 0
HoldsAt file at bytes = take (length bytes) (drop at file) ≡ bytes

-- a read at that place filled so much of the buffer: as much as fits in it or is there, and with the bytes that stand there
pub record ReadsAt (file : List ℕ) (at : ℕ) (buffer : List ℕ) (count : ℕ) : Type 0 where
  pub count_is : count ≡ min (length buffer) (length file - at)
  pub bytes_are : HoldsAt file at (take count buffer)

-- a part of a write of so many bytes at that place: any bytes in its range and past the old end, the others as before
pub record Torn (at count : ℕ) (old new : List ℕ) : Type 0 where
  pub no_shorter : length old ≤ length new
  pub no_longer : length new ≤ max (length old) (at + count)
  pub below : (i : ℕ) → i < length old → i < at → slice_index new i ≡ slice_index old i
  pub above : (i : ℕ) → i < length old → at + count ≤ i → slice_index new i ≡ slice_index old i

-- a part of a cut to that length: some length from there up to the old one, and any bytes past the cut
pub record PartlyCut (to : ℕ) (old new : List ℕ) : Type 0 where
  pub no_shorter : min (length old) to ≤ length new
  pub no_longer : length new ≤ length old
  pub below : (i : ℕ) → i < length new → i < to → slice_index new i ≡ slice_index old i

-- bytes that were told are told again, and come from the old ones by this step
abbrev pub Becomes : (List ℕ → List ℕ → Type 0) → Option (List ℕ) → Option (List ℕ) → Type 0
Becomes step None new = ⊤
Becomes step (Some old) None = ⊥
Becomes step (Some old) (Some new) = step old new

-- whatever a crash may leave now comes by this step from what it might have left before
abbrev pub Follows : (List ℕ → List ℕ → Type 0) → (List ℕ → Type 0) → (List ℕ → Type 0) → Type 0
Follows step old new = (image : List ℕ) → new image → (before : List ℕ) × old before × step before image

-- a crash leaves nothing now that it mightn't have left before
abbrev pub LeavesNoMore : (List ℕ → Type 0) → (List ℕ → Type 0) → Type 0
LeavesNoMore old new = (image : List ℕ) → new image → old image

-- a crash leaves this file and nothing else
abbrev pub Only : List ℕ → (List ℕ → Type 0) → Type 0
Only file may_leave = (image : List ℕ) → may_leave image → image ≡ file

-- the disk is calm: it tells what a read gives, and a crash now would leave just that
abbrev pub IsCalm : Option (List ℕ) → (List ℕ → Type 0) → Type 0
IsCalm told may_leave = IsSomeAnd told (λ file. Only file may_leave)
