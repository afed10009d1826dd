-- What stands of a disk between two syncs, and what a crash may leave of it.
-- Only the disk in memory speaks of this.
use Rattle.std.specs.Prelude.{◌≡◌, ℕ, ◌+◌, ◌<◌, ◌≤◌, min, max, nat_le, nat_lt, ◌&&◌, Bool, false, List, [], ◌∷◌, ◌++◌, length, take}
use Rattle.std.specs.Prelude.{slice_index}
use Rattle.std.specs.List.{list_any}
use Rattle.acc_disk.specs.Crashes.{overwritten}

-- The bytes that a read gives; those of the last sync that answered Ok, and the lowest and the highest length that
-- the file had since; and the ranges written since, in their order, each by its first place and its length.
pub record Standing : Type 0 where
  pub bytes : List ℕ
  pub synced : List ℕ
  pub lowest : ℕ
  pub highest : ℕ
  pub written : List (ℕ × ℕ)

-- these bytes, with nothing done since the sync
abbrev pub settled : List ℕ → Standing
settled bytes = record { bytes = bytes; synced = bytes; lowest = length bytes; highest = length bytes; written = [] }

-- after a write of these bytes at that place
abbrev pub after_write : ℕ → List ℕ → Standing → Standing
after_write at bytes standing =
    let file = overwritten at bytes standing.bytes in
    record {
      bytes = file;
      synced = standing.synced;
      lowest = standing.lowest;
      highest = max standing.highest (length file);
      written = standing.written ++ (at, length bytes) ∷ [];
    }

-- after a cut to that length
abbrev pub after_cut : ℕ → Standing → Standing
after_cut to standing =
    let file = take to standing.bytes in
    record {
      bytes = file;
      synced = standing.synced;
      lowest = min standing.lowest (length file);
      highest = standing.highest;
      written = standing.written;
    }

-- after a sync
abbrev pub after_sync : Standing → Standing
after_sync standing = settled standing.bytes

-- whether one of these writes covered that place
abbrev pub is_written : List (ℕ × ℕ) → ℕ → Bool
is_written written place = list_any (λ range. nat_le range.0 place && nat_lt place (range.0 + range.1)) written

-- A crash may leave these bytes: as many as the lowest length at least, and as the highest at most; and below the
-- lowest length each byte that no write since the sync covered is the synced one.
pub record IsImage (standing : Standing) (image : List ℕ) : Type 0 where
  pub no_shorter : standing.lowest ≤ length image
  pub no_longer : length image ≤ standing.highest
  pub untouched : (i : ℕ) → i < standing.lowest → is_written standing.written i ≡ false → slice_index image i
      ≡ slice_index standing.synced i

-- nothing was done since the sync
abbrev pub IsSettled : Standing → Type 0
IsSettled standing = standing ≡ settled standing.bytes

-- What every run of calls keeps: the lengths stand in order, and the bytes that a read gives are an image.
pub record IsInOrder (standing : Standing) : Type 0 where
  pub synced : standing.lowest ≤ length standing.synced
  pub lengths : standing.lowest ≤ standing.highest
  pub present : IsImage standing standing.bytes
