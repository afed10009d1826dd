-- What a stream shows, and how that follows from what was fed and taken.
use Rattle.std.specs.Prelude.{◌≡◌, ◌⊎◌, ◌++◌, ℕ, List, [], Option, None}
use Rattle.acc_wal.specs.declared.items.Item.{Item}
use Rattle.acc_stream.specs.declared.faults.Fault.{Fault}
use Rattle.acc_stream.specs.Streams.{HasBatches, IsStream}

-- A stream is seen as the base text that is wanted, the version of the journal, which is 0 before the text is whole, the place up to which
-- it was read and the bytes that were fed behind it, the items that wait to be taken, and the fault behind them, if it came to one.
pub record Streamed : Type 0 where
  pub base : List ℕ
  pub version : ℕ
  pub place : ℕ
  pub kept : List ℕ
  pub waiting : List Item
  pub ended : Option Fault

-- nothing was read of what was fed
pub record IsUnread (fed : List ℕ) (taken : List Item) (s : Streamed) : Type 0 where
  pub version_is : s.version ≡ 0
  pub place_is : s.place ≡ 0
  pub kept_is : s.kept ≡ fed
  pub taken_are : taken ≡ []
  pub waiting_are : s.waiting ≡ []

-- batches were read of it, and the rest is kept
abbrev pub IsRead : List ℕ → List Item → Streamed → Type 0
IsRead fed taken s = HasBatches s.base fed s.version (taken ++ s.waiting) s.place s.kept

-- it came to no fault, and what is kept is to be read on
pub record Awaits (fed : List ℕ) (taken : List Item) (s : Streamed) : Type 0 where
  pub open_ended : s.ended ≡ None
  pub keeps : IsUnread fed taken s ⊎ IsRead fed taken s

-- These bytes were fed and these items were taken. What they say is told: with those that were taken, the items that wait are all of the
-- whole batches; the fault is theirs; and where there is none, the rest is kept.
pub record Follows (fed : List ℕ) (taken : List Item) (s : Streamed) : Type 0 where
  pub stream : IsStream s.base fed (taken ++ s.waiting) s.ended
  pub goes_on : s.ended ≡ None → Awaits fed taken s

-- further items wait behind the others
pub record AddsItems (old new : Streamed) : Type 0 where
  pub more : List Item
  pub waiting_are : new.waiting ≡ old.waiting ++ more
