-- What a disk in memory shows, and what its calls do to it.
-- Only the disk in memory speaks of this.
use Rattle.std.specs.Prelude.{◌≡◌, ◌⊎◌, ◌+◌, ◌<◌, ◌≤◌, ℕ, List, Contains, Option, Some, IsSomeAnd, Result, Ok, Err}
use Rattle.acc_io.specs.Causes.{one_more}
use Rattle.acc_disk.specs.Standings.{Standing, settled, after_sync, IsImage}
use Rattle.acc_disk.specs.Histories.{present, standing_by, change_count, LeftSince}
use Rattle.acc_disk.specs.declared.mem_disk.MemDisk.{MemDisk}

-- what stands now
abbrev pub standing : MemDisk → Standing
standing disk = present disk.history

-- what stood when so many calls were done
abbrev pub standing_after : MemDisk → ℕ → Standing
standing_after disk calls = standing_by disk.history calls

-- the bytes that stand there
abbrev pub stored : MemDisk → List ℕ
stored disk = disk.history.bytes.items

-- the number of changes, by which moments are told apart
abbrev pub clock_of : MemDisk → ℕ
clock_of disk = change_count disk.history

-- it tells what stands there
abbrev pub told_by : MemDisk → Option (List ℕ)
told_by disk = Some (stored disk)

-- what a crash now may leave
abbrev pub may_be_left : MemDisk → List ℕ → Type 0
may_be_left disk = IsImage (standing disk)

-- what a crash since that time may have left
abbrev pub may_have_been_left : MemDisk → ℕ → List ℕ → Type 0
may_have_been_left disk = LeftSince disk.history

-- how many calls were made
abbrev pub call_count : MemDisk → ℕ
call_count disk = disk.calls

-- how many syncs answered Ok
abbrev pub sync_count : MemDisk → ℕ
sync_count disk = disk.synced

-- how many calls its lists made fail
abbrev pub listed_faults : MemDisk → ℕ
listed_faults disk = disk.failed

-- how many of its growths were refused
abbrev pub refused : MemDisk → ℕ
refused disk = disk.refused

-- how many calls failed, by the lists or for want of room
abbrev pub fault_count : MemDisk → ℕ
fault_count disk = listed_faults disk + refused disk

-- the number of the next call, from 1 on
abbrev pub next_call : MemDisk → ℕ
next_call disk = one_more disk.calls

-- the call of that number is to fail: its number is listed, or all fail from there on or from before it
abbrev pub FailsAt : MemDisk → ℕ → Type 0
FailsAt disk number = Contains disk.fails.items number ⊎ IsSomeAnd disk.from (λ from. from ≤ number)

-- the next call is to fail
abbrev pub FailsNext : MemDisk → Type 0
FailsNext disk = FailsAt disk (next_call disk)

-- the counts stand so
pub record HasCounts (disk : MemDisk) (listed grown syncs : ℕ) : Type 0 where
  pub listed_is : listed_faults disk ≡ listed
  pub refused_is : refused disk ≡ grown
  pub synced_is : sync_count disk ≡ syncs

-- the call is of those that are to fail, and does nothing
pub record FailsByList (old new : MemDisk) : Type 0 where
  pub listed : FailsNext old
  pub counts : HasCounts new (one_more (listed_faults old)) (refused old) (sync_count old)
  pub nothing_done : standing new ≡ standing old

-- the call isn't of those that are to fail; there is no room for it, and it does nothing
pub record LacksRoom (old new : MemDisk) : Type 0 where
  pub unlisted : ¬ FailsNext old
  pub counts : HasCounts new (listed_faults old) (one_more (refused old)) (sync_count old)
  pub nothing_done : standing new ≡ standing old

-- the call isn't of those that are to fail, and does this step
pub record Does (step : Standing → Standing) (syncs : ℕ) (old new : MemDisk) : Type 0 where
  pub unlisted : ¬ FailsNext old
  pub counts : HasCounts new (listed_faults old) (refused old) syncs
  pub done : standing new ≡ step (standing old)

-- a call was counted, and nothing else changed but the count of those that were to fail
pub record Begins (listed : ℕ) (old new : MemDisk) : Type 0 where
  pub calls : new.calls ≡ next_call old
  pub failed : new.failed ≡ listed
  pub alloc : new.alloc ≡ old.alloc
  pub history : new.history ≡ old.history
  pub fails : new.fails ≡ old.fails
  pub from : new.from ≡ old.from
  pub synced : new.synced ≡ old.synced
  pub refused : new.refused ≡ old.refused

-- each answer of a call that changes nothing, with its cause
abbrev pub AnswersLook : {T E : Type 0} → MemDisk → MemDisk → Result T E → Type 0
AnswersLook old new (Ok answer) = Does (λ same. same) (sync_count old) old new
AnswersLook old new (Err error) = FailsByList old new

-- each answer of a write or a cut, with its cause
abbrev pub AnswersChange : {T E : Type 0} → (Standing → Standing) → MemDisk → MemDisk → Result T E → Type 0
AnswersChange step old new (Ok answer) = Does step (sync_count old) old new
AnswersChange step old new (Err error) = FailsByList old new ⊎ LacksRoom old new

-- each answer of a sync, with its cause
abbrev pub AnswersSync : {T E : Type 0} → MemDisk → MemDisk → Result T E → Type 0
AnswersSync old new (Ok answer) = Does after_sync (one_more (sync_count old)) old new
AnswersSync old new (Err error) = FailsByList old new ⊎ LacksRoom old new

-- one more call was made, under the same lists; what stood after each earlier one is as it was
pub record MadeCall (old new : MemDisk) : Type 0 where
  pub number : call_count new ≡ next_call old
  pub fails : new.fails.items ≡ old.fails.items
  pub from : new.from ≡ old.from
  pub earlier : (calls : ℕ) → calls < next_call old → standing_after new calls ≡ standing_after old calls
  pub latest : standing_after new (call_count new) ≡ standing new

-- no call was made yet, these bytes stand there as synced, and the calls will go by these lists
pub record IsFresh (bytes fails : List ℕ) (from : Option ℕ) (disk : MemDisk) : Type 0 where
  pub stands : standing disk ≡ settled bytes
  pub at_first : standing_after disk 0 ≡ settled bytes
  pub fails_listed : disk.fails.items ≡ fails
  pub fails_from : disk.from ≡ from
  pub clock : clock_of disk ≡ 0
  pub calls : call_count disk ≡ 0
  pub counts : HasCounts disk 0 0 0
