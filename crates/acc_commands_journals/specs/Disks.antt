-- What a command does to the disk that it is handed.
use Rattle.std.specs.Prelude.{◌≡◌, ◌≢◌, ◌⊎◌, ◌≤◌, ℕ, List, [], Option, Some, None, IfSome, Result, IfOk}
use Rattle.std.specs.declared.alloc.AllocError.{AllocError}
use Rattle.acc_base.specs.declared.machines.Event.{Event}
use Rattle.acc_io.specs.Causes.{Rose}
use Rattle.acc_disk.specs.Crashes.{Only, IsCalm}
use Rattle.acc_disk.specs.Moments.{AtAnyMoment}
use Rattle.acc_journalled.specs.declared.answers.Answer.{Answer}
use Rattle.acc_journalled.specs.declared.answers.Ending.TheVariants.{DiskFailed}
use Rattle.acc_journalled.specs.Tellings.{Telling, telling_of}
use Rattle.acc_commands_inputs.specs.Text.{Said, said_in, IsEarly}

-- what a disk tells that it holds, where it tells that, and how many of its calls have failed
pub record Seen : Type 0 where
  pub told : Option (List ℕ)
  pub faults : ℕ

-- it tells what it holds, and no call failed, neither in the one run nor in the other
abbrev pub TellsAll : Seen → Seen → Seen → Type 0
TellsAll old one other = (old.told ≢ None) × (¬ Rose old.faults one.faults) × (¬ Rose old.faults other.faults)

abbrev pub seen : Option (List ℕ) → ℕ → Seen
seen told faults = record { told = told; faults = faults }

-- this is said without the disk, which is as before, and no event is durable
abbrev pub WithoutDisk : (Said → Type 0) → Seen → Seen → Telling → Type 0
WithoutDisk Says old new t = (t.settled ≡ 0) × (new ≡ old) × Says (said_in t)

-- nothing was asked of the disk, and nothing is told
abbrev pub IsUntouched : {D : Type 0} → D → D → List Event → ℕ → Type 0
IsUntouched old new history settled = (new ≡ old) × (history ≡ []) × (settled ≡ 0)

-- so, or that is left
abbrev pub OrUntouched : {D : Type 0} → (D → D → List Event → ℕ → Type 0) → D → D → List Event → ℕ → Type 0
OrUntouched Leaves old new history settled = IsUntouched old new history settled ⊎ Leaves old new history settled

-- Where the disk was calm, a crash at any moment of the command leaves what is so to the file that it held, and so is what it holds
-- afterwards.
pub record LeavesSo {D : Type 0} (clock : D → ℕ) (left_since : D → ℕ → List ℕ → Type 0) (told : D → Option (List ℕ))
    (may_leave : D → List ℕ → Type 0) (IsSo : List ℕ → List ℕ → Type 0) (old new : D) : Type 0 where
  pub moments :
      (file : List ℕ) → told old ≡ Some file → Only file (may_leave old) → AtAnyMoment clock left_since old new (IsSo file)
  pub left : (file : List ℕ) → told old ≡ Some file → Only file (may_leave old) → IfSome (told new) (IsSo file)

-- How a command ends over the disk that it is handed.
--
-- For example `init` on an empty disk: `old` tells [] and `new` tells 0xA5 ∷ rest_of base, where base is the design's printed text; the
-- answer is `created` and ends as Done; the history is [], and 0 events are durable. Where the disk fails its third call, the answer is
-- `fault disk` and ends as DiskFailed, and `new` tells any of the images that a crash leaves.
pub record Ends {D : Type 0} (told : D → Option (List ℕ)) (may_leave : D → List ℕ → Type 0) (faults : D → ℕ)
    (Means : Seen → Seen → Telling → Type 0) (Leaves : D → D → List Event → ℕ → Type 0)
    (old new : D) (answer : Result Answer AllocError) (history : List Event) (settled : ℕ) : Type 0 where
  -- unless memory ran out, this is what it means
  pub means : IfOk answer (λ a. Means (seen (told old) (faults old)) (seen (told new) (faults new)) (telling_of a history settled))
  -- a refusal that stands before the journal asks the disk nothing
  pub refused : IfOk answer (λ a. IsEarly a.ending → new ≡ old)
  -- what it and a crash in it leave, and the events that it tells, also where memory ran out
  pub leaves : Leaves old new history settled
  -- a calm disk is calm again, unless one of its calls failed
  pub calm : IfOk answer (λ a. a.ending ≢ DiskFailed → IsCalm (told old) (may_leave old) → IsCalm (told new) (may_leave new))
  -- the disk's count of faults hasn't fallen
  pub counts : faults old ≤ faults new
