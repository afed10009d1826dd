-- What calls of an engine answer, and what they leave where they were done or weren't.
use Rattle.std.specs.Prelude.{◌≡◌, ◌≤◌, ℕ, List, Option, Some, None, true, false}
use Rattle.std.proofs.Common.{arith}
use Rattle.acc_io.specs.Causes.{Rose}
use Rattle.acc_engine.specs.Keeping.{Journalled}
use Rattle.acc_engine.specs.declared.errors.Drawn.{Drawn}
use Rattle.acc_engine.specs.declared.errors.Drawn.TheVariants.{Begun, Empty, Full, Crowd}
use Rattle.acc_engine.specs.declared.errors.EngineError.{EngineError}
use Rattle.acc_engine.specs.declared.errors.EngineError.TheVariants.{Disk as DiskFails, Failed as HasFailed, Memory as NoMemory}
use Rattle.acc_player.specs.declared.stops.Stop.{Stop}
use Rattle.acc_player.specs.declared.stops.Stop.TheVariants.{Disk, Memory}
use Rattle.acc_settling.specs.Runs.{RunsOn, IsReadyAgain}
use Rattle.acc_settling.specs.Chains.{runs_none, again_none, runs_more, again_more}

-- the number of a place that began
abbrev pub number_in : Drawn → Option ℕ
number_in (Begun t) = Some t
number_in Empty = None
number_in Full = None
number_in Crowd = None

-- an engine has failed where its disk did
abbrev pub stop_of : EngineError → Stop
stop_of DiskFails = Disk
stop_of HasFailed = Disk
stop_of NoMemory = Memory

-- why a call of an engine that hadn't failed isn't done: its disk's faults rose, and it has failed; or memory ran out
abbrev pub Stops : {D : Type 0} → (D → ℕ) → Stop → Journalled D → Journalled D → Type 0
Stops count Disk old new = (new.failed ≡ true) × Rose (count old.disk) (count new.disk)
Stops count Memory old new = new.failed ≡ false

-- the run goes on, and the next call may come, or a fault or want of memory has stopped it
abbrev pub LeavesEngine : {D : Type 0} → (D → ℕ) → (D → ℕ → List ℕ → Type 0) → (D → Option (List ℕ)) → (D → List ℕ → Type 0) → (D → ℕ)
    → Option Stop → Journalled D → Journalled D → Type 0
LeavesEngine clock left_since told may_leave count None old new =
    RunsOn clock left_since told may_leave count old new × IsReadyAgain told may_leave old new
LeavesEngine clock left_since told may_leave count (Some stop) old new =
    RunsOn clock left_since told may_leave count old new × Stops count stop old new

-- ---- laws, by which calls are put together

-- where no fault came before, or some did
pub stops_since : {D : Type 0} (count : D → ℕ) (stop : Stop) (old mid new : Journalled D) → count old.disk ≤ count mid.disk
    → Stops count stop mid new → Stops count stop old new
stops_since count Disk old mid new le (failed, rose) = (failed, omega (arith, le, rose))
stops_since count Memory old mid new le unfailed = unfailed

module _ {D : Type 0} (clock : D → ℕ) (left_since : D → ℕ → List ℕ → Type 0) (told : D → Option (List ℕ)) (may_leave : D → List ℕ → Type 0)
    (count : D → ℕ) where
  pub leaves_ready : (p q : Journalled D) → LeavesEngine clock left_since told may_leave count None p q → q.failed ≡ false
  leaves_ready p q a = a.1.unfailed

  pub leaves_want : (p q : Journalled D) → LeavesEngine clock left_since told may_leave count None p q
      → LeavesEngine clock left_since told may_leave count (Some Memory) p q
  leaves_want p q a = (a.0, a.1.unfailed)

  module _ (only_now : (disk : D) (image : List ℕ) → left_since disk (clock disk) image → may_leave disk image) where
    pub leaves_none : (p : Journalled D) → p.failed ≡ false → LeavesEngine clock left_since told may_leave count None p p
    leaves_none p ready = (runs_none clock left_since told may_leave count only_now p, again_none told may_leave p ready)

    pub leaves_more : (why : Option Stop) (p q r : Journalled D) → LeavesEngine clock left_since told may_leave count None p q
        → LeavesEngine clock left_since told may_leave count why q r → LeavesEngine clock left_since told may_leave count why p r
    leaves_more None p q r a b =
        (runs_more clock left_since told may_leave count only_now p q r a.0 a.1 b.0, again_more told may_leave p q r a.1 b.1)
    leaves_more (Some stop) p q r a b =
        (runs_more clock left_since told may_leave count only_now p q r a.0 a.1 b.0, stops_since count stop p q r a.0.survives.faults b.1)
