-- What a settling leaves, and why a call stops.
use Rattle.std.proofs.Common.{◌≡◌, ◌≤◌, ℕ, List, [], length, false, Option, Some, sym, ap, ◌∙◌}
use Rattle.std.proofs.lemmas.List.{append-nil}
use Rattle.acc_io.specs.Causes.{Rose}
use Rattle.acc_base.specs.Machine.{World, reply_at}
use Rattle.acc_disk.specs.Moments.{AtAnyMoment}
use Rattle.acc_engine.specs.Calls.{RefusesSettling}
use Rattle.acc_engine.specs.Keeping.{Journalled}
use Rattle.acc_engine.specs.Ready.{IsReady}
use Rattle.acc_engine.specs.Sealing.{SealedDurableOrAll}
use Rattle.acc_engine.specs.declared.errors.EngineError.{EngineError}
use Rattle.acc_engine.specs.declared.errors.EngineError.TheVariants.{Disk as DiskFails, Failed as HasFailed, Memory as NoMemory}
use Rattle.acc_engine.proofs.Surviving.{Kept, survives_fault}
use Rattle.acc_settling.specs.Leaving.{stop_of, LeavesEngine}
use Rattle.acc_settling.specs.Runs.{IsAckedButOne}
use Rattle.acc_settling.specs.Chains.{but_one}
use Rattle.acc_settling.proofs.Acks.{one_on}

-- where no more is durable than before, each reply but one's is, if it was
pub one_settling : {D : Type 0} (old new : Journalled D) → Kept old new → new.settled ≡ old.settled → old.settled ≤ length old.state.events
    → IsAckedButOne old → IsAckedButOne new
one_settling old new k same within =
    one_on old new [] k.kept.2 same (ap (λ (w : World). w.events) k.kept.0 ∙ sym (append-nil old.state.events)) within
    (λ t. ap (reply_at t) k.kept.0)

-- a settling that isn't done: its disk's faults rose, and the engine has failed
module _ {D : Type 0} (clock : D → ℕ) (left_since : D → ℕ → List ℕ → Type 0) (told : D → Option (List ℕ)) (may_leave : D → List ℕ → Type 0)
    (count : D → ℕ) (only_now : (disk : D) (image : List ℕ) → left_since disk (clock disk) image → may_leave disk image)
    (counts_now : (disk : D) (time : ℕ) (image : List ℕ) → time ≤ clock disk → may_leave disk image → left_since disk time image)
    (old new : Journalled D) (k : Kept old new) (unfailed : old.failed ≡ false) (faults : count old.disk ≤ count new.disk)
    (moments : IsReady told may_leave old
    → AtAnyMoment clock left_since old.disk new.disk (SealedDurableOrAll old.design old.base old.state.events old.settled))
    (same : new.settled ≡ old.settled) (within : old.settled ≤ length old.state.events) where
  pub settling_leaves : (error : EngineError) → RefusesSettling error old.failed new.failed (Rose (count old.disk) (count new.disk))
      → LeavesEngine clock left_since told may_leave count (Some (stop_of error)) old new
  settling_leaves DiskFails why = (
    record {
      survives =
          survives_fault clock left_since told may_leave count only_now old new k unfailed within moments faults counts_now same why.1
          why.2;
      ends = λ acked. one_settling old new k same within (but_one old acked);
    },
    (why.1, why.2),
  )
  settling_leaves HasFailed why = absurd (let e = sym unfailed ∙ why in cc)
  settling_leaves NoMemory why = absurd why
