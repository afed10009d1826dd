-- What putting a state behind all events leaves, and why it stops.
use Rattle.std.proofs.Common.{◌≡◌, ◌<◌, inl, inr, ℕ, List, length, Bool, false, Option, None, Some, sym, ◌∙◌, subst, arith}
use Rattle.std.proofs.Common.{take, true≢false}
use Rattle.std.proofs.lemmas.List.{take_all}
use Rattle.acc_base.specs.declared.designs.Design.{Design}
use Rattle.acc_base.specs.declared.machines.Event.{Event}
use Rattle.acc_io.specs.Causes.{Rose}
use Rattle.acc_wal.specs.Journals.{CountsAll}
use Rattle.acc_wal.specs.declared.items.Seal.{Seal}
use Rattle.acc_machine.specs.Kept.{IsKept}
use Rattle.acc_recover.specs.Seals.{AreSealsOf}
use Rattle.acc_engine.specs.Calls.{StopsSealing}
use Rattle.acc_engine.specs.Keeping.{Journalled}
use Rattle.acc_engine.specs.Sealing.{SealedFront}
use Rattle.acc_engine.specs.Surviving.{Survives}
use Rattle.acc_engine.proofs.Sealed.{front_of_all}
use Rattle.acc_engine.specs.declared.errors.EngineError.{EngineError}
use Rattle.acc_engine.specs.declared.errors.EngineError.TheVariants.{Disk as DiskFails, Failed as HasFailed, Memory as NoMemory}
use Rattle.acc_settling.specs.Chains.{but_one}
use Rattle.acc_settling.specs.Growth.{HasGrown}
use Rattle.acc_settling.specs.Leaving.{stop_of, LeavesEngine}
use Rattle.acc_settling.specs.Runs.{IsAcked, RunsOn}
use Rattle.acc_settling.proofs.Acks.{all_acked}

-- ---- an engine over a journal whose states are right

pub front_of_right : {D : Type 0} (e : Journalled D) (d : Design) (events : List Event) (seals : List Seal) (file : List ℕ)
    → e.design ≡ d → e.state.events ≡ events → e.seals ≡ seals → e.settled ≡ length e.state.events → AreSealsOf d events seals
    → CountsAll file e.base e.version (take e.settled e.state.events) e.seals
    → SealedFront e.design e.base e.state.events e.settled file
front_of_right e d events seals file design_is events_are seals_are all each counts =
    let here : AreSealsOf e.design e.state.events e.seals =
    subst (λ (x : Design). AreSealsOf x e.state.events e.seals) (sym design_is)
    (subst (λ (es : List Event). AreSealsOf d es e.seals) (sym events_are)
    (subst (λ (l : List Seal). AreSealsOf d events l) (sym seals_are) each)) in
    let whole : take e.settled e.state.events ≡ e.state.events = take_all e.settled e.state.events (omega (arith, all)) in
    front_of_all e.design e.base file e.state.events e.settled (omega (arith, all)) (
      e.version,
      e.seals,
      record { counts = subst (λ (es : List Event). CountsAll file e.base e.version es e.seals) whole counts; each = here },
    )

-- ---- a state behind all events

-- the history hasn't grown
pub not_grown : {D : Type 0} (e : Journalled D) (before : Bool) → before ≡ false → ¬ (e.found < length e.state.events)
    → ¬ HasGrown before e
not_grown e before none still (inl grew) = true≢false (sym grew ∙ none)
not_grown e before none still (inr more) = still more

module _ {D : Type 0} (clock : D → ℕ) (left_since : D → ℕ → List ℕ → Type 0) (told : D → Option (List ℕ)) (may_leave : D → List ℕ → Type 0)
    (count : D → ℕ) (old new : Journalled D) (s : Survives clock left_since told may_leave count old new)
    (kept : IsKept new.design new.state) (all : new.settled ≡ length new.state.events) where
  acked : IsAcked new
  acked = all_acked new kept all

  runs : RunsOn clock left_since told may_leave count old new
  runs = record { survives = s; ends = λ _. but_one new acked }

  pub sealed_leaves : new.failed ≡ false → LeavesEngine clock left_since told may_leave count None old new
  sealed_leaves unfailed = (runs, record { unfailed = unfailed; ready = λ ready. s.ready ready unfailed; acked = λ _. acked })

  -- it isn't put, or isn't durable
  pub sealing_leaves : (error : EngineError) → old.failed ≡ false
      → StopsSealing error old.failed new.failed (Rose (count old.disk) (count new.disk))
      → LeavesEngine clock left_since told may_leave count (Some (stop_of error)) old new
  sealing_leaves DiskFails unfailed why = (runs, (why.1, why.2))
  sealing_leaves HasFailed unfailed why = absurd (true≢false (sym why ∙ unfailed))
  sealing_leaves NoMemory unfailed why = (runs, why.1)
