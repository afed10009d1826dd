-- What is kept of an engine from one call to a later one, whoever makes the calls between.
use Rattle.std.specs.Prelude.{◌≡◌, ◌≤◌, ◌⊎◌, ◌++◌, ℕ, List, [], true, false, Option}
use Rattle.acc_base.specs.declared.machines.Event.{Event}
use Rattle.acc_io.specs.Causes.{Rose}
use Rattle.acc_disk.specs.Moments.{AtAnyMoment}
use Rattle.acc_engine.specs.Keeping.{Journalled}
use Rattle.acc_engine.specs.Ready.{IsReady}
use Rattle.acc_engine.specs.Sealing.{SealedFront}

-- the same script and journal, and the history goes on
pub record GoesOn {D : Type 0} (old new : Journalled D) : Type 0 where
  pub base : new.base ≡ old.base
  pub design : new.design ≡ old.design
  pub calls : new.calls ≡ old.calls
  pub found : new.found ≡ old.found
  pub more : List Event
  pub history : new.state.events ≡ old.state.events ++ more

-- The history goes on, no less of it is durable, and the disk's count of faults hasn't fallen. It fails only where that count rose, and
-- stays failed. Unless it fails, no state waits where none did. From a calm disk a crash at any moment leaves a front of the history, of
-- all that was durable at first at least, and states that are the texts of the rows at their places; and one afterwards, of all that is
-- durable then. Unless the engine fails, the disk is calm again.
pub record Survives {D : Type 0} (clock : D → ℕ) (left_since : D → ℕ → List ℕ → Type 0) (told : D → Option (List ℕ))
    (may_leave : D → List ℕ → Type 0) (count : D → ℕ) (old new : Journalled D) : Type 0 where
  pub goes_on : GoesOn old new
  pub settled : old.settled ≤ new.settled
  pub waiting : old.waiting ≡ [] → new.failed ≡ false → new.waiting ≡ []
  pub faults : count old.disk ≤ count new.disk
  pub rose : new.failed ≡ true → (old.failed ≡ true) ⊎ Rose (count old.disk) (count new.disk)
  pub stays_failed : old.failed ≡ true → new.failed ≡ true
  pub moments :
      IsReady told may_leave old
      → AtAnyMoment clock left_since old.disk new.disk (SealedFront new.design old.base new.state.events old.settled)
  pub left :
      IsReady told may_leave old → (image : List ℕ) → may_leave new.disk image
      → SealedFront new.design new.base new.state.events new.settled image
  pub ready : IsReady told may_leave old → new.failed ≡ false → IsReady told may_leave new
