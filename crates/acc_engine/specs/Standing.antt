-- What an engine keeps whatever is asked of it, and what a crash leaves of its history.
use Rattle.std.specs.Prelude.{◌≡◌, ◌≤◌, ◌⊎◌, ℕ, List, length, take, drop, false, Option, Some}
use Rattle.acc_base.specs.declared.machines.Event.{Event}
use Rattle.acc_wal.specs.Fronts.{CountsFront}
use Rattle.acc_wal.specs.Journals.{Counts, CountsAll}
use Rattle.acc_machine.specs.Kept.{IsKept}
use Rattle.acc_engine.specs.Keeping.{Journalled, BeginsFrom}

-- its state is good; since it was made no crash came, and the script's calls began that are marked, each once; no more is durable than
-- there is; unless it has failed, the disk's bytes are a journal of a front of the history, of all that is durable at least: they are of
-- the engine's version, and hold the durable events, so many of the history's first, and the engine's states
pub record IsSound {D : Type 0} (told : D → Option (List ℕ)) (e : Journalled D) : Type 0 where
  pub kept : IsKept e.design e.state
  pub begins : BeginsFrom e.calls e.begun (drop e.found e.state.events)
  pub within : e.settled ≤ length e.state.events
  pub counts : e.failed ≡ false → (file : List ℕ) → told e.disk ≡ Some file → CountsFront e.base e.state.events e.settled file
  pub journal :
      e.failed ≡ false → (file : List ℕ) → told e.disk ≡ Some file
      → CountsAll file e.base e.version (take e.settled e.state.events) e.seals

-- the bytes are a journal of this base text that counts the durable events, which are so many of the history's first, or the whole
-- history: nothing between
abbrev pub CountsDurableOrAll : List ℕ → List Event → ℕ → List ℕ → Type 0
CountsDurableOrAll base history settled image = Counts image base (take settled history) ⊎ Counts image base history
