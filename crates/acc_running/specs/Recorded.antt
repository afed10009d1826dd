-- What is recorded of a run over a journal: its events as far as they came, and how many of the first of them are durable.
use Rattle.std.specs.Prelude.{◌≡◌, ◌≢◌, ◌⊎◌, ◌≤◌, ◌++◌, ℕ, Bool, List, [], length, take, Option, option_and_then, IfSome}
use Rattle.acc_base.specs.declared.designs.Design.{Design}
use Rattle.acc_base.specs.declared.machines.Call.{Call}
use Rattle.acc_base.specs.declared.machines.Event.{Event}
use Rattle.acc_base.specs.Annotated.{IsAnnotated, IsIdle}
use Rattle.acc_base.specs.Lawful.{LeadLawfully}
use Rattle.acc_base.specs.Machine.{World, start, world, reply_at}
use Rattle.acc_print.specs.Designs.{printed}
use Rattle.acc_wal.specs.Journals.{Counts}
use Rattle.acc_engine.specs.Keeping.{BeginsFrom}
use Rattle.acc_schedule.specs.Schedules.{IsIdleBetween}
use Rattle.acc_recover.specs.Recoveries.{IsRecovery}
use Rattle.acc_recover.specs.Seals.{HasSeals}

-- The file, where its bytes are told, was a journal of the design's printed text, and each of its states was the text of the rows at its
-- place. This is the state that recovery made of its events.
pub record IsFound (d : Design) (told : Option (List ℕ)) (first : World) : Type 0 where
  pub found : List Event
  pub counts : IfSome told (λ file. Counts file (printed d) found)
  pub sealed : IfSome told (HasSeals d found)
  pub recovery : IsRecovery d found first
  pub idle : IsIdle d first.rows

-- each transaction's reply after the durable events is its reply after all of them, but for one's
pub record IsDurableButOne (d : Design) (history : List Event) (settled : ℕ) : Type 0 where
  pub one : ℕ
  pub others :
      (t : ℕ) → t ≢ one
      → option_and_then (reply_at t) (world d (take settled history)) ≡ option_and_then (reply_at t) (world d history)

-- What is promised of the events, whoever took which turn, whatever their order and however the run ends. They begin with the recovered
-- history; none of those behind it is a crash, and the calls that begin there are the script's, each once at most. All of them are a lawful
-- run: each step began with its assertion true, each end keeps its promise, and whenever nothing is unfinished the state is idle. The
-- recovered history is durable at least.
pub record IsRecorded (d : Design) (calls : List Call) (first : World) (history : List Event) (settled : ℕ) : Type 0 where
  pub more : List Event
  pub history_is : history ≡ first.events ++ more
  pub begun : List Bool
  pub begins : BeginsFrom calls begun more
  pub last : World
  pub lawful : LeadLawfully d start history last
  pub annotated : IsAnnotated d history
  pub idle : IsIdleBetween d history
  pub least : length first.events ≤ settled
  pub within : settled ≤ length history

-- nothing was recovered, and no event is told; or what was recovered, and the run behind it
abbrev pub Records : Design → List Call → Option (List ℕ) → List Event → ℕ → Type 0
Records d calls told history settled =
    ((history ≡ []) × (settled ≡ 0)) ⊎ ((first : World) × IsFound d told first × IsRecorded d calls first history settled)
