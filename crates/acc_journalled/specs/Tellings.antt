-- What a command says over a disk.
use Rattle.std.specs.Prelude.{◌≡◌, ℕ, List, [], length, codes}
use Rattle.acc_base.specs.declared.machines.Event.{Event}
use Rattle.acc_base.specs.Lines.{line}
use Rattle.acc_base.specs.Machine.{World}
use Rattle.acc_journalled.specs.declared.answers.Answer.{Answer}
use Rattle.acc_journalled.specs.declared.answers.Ending.{Ending}
use Rattle.acc_journalled.specs.declared.answers.Ending.TheVariants.{Done, DiskFailed}

-- how it ends, what is printed, the events of its machine, and how many of the first of them the journal holds as durable when it ends
pub record Telling : Type 0 where
  pub ending : Ending
  pub text : List ℕ
  pub history : List Event
  pub settled : ℕ

-- what the code's values say: an answer, the events, and how many of them are durable
abbrev pub telling_of : Answer → List Event → ℕ → Telling
telling_of a history settled = record { ending = a.ending; text = a.text.items; history = history; settled = settled }

-- an answer without a machine
abbrev pub unrun_telling : Answer → Telling
unrun_telling a = telling_of a [] 0

-- it ends so, prints this text, no machine ran, and no event is durable
abbrev pub Says : Ending → List ℕ → Telling → Type 0
Says ending text t = (t.ending ≡ ending) × (t.text ≡ text) × (t.history ≡ []) × (t.settled ≡ 0)

-- all is done, with this text, and the state's history is durable
abbrev pub SaysOf : List ℕ → World → Telling → Type 0
SaysOf text w t = (t.ending ≡ Done) × (t.text ≡ text) × (t.history ≡ w.events) × (t.settled ≡ length w.events)

-- what is printed where a call of the disk failed
abbrev pub fault_text : List ℕ
fault_text = line (codes "fault disk")

-- a call of the disk failed behind all events of the state, which are durable
abbrev pub SaysFault : World → Telling → Type 0
SaysFault w t = (t.ending ≡ DiskFailed) × (t.text ≡ fault_text) × (t.history ≡ w.events) × (t.settled ≡ length w.events)
