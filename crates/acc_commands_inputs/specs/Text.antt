-- What a command says.
use Rattle.std.specs.Prelude.{◌≡◌, ◌⊎◌, ℕ, List, []}
use Rattle.acc_base.specs.declared.machines.Event.{Event}
use Rattle.acc_journalled.specs.Tellings.{Telling}
use Rattle.acc_journalled.specs.declared.answers.Ending.{Ending}
use Rattle.acc_journalled.specs.declared.answers.Ending.TheVariants.{DesignRefused, ScriptRefused}

-- what a command says: how it ends, what is printed, and the events of its machine
pub record Said : Type 0 where
  pub ending : Ending
  pub text : List ℕ
  pub history : List Event

-- it ends so, prints this text, and no machine ran
abbrev pub Says : Ending → List ℕ → Said → Type 0
Says ending text said = (said.ending ≡ ending) × (said.text ≡ text) × (said.history ≡ [])

-- what it says over a disk, but for how many events are durable
abbrev pub said_in : Telling → Said
said_in t = record { ending = t.ending; text = t.text; history = t.history }

-- endings that stand before the journal in the order of the refusals
abbrev pub IsEarly : Ending → Type 0
IsEarly ending = (ending ≡ DesignRefused) ⊎ (ending ≡ ScriptRefused)
