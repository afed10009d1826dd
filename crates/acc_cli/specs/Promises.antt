-- What is promised of the events that `rehearse` and `bench` tell, whatever the order of turns and however the program ends.
use Rattle.std.specs.Prelude.{◌≡◌, ◌⊎◌, ℕ, List, [], ◌∷◌}
use Rattle.acc_base.specs.declared.designs.Design.{Design}
use Rattle.acc_base.specs.declared.machines.Event.{Event}
use Rattle.acc_base.specs.Machine.{World}
use Rattle.acc_io.specs.Shelves.{Told}
use Rattle.acc_commands.specs.Texts.{IsDesignText}
use Rattle.acc_commands.specs.Admissions.{IsAcceptedWith}
use Rattle.acc_commands.specs.Schedules.{EndsWell}
use Rattle.acc_commands.specs.Command.{Command}
use Rattle.acc_commands.specs.Files.{AreFiles}
use Rattle.acc_commands.specs.Words.{files_of}

-- They are a run of the design that the first file spells, which is accepted with the second. The run is lawful and annotated, it is idle
-- whenever nothing is unfinished, and nothing is left unfinished.
pub record RunsAccepted (held : List ℕ → Told) (words : List (List ℕ)) (c : Command) (history : List Event) : Type 0 where
  pub design : List ℕ
  pub certificate : List ℕ
  pub others : List (List ℕ)
  pub given : AreFiles held (files_of c words) (design ∷ certificate ∷ others)
  pub d : Design
  pub is_text : IsDesignText design d
  pub accepted : IsAcceptedWith d certificate
  pub last : World
  pub ends_well : EndsWell d history last

-- there are none, or they are such a run
abbrev pub KeepsPromise : (List ℕ → Told) → List (List ℕ) → Command → List Event → Type 0
KeepsPromise held words c history = (history ≡ []) ⊎ RunsAccepted held words c history
