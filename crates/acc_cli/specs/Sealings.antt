-- In what a journal ends that a command has recovered.
use Rattle.std.specs.Prelude.{◌≡◌, ◌≢◌, ◌⊎◌, ℕ, List, ◌∷◌, Option}
use Rattle.acc_base.specs.declared.designs.Design.{Design}
use Rattle.acc_base.specs.declared.machines.Event.{Event}
use Rattle.acc_io.specs.Shelves.{Told}
use Rattle.acc_journalled.specs.Sealing.{SealsGrowth}
use Rattle.acc_commands.specs.Command.{Command}
use Rattle.acc_commands.specs.Files.{AreFiles}
use Rattle.acc_commands.specs.Texts.{IsDesignText}
use Rattle.acc_commands.specs.Words.{files_of}

-- The first file spells this design. Where the history has events that the file on the disk didn't count, the last state of the journal
-- that is there now stands behind all of them; unless the journal is of version 1, or the text of the rows is too long.
pub record EndsInState (held : List ℕ → Told) (words : List (List ℕ)) (c : Command) (told told' : Option (List ℕ)) (history : List Event)
    : Type 0 where
  pub design : List ℕ
  pub others : List (List ℕ)
  pub given : AreFiles held (files_of c words) (design ∷ others)
  pub d : Design
  pub is_text : IsDesignText design d
  pub grown : SealsGrowth d told told' history

-- it ends with another status than 0, 7, 8 and 10; or so
abbrev pub TellsSealed : (List ℕ → Told) → List (List ℕ) → Command → Option (List ℕ) → Option (List ℕ) → List Event → ℕ → Type 0
TellsSealed held words c told told' history code =
    ((code ≢ 0) × (code ≢ 7) × (code ≢ 8) × (code ≢ 10)) ⊎ EndsInState held words c told told' history
