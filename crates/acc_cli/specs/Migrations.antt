-- What stands behind the answer of `migrate`.
use Rattle.std.specs.Prelude.{◌≡◌, ◌≢◌, ◌⊎◌, ℕ, List, [], ◌∷◌, Option}
use Rattle.std.specs.Io.KnownBytes.{Appends}
use Rattle.acc_base.specs.declared.designs.Design.{Design}
use Rattle.acc_base.specs.declared.machines.Event.{Event}
use Rattle.acc_io.specs.Shelves.{Told}
use Rattle.acc_journalled.specs.Migrating.{Migrates}
use Rattle.acc_journalled.specs.Recovering.{done_with}
use Rattle.acc_commands.specs.Admissions.{IsAcceptedWith}
use Rattle.acc_commands.specs.Command.TheVariants as command
use Rattle.acc_commands.specs.Files.{AreFiles}
use Rattle.acc_commands.specs.Texts.{IsDesignText}
use Rattle.acc_commands.specs.Words.{files_of}

-- The files spell this design, which is accepted with its certificate, and the third is a journal of it, of which a state was recovered.
-- The disk held no journal, and now it holds one of just the recovered history, all of it durable, with the text of the rows behind it,
-- where that isn't too long. With status 0 it was said how many events that has; where memory ran out, the text is one that could be said.
pub record IsMigration (held : List ℕ → Told) (words : List (List ℕ)) (told told' : Option (List ℕ)) (old new : Option (List ℕ))
    (code : ℕ) (history : List Event) (settled : ℕ) : Type 0 where
  pub design : List ℕ
  pub certificate : List ℕ
  pub source : List ℕ
  pub given : AreFiles held (files_of command.Migrate words) (design ∷ certificate ∷ source ∷ [])
  pub d : Design
  pub is_text : IsDesignText design d
  pub accepted : IsAcceptedWith d certificate
  pub text : List ℕ
  pub migrates : Migrates d source told told' (done_with text history settled)
  pub says : code ≡ 0 → Appends old new text

-- no journal is made, and so no history is told; or this one is
abbrev pub TellsMigration : (List ℕ → Told) → List (List ℕ) → Option (List ℕ) → Option (List ℕ) → Option (List ℕ) → Option (List ℕ) → ℕ
    → List Event → ℕ → Type 0
TellsMigration held words told told' old new code history settled =
    ((code ≢ 0) × (code ≢ 7) × (history ≡ []) × (settled ≡ 0)) ⊎ IsMigration held words told told' old new code history settled
