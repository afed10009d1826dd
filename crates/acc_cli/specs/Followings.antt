-- What stands behind the answers of `follow`.
use Rattle.std.specs.Prelude.{◌≡◌, ◌≢◌, ◌⊎◌, ℕ, List, [], ◌∷◌, Option, None}
use Rattle.std.specs.Io.KnownBytes.{Appends}
use Rattle.acc_base.specs.declared.designs.Design.{Design}
use Rattle.acc_base.specs.Machine.{World}
use Rattle.acc_formed.specs.WellFormed.{IsWellFormed}
use Rattle.acc_io.specs.Shelves.{Told}
use Rattle.acc_io.specs.Sinks.{WritesFront}
use Rattle.acc_commands.specs.Admissions.{IsAcceptedWith}
use Rattle.acc_commands.specs.Command.TheVariants as command
use Rattle.acc_commands.specs.Ends.{Ends}
use Rattle.acc_commands.specs.Files.{AreFiles}
use Rattle.acc_commands.specs.Following.{followed_text, IsReplayed}
use Rattle.acc_commands.specs.Texts.{IsDesignText}
use Rattle.acc_commands.specs.Words.{files_of}

-- The files spell this design, a certificate with which it is accepted, and bytes of which all batches that came whole are done: they lead
-- to this state, which is that of its events, and these are annotated. How many there are, how many transactions are unfinished behind
-- them, and the rows were said, or a front of that, and with status 0 the whole. The number of a piece's bytes says nothing.
pub record IsFollowed (held : List ℕ → Told) (words : List (List ℕ)) (size : ℕ) (old new : Option (List ℕ)) (code : ℕ) : Type 0 where
  pub design : List ℕ
  pub certificate : List ℕ
  pub copy : List ℕ
  pub given : AreFiles held (files_of (command.Follow size) words) (design ∷ certificate ∷ copy ∷ [])
  pub d : Design
  pub is_text : IsDesignText design d
  pub formed : IsWellFormed d
  pub accepted : IsAcceptedWith d certificate
  pub here : World
  pub ends : Ends d copy None here
  pub replayed : IsReplayed d here
  pub says : code ≡ 0 → Appends old new (followed_text d here)
  pub front : WritesFront old new (followed_text d here)

-- no rows are told; or so
abbrev pub TellsFollowing : (List ℕ → Told) → List (List ℕ) → ℕ → Option (List ℕ) → Option (List ℕ) → ℕ → Type 0
TellsFollowing held words size old new code = ((code ≢ 0) × (code ≢ 7)) ⊎ IsFollowed held words size old new code
