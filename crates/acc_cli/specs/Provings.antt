-- What stands behind a certificate that `prove` prints, and what answers leave free.
use Rattle.std.specs.Prelude.{◌≡◌, ◌⊎◌, ◌∷◌, ℕ, List, [], Option, Some}
use Rattle.std.specs.Io.KnownBytes.{Appends}
use Rattle.acc_base.specs.declared.designs.Design.{Design}
use Rattle.acc_io.specs.Shelves.{Told}
use Rattle.acc_formed.specs.WellFormed.{IsWellFormed}
use Rattle.acc_commands.specs.Texts.{IsDesignText}
use Rattle.acc_commands.specs.Provings.{IsCertified}
use Rattle.acc_journalled.specs.declared.answers.Ending.TheVariants.{Done, Unbegun}
use Rattle.acc_commands.specs.Command.TheVariants as command
use Rattle.acc_commands.specs.Words.{command_of, files_of}
use Rattle.acc_commands.specs.Files.{AreFiles}
use Rattle.acc_cli.specs.declared.status.Status.TheVariants.{Ran}
use Rattle.acc_cli.specs.Replies.{Reply}

-- The file spells this design, which is well-formed. What was said is a certificate with a proof of each of its obligations, in one line,
-- with which the design is accepted; so it is sound.
pub record IsProved (held : List ℕ → Told) (words : List (List ℕ)) (old new : Option (List ℕ)) : Type 0 where
  pub design : List ℕ
  pub given : AreFiles held (files_of command.Prove words) (design ∷ [])
  pub d : Design
  pub is_text : IsDesignText design d
  pub formed : IsWellFormed d
  pub text : List ℕ
  pub certified : IsCertified d text
  pub says : Appends old new text

-- both are certificates that `prove` may make of a design
pub record AreCertificates (words : List (List ℕ)) (a b : Reply) : Type 0 where
  pub is_prove : command_of words ≡ Some command.Prove
  pub one_done : a.status ≡ Ran Done
  pub other_done : b.status ≡ Ran Done
  pub history : a.history ≡ b.history
  pub settled : a.settled ≡ b.settled

-- both are whole runs by workers, whose turns may come in more than one order
pub record AreByWorkers (words : List (List ℕ)) (a b : Reply) : Type 0 where
  pub workers : ℕ
  pub is_run : command_of words ≡ Some (command.Run workers)
  pub one_whole : (a.status ≡ Ran Done) ⊎ (a.status ≡ Ran Unbegun)
  pub other_whole : (b.status ≡ Ran Done) ⊎ (b.status ≡ Ran Unbegun)

-- nothing differs, but for which certificate is made, and for the order of the turns of workers
abbrev pub AreAlike : List (List ℕ) → Reply → Reply → Type 0
AreAlike words a b = (a ≡ b) ⊎ AreCertificates words a b ⊎ AreByWorkers words a b
