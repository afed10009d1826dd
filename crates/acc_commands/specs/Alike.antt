-- What may differ between two answers of a command to the same files.
use Rattle.std.specs.Prelude.{◌≡◌, ◌⊎◌, ℕ}
use Rattle.acc_journalled.specs.declared.answers.Ending.TheVariants.{Done, Unbegun}
use Rattle.acc_journalled.specs.Tellings.{Telling}
use Rattle.acc_commands_journals.specs.Command.{Command}
use Rattle.acc_commands_journals.specs.Command.TheVariants as command

-- both are certificates that `prove` may make of a design
pub record AreCertificates (c : Command) (a b : Telling) : Type 0 where
  pub is_prove : c ≡ command.Prove
  pub one_done : a.ending ≡ Done
  pub other_done : b.ending ≡ Done
  pub history : a.history ≡ b.history
  pub settled : a.settled ≡ b.settled

-- it went to its end, each place of it begun or the history full
abbrev pub IsWhole : Telling → Type 0
IsWhole t = (t.ending ≡ Done) ⊎ (t.ending ≡ Unbegun)

-- both are whole runs by workers, whose turns may come in more than one order
pub record AreByWorkers (c : Command) (a b : Telling) : Type 0 where
  pub workers : ℕ
  pub is_run : c ≡ command.Run workers
  pub one_whole : IsWhole a
  pub other_whole : IsWhole b

-- nothing, but for which certificate is made, and for the order of the turns of workers
abbrev pub AreAlike : Command → Telling → Telling → Type 0
AreAlike c a b = (a ≡ b) ⊎ AreCertificates c a b ⊎ AreByWorkers c a b
