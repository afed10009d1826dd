-- What the definitions of the commands say by themselves.
use Rattle.std.specs.Prelude.{◌≡◌, ◌≢◌, ℕ, true, List, [], None, codes}
use Rattle.acc_base.specs.declared.designs.Design.{Design}
use Rattle.acc_base.specs.Lines.{line}
use Rattle.acc_formed.specs.WellFormed.{IsWellFormed}
use Rattle.acc_oblig.specs.Laws.{drafts_of, sequents_of}
use Rattle.acc_oblig_goals.specs.Causes.{first_wide}
use Rattle.acc_commands_journals.specs.Texts.{IsDesignText}
use Rattle.acc_commands_journals.specs.Admissions.{IsAcceptedWith}
use Rattle.acc_commands_files.specs.Provings.{AllClose, IsCertified}
use Rattle.acc_journalled.specs.declared.answers.Ending.TheVariants.{Done, ConditionFalse}
use Rattle.acc_journalled.specs.Tellings.{Telling}
use Rattle.acc_commands_journals.specs.Command.{Command}
use Rattle.acc_commands_journals.specs.Text.{Said, Says}
use Rattle.acc_commands_journals.specs.Disks.{Seen, TellsAll}
use Rattle.acc_commands_files.specs.BenchFiles.{BenchesFiles}
use Rattle.acc_commands_files.specs.CheckFiles.{ChecksFiles}
use Rattle.acc_commands_files.specs.Mix.{Mix}
use Rattle.acc_commands_files.specs.ProveFiles.{ProvesFile}
use Rattle.acc_commands_files.specs.ShippedText.{shipped_design}
use Rattle.acc_commands_journals.specs.VerifyFiles.{VerifiesFiles}
use Rattle.acc_commands_journals.specs.Words.{is_journalled}
use Rattle.acc_commands.specs.Means.{Means}
use Rattle.acc_commands.specs.Alike.{AreAlike}

-- A command says one thing of its files and of the words that name points, but for which certificate `prove` makes. One over a journal
-- says one thing of them and of what its disk tells, where no call of the disk failed, but for the order of the turns of `run`.
abbrev pub CommandsMeanOne : Type 0
CommandsMeanOne = (c : Command) (points files : List (List ℕ)) (old one other : Seen) (a b : Telling)
    → (is_journalled c ≡ true → TellsAll old one other) → Means c points files old one a → Means c points files old other b
    → AreAlike c a b

-- With what `prove` says of a design where it is done, `check` says of it that it is accepted.
abbrev pub ProvedIsAccepted : Type 0
ProvedIsAccepted = (design : List ℕ) (proved checked : Said) → ProvesFile design proved → proved.ending ≡ Done
    → ChecksFiles design proved.text checked → Says Done (line (codes "accepted")) checked

-- Where bytes are a certificate with which the design of a text is accepted, `check` says that it is accepted.
abbrev pub AcceptedIsTold : Type 0
AcceptedIsTold = (design certificate : List ℕ) (d : Design) (said : Said) → IsDesignText design d → IsAcceptedWith d certificate
    → ChecksFiles design certificate said → Says Done (line (codes "accepted")) said

-- Where a text is that of a well-formed design, no number of its obligations is too large, and the search for each closes, `prove` says a
-- certificate with which the design is accepted.
abbrev pub ClosedIsTold : Type 0
ClosedIsTold = (design : List ℕ) (d : Design) (said : Said) → IsDesignText design d → IsWellFormed d → first_wide (drafts_of d) ≡ None
    → AllClose d (sequents_of d) → ProvesFile design said → (said.ending ≡ Done) × IsCertified d said.text × (said.history ≡ [])

-- Where a text is that of the shipped design, `verify` never finds a condition false of it, whatever its journal holds.
abbrev pub ShippedStaysTrue : Type 0
ShippedStaysTrue = (design certificate : List ℕ) (old new : Seen) (t : Telling) → IsDesignText design shipped_design
    → VerifiesFiles design certificate old new t → t.ending ≢ ConditionFalse

-- And `bench` never finds one false of it, however large its load and its mix are.
abbrev pub ShippedBenchesTrue : Type 0
ShippedBenchesTrue = (m : Mix) (design certificate : List ℕ) (said : Said) → IsDesignText design shipped_design
    → BenchesFiles m design certificate said → said.ending ≢ ConditionFalse
