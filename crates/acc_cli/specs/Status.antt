-- The numbers of the statuses.
use Rattle.std.specs.Prelude.{◌≡◌, ◌⊎◌, ℕ}
use Rattle.acc_journalled.specs.declared.answers.Ending.TheVariants.{Done, DesignRefused, ScriptRefused, JournalRefused}
use Rattle.acc_journalled.specs.declared.answers.Ending.TheVariants.{DiskFailed, Unbegun, Open, ConditionFalse}
use Rattle.acc_cli.specs.declared.status.Status.{Status}
use Rattle.acc_cli.specs.declared.status.Status.TheVariants.{Usage, File, Sink, Memory, Ran}

abbrev pub code_of : Status → ℕ
code_of (Ran Done) = 0
code_of Usage = 1
code_of (Ran DesignRefused) = 2
code_of (Ran ScriptRefused) = 3
code_of (Ran JournalRefused) = 4
code_of (Ran DiskFailed) = 5
code_of File = 6
code_of Sink = 7
code_of (Ran Unbegun) = 8
code_of Memory = 9
code_of (Ran Open) = 10
code_of (Ran ConditionFalse) = 10

-- the number is that of a status of which this holds
pub record IsCoded (code : ℕ) (P : Status → Type 0) : Type 0 where
  pub status : Status
  pub coded : code ≡ code_of status
  pub holds : P status

-- the status of a refusal that stands before the journal in their order: of the words, a file, the design and the script
abbrev pub IsBeforeJournal : ℕ → Type 0
IsBeforeJournal code = (code ≡ 1) ⊎ (code ≡ 2) ⊎ (code ≡ 3) ⊎ (code ≡ 6)
