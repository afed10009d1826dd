-- What the definitions say by themselves.
use Rattle.std.specs.Prelude.{◌≡◌, ◌⊎◌, ℕ, List, Result, Err}
use Rattle.acc_base.specs.declared.designs.Design.{Design}
use Rattle.acc_formed.specs.WellFormed.{IsWellFormed}
use Rattle.acc_audit_journal.specs.declared.journals.Judgement.{Judgement}
use Rattle.acc_audit_journal.specs.declared.journals.JudgeError.{JudgeError}
use Rattle.acc_audit_journal.specs.declared.journals.JudgeError.TheVariants.{Memory}
use Rattle.acc_audit_journal.specs.Judging.{Judges, JudgesMeaning, IsKindToSound}

-- two answers of the same bytes by the same design are the same, but where memory ran out
abbrev pub JudgesOne : Type 0
JudgesOne = (d : Design) (bytes : List ℕ) (a b : Result Judgement JudgeError) → Judges d bytes a → Judges d bytes b
    → (a ≡ b) ⊎ (a ≡ Err Memory) ⊎ (b ≡ Err Memory)

-- a judgement by a well-formed design means that a clause is false where it is told to be, and that none is where none is told to be; a
-- sound design finds nothing wrong in lawful events
abbrev pub JudgingMeans : Type 0
JudgingMeans = (d : Design) (bytes : List ℕ) (told : Result Judgement JudgeError) → IsWellFormed d → Judges d bytes told
    → JudgesMeaning d bytes told × IsKindToSound d bytes told
