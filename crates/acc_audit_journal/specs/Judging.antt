-- What is told of a journal's bytes by a design.
use Rattle.std.specs.Prelude.{◌≡◌, ◌≢◌, ⊤, ℕ, List, length, None, Result, Ok, Err}
use Rattle.acc_base.specs.declared.designs.Design.{Design}
use Rattle.acc_base.specs.declared.machines.Event.{Event}
use Rattle.acc_base.specs.Lawful.{AreLawful}
use Rattle.acc_base.specs.Machine.{world}
use Rattle.acc_base.specs.Soundness.{IsSound}
use Rattle.acc_print.specs.Designs.{printed}
use Rattle.acc_wal.specs.Attaching.{CountedAs}
use Rattle.acc_wal.specs.Journals.{Counts}
use Rattle.acc_audit.specs.declared.steps.AuditFinding.{AuditFinding}
use Rattle.acc_audit.specs.declared.steps.AuditFinding.TheVariants as finding
use Rattle.acc_audit.specs.declared.steps.AuditError.{AuditError}
use Rattle.acc_audit.specs.declared.steps.AuditError.TheVariants as error
use Rattle.acc_audit.specs.Audits.{Tells, NeverFalse, ShowsFalse}
use Rattle.acc_audit_journal.specs.declared.journals.Judgement.{Judgement}
use Rattle.acc_audit_journal.specs.declared.journals.Judgement.TheVariants.{Clean, False, Large}
use Rattle.acc_audit_journal.specs.declared.journals.JudgeError.{JudgeError}
use Rattle.acc_audit_journal.specs.declared.journals.JudgeError.TheVariants.{Journal, OtherDesign, NotRun, Memory}

-- the bytes are a journal of the design, and this is so of its events
pub record IsJournalOf (d : Design) (bytes : List ℕ) (So : List Event → Type 0) : Type 0 where
  pub events : List Event
  pub counts : Counts bytes (printed d) events
  pub so : So events

-- the bytes are a journal of another base text
pub record IsOfOther (d : Design) (bytes : List ℕ) : Type 0 where
  pub base : List ℕ
  pub events : List Event
  pub counts : Counts bytes base events
  pub other : base ≢ printed d

-- what is told of a journal's bytes by a design
abbrev pub Judges : Design → List ℕ → Result Judgement JudgeError → Type 0
Judges d bytes (Ok (Clean n)) = IsJournalOf d bytes (λ events. (n ≡ length events) × Tells d events (Ok finding.Clean))
Judges d bytes (Ok (False place t clause own)) = IsJournalOf d bytes (λ events. Tells d events (Ok (finding.False place t clause own)))
Judges d bytes (Ok (Large place t clause)) = IsJournalOf d bytes (λ events. Tells d events (Err (error.Large place t clause)))
Judges d bytes (Err (NotRun at)) = IsJournalOf d bytes (λ events. Tells d events (Err (error.NotRun at)))
Judges d bytes (Err OtherDesign) = IsOfOther d bytes
Judges d bytes (Err (Journal why)) = CountedAs bytes (Err why)
Judges d bytes (Err Memory) = ⊤

-- ---- the parts

-- why the bytes count no events
abbrev pub NotCounted : List ℕ → JudgeError → Type 0
NotCounted bytes (Journal why) = CountedAs bytes (Err why)
NotCounted bytes OtherDesign = ⊥
NotCounted bytes (NotRun at) = ⊥
NotCounted bytes Memory = ⊤

-- what is told of so many events, by what their audit tells
abbrev pub judged_by : ℕ → Result AuditFinding AuditError → Result Judgement JudgeError
judged_by n (Ok finding.Clean) = Ok (Clean n)
judged_by n (Ok (finding.False place t clause own)) = Ok (False place t clause own)
judged_by n (Err (error.Large place t clause)) = Ok (Large place t clause)
judged_by n (Err (error.NotRun at)) = Err (NotRun at)
judged_by n (Err error.Memory) = Err Memory

-- ---- what it means

-- `Clean`: after no event of the journal a clause is false at values of its ranges. `False`: after the first `place` of them this clause is
-- false, and the values show it. `NotRun`: they are no run of the design's machine.
abbrev pub JudgesMeaning : Design → List ℕ → Result Judgement JudgeError → Type 0
JudgesMeaning d bytes (Ok (Clean n)) = IsJournalOf d bytes (λ events. (n ≡ length events) × NeverFalse d events)
JudgesMeaning d bytes (Ok (False place t clause own)) = IsJournalOf d bytes (λ events. ShowsFalse d events place t clause own)
JudgesMeaning d bytes (Ok (Large place t clause)) = ⊤
JudgesMeaning d bytes (Err (NotRun at)) = IsJournalOf d bytes (λ events. world d events ≡ None)
JudgesMeaning d bytes (Err OtherDesign) = ⊤
JudgesMeaning d bytes (Err (Journal why)) = ⊤
JudgesMeaning d bytes (Err Memory) = ⊤

-- neither is a clause told to be false, nor an event to be none of a run
abbrev pub IsKind : Result Judgement JudgeError → Type 0
IsKind (Ok (Clean n)) = ⊤
IsKind (Ok (False place t clause own)) = ⊥
IsKind (Ok (Large place t clause)) = ⊤
IsKind (Err (NotRun at)) = ⊥
IsKind (Err OtherDesign) = ⊤
IsKind (Err (Journal why)) = ⊤
IsKind (Err Memory) = ⊤

-- so it is where the design is sound, and the journal's events are lawful
abbrev pub IsKindToSound : Design → List ℕ → Result Judgement JudgeError → Type 0
IsKindToSound d bytes told =
    IsSound d → ((base : List ℕ) (events : List Event) → Counts bytes base events → AreLawful d events) → IsKind told
