-- What is told of a journal's events, and what that means.
use Rattle.std.proofs.Common.{ℕ, List, length, refl}
use Rattle.std.specs.Prelude.{Result, Ok, Err}
use Rattle.acc_base.specs.declared.designs.Design.{Design}
use Rattle.acc_base.specs.declared.machines.Event.{Event}
use Rattle.acc_formed.specs.WellFormed.{IsWellFormed}
use Rattle.acc_print.specs.Designs.{printed}
use Rattle.acc_wal.specs.Journals.{Counts}
use Rattle.acc_audit.specs.declared.steps.AuditFinding.{AuditFinding}
use Rattle.acc_audit.specs.declared.steps.AuditFinding.TheVariants as finding
use Rattle.acc_audit.specs.declared.steps.AuditError.{AuditError}
use Rattle.acc_audit.specs.declared.steps.AuditError.TheVariants as error
use Rattle.acc_audit.specs.Audits.{Tells}
use Rattle.acc_audit.proofs.Sounds.{kind_to_sound}
use Rattle.acc_audit.proofs.Telling.{tells_meaning}
use Rattle.acc_audit_journal.specs.declared.journals.Judgement.{Judgement}
use Rattle.acc_audit_journal.specs.declared.journals.Judgement.TheVariants.{Clean, False, Large}
use Rattle.acc_audit_journal.specs.declared.journals.JudgeError.{JudgeError}
use Rattle.acc_audit_journal.specs.declared.journals.JudgeError.TheVariants.{Journal, OtherDesign, NotRun, Memory}
use Rattle.acc_audit_journal.specs.Judging.{judged_by, Judges, JudgesMeaning, IsKindToSound}

pub judges : (d : Design) (bytes : List ℕ) (events : List Event) (told : Result AuditFinding AuditError) → Counts bytes (printed d) events
    → Tells d events told → Judges d bytes (judged_by (length events) told)
judges d bytes events (Ok finding.Clean) counts h = record { events = events; counts = counts; so = (refl, h) }
judges d bytes events (Ok (finding.False place t clause own)) counts h = record { events = events; counts = counts; so = h }
judges d bytes events (Err (error.Large place t clause)) counts h = record { events = events; counts = counts; so = h }
judges d bytes events (Err (error.NotRun at)) counts h = record { events = events; counts = counts; so = h }
judges d bytes events (Err error.Memory) counts h = tt

pub judging_means : (d : Design) (bytes : List ℕ) (told : Result Judgement JudgeError) → IsWellFormed d → Judges d bytes told
    → JudgesMeaning d bytes told
judging_means d bytes (Ok (Clean n)) formed h =
    record { events = h.events; counts = h.counts; so = (h.so.0, tells_meaning d h.events (Ok finding.Clean) h.so.1) }
judging_means d bytes (Ok (False place t clause own)) formed h =
    record { events = h.events; counts = h.counts; so = tells_meaning d h.events (Ok (finding.False place t clause own)) h.so }
judging_means d bytes (Ok (Large place t clause)) formed h = tt
judging_means d bytes (Err (NotRun at)) formed h =
    record { events = h.events; counts = h.counts; so = tells_meaning d h.events (Err (error.NotRun at)) h.so }
judging_means d bytes (Err OtherDesign) formed h = tt
judging_means d bytes (Err (Journal why)) formed h = tt
judging_means d bytes (Err Memory) formed h = tt

pub kind_judgement : (d : Design) (bytes : List ℕ) (told : Result Judgement JudgeError) → IsWellFormed d → Judges d bytes told
    → IsKindToSound d bytes told
kind_judgement d bytes (Ok (Clean n)) formed h sound lawful = tt
kind_judgement d bytes (Ok (False place t clause own)) formed h sound lawful =
    kind_to_sound d formed h.events (Ok (finding.False place t clause own))
    (tells_meaning d h.events (Ok (finding.False place t clause own)) h.so) sound (lawful (printed d) h.events h.counts)
kind_judgement d bytes (Ok (Large place t clause)) formed h sound lawful = tt
kind_judgement d bytes (Err (NotRun at)) formed h sound lawful =
    kind_to_sound d formed h.events (Err (error.NotRun at)) (tells_meaning d h.events (Err (error.NotRun at)) h.so) sound
    (lawful (printed d) h.events h.counts)
kind_judgement d bytes (Err OtherDesign) formed h sound lawful = tt
kind_judgement d bytes (Err (Journal why)) formed h sound lawful = tt
kind_judgement d bytes (Err Memory) formed h sound lawful = tt
