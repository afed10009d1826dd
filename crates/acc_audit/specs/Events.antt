-- What is told after one event more.
use Rattle.std.specs.Prelude.{◌≡◌, ⊤, ℕ, ◌+◌, Option, Some, None, Result, Ok, Err}
use Rattle.acc_base.specs.declared.designs.Design.{Design}
use Rattle.acc_base.specs.declared.machines.Event.{Event}
use Rattle.acc_base.specs.Machine.{World, unfinished, after_event}
use Rattle.acc_audit_complaints.specs.declared.searches.Complaint.TheVariants as complaint
use Rattle.acc_audit.specs.declared.steps.AuditFinding.{AuditFinding}
use Rattle.acc_audit.specs.declared.steps.AuditFinding.TheVariants as finding
use Rattle.acc_audit.specs.declared.steps.AuditError.{AuditError}
use Rattle.acc_audit.specs.declared.steps.AuditError.TheVariants as error
use Rattle.acc_audit.specs.Audits.{Found, IsClear, Complains}

-- what a complaint tells after so many events
abbrev pub told : ℕ → Option Found → Result (Option AuditFinding) AuditError
told place None = Ok None
told place (Some (t, n, complaint.False own)) = Ok (Some (finding.False place t n own))
told place (Some (t, n, complaint.Large)) = Err (error.Large place t n)

-- the event leads to this state, and there this is told
pub record IsToldAfter (d : Design) (w : World) (e : Event) (after : World) (place : ℕ) (found : Found) : Type 0 where
  pub leads : after_event d w e ≡ Some after
  pub complains : Complains d after.rows (unfinished after) found

-- the event leads to this state, and nothing is wrong there
pub record IsClearAfter (d : Design) (w : World) (e : Event) (after : World) : Type 0 where
  pub leads : after_event d w e ≡ Some after
  pub clear : IsClear d after.rows (unfinished after)

-- what is told of an event behind so many
abbrev pub TellsEvent : Design → World → Event → ℕ → World → Result (Option AuditFinding) AuditError → Type 0
TellsEvent d w e place after (Ok None) = IsClearAfter d w e after
TellsEvent d w e place after (Ok (Some finding.Clean)) = ⊥
TellsEvent d w e place after (Ok (Some (finding.False p t n own))) =
    (p ≡ place + 1) × IsToldAfter d w e after place (t, n, complaint.False own)
TellsEvent d w e place after (Err (error.NotRun at)) = (at ≡ place) × (after_event d w e ≡ None)
TellsEvent d w e place after (Err (error.Large p t n)) = (p ≡ place + 1) × IsToldAfter d w e after place (t, n, complaint.Large)
TellsEvent d w e place after (Err error.Memory) = ⊤
