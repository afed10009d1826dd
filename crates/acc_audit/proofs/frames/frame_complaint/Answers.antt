use Rattle.std.proofs.Common.{All, subst, sym, ◌∙◌, ◌<◌, ◌^◌, length}
use Rattle.acc_audit_trial.specs.Trials.{CanTry}
use Rattle.acc_audit_complaints.specs.Complaints.{IsShort}
use Rattle.acc_audit.proofs.Formed.{frame_asked}
use Rattle.acc_audit.proofs.frames.frame_complaint.Goals as goal

pub clauses_complaint-requires-clause-can : goal.clauses_complaint-requires-clause-can
clauses_complaint-requires-clause-can g c =
    subst (All CanTry) (sym c.clauses_at.ensures) (frame_asked c.args.d.now c.requires.formed c.args.frame.now c.requires.small).can

pub clauses_complaint-requires-clause-short : goal.clauses_complaint-requires-clause-short
clauses_complaint-requires-clause-short g c =
    subst (λ env. All (IsShort env) c.clauses_at.result.now) (sym (c.deref.ensures.value ∙ c.in_ok-values.ensures))
    (subst (All (IsShort _)) (sym c.clauses_at.ensures)
    (frame_asked c.args.d.now c.requires.formed c.args.frame.now c.requires.small).short)

pub clauses_complaint-requires-clause-few : goal.clauses_complaint-requires-clause-few
clauses_complaint-requires-clause-few g c =
    subst (λ cs. length cs < 2 ^ 32) (sym c.clauses_at.ensures)
    (frame_asked c.args.d.now c.requires.formed c.args.frame.now c.requires.small).few
