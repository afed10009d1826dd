use Rattle.std.proofs.Common.{All, subst, sym}
use Rattle.acc_audit_trial.specs.Trials.{CanTry}
use Rattle.acc_audit.proofs.Formed.{always_asked}
use Rattle.acc_audit.proofs.frames.always_complaint.Goals as goal

pub clauses_complaint-requires-clause-can : goal.clauses_complaint-requires-clause-can
clauses_complaint-requires-clause-can g c =
    subst (All CanTry) (sym c.as_slice.ensures) (always_asked c.args.d.now c.requires.formed).can
