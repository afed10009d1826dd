use Rattle.std.proofs.Common.{subst}
use Rattle.acc_base.proofs.Items.{at_item}
use Rattle.acc_audit_trial.specs.Trials.{CanTry}
use Rattle.acc_audit_complaints.specs.Complaints.{Judges}
use Rattle.acc_audit_complaints.proofs.Firsts.{first_at}
use Rattle.acc_audit_complaints.proofs.complaints.first_complaint.Goals as goal

pub complaint-requires-clause-can : goal.complaint-requires-clause-can
complaint-requires-clause-can g c =
    at_item CanTry c.args.clauses.now c.loop-i.i c.index-clauses-i.result c.requires.can c.loop-i-test.true c.index-clauses-i.is

pub returns-in-Some : goal.returns-in-Some
returns-in-Some g c =
    first_at c.args.s.now c.args.outside.now c.args.clauses.now c.loop-i.i c.index-clauses-i.result c.index-clauses-i.result c.in-Some.found
    c.loop-i-test.true c.index-clauses-i.is c.loop-i.invariant
    (subst (Judges c.args.s.now c.args.outside.now c.index-clauses-i.result) c.in-Some.is c.in_ok-found.ensures)
