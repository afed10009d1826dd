use Rattle.std.proofs.Common.{subst}
use Rattle.acc_base.proofs.Items.{at_item}
use Rattle.acc_audit_trial.specs.Trials.{CanTry}
use Rattle.acc_audit_complaints.specs.Complaints.{Judges}
use Rattle.acc_audit_complaints.specs.Since.{WasClear}
use Rattle.acc_audit_complaints.proofs.Firsts.{first_at}
use Rattle.acc_audit_complaints.proofs.complaints.first_complaint_since.Goals as goal

pub complaint_since-requires-clause-can : goal.complaint_since-requires-clause-can
complaint_since-requires-clause-can g c =
    at_item CanTry c.args.clauses.now c.loop-at.at c.index-clauses-at.result c.requires.can c.loop-at-test.true c.index-clauses-at.is

pub complaint_since-requires-clause-since : goal.complaint_since-requires-clause-since
complaint_since-requires-clause-since g c =
    at_item (WasClear c.args.writes.now c.args.s.now c.args.outside.now) c.args.clauses.now c.loop-at.at c.index-clauses-at.result
    c.requires.since c.loop-at-test.true c.index-clauses-at.is

pub returns-in-Some : goal.returns-in-Some
returns-in-Some g c =
    first_at c.args.s.now c.args.outside.now c.args.clauses.now c.loop-at.at c.index-clauses-at.result c.index-clauses-at.result c.in-Some.found
    c.loop-at-test.true c.index-clauses-at.is c.loop-at.invariant
    (subst (Judges c.args.s.now c.args.outside.now c.index-clauses-at.result) c.in-Some.is c.in_ok-found.ensures)
