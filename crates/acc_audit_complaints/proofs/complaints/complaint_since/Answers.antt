use Rattle.std.proofs.Common.{sym, ◌∙◌}
use Rattle.acc_audit_complaints.proofs.Standing.{clear_since}
use Rattle.acc_audit_complaints.proofs.complaints.complaint_since.Goals as goal

-- no table that it reads was written
pub returns-then-not-clause_reads : goal.returns-then-not-clause_reads
returns-then-not-clause_reads g c =
    clear_since c.args.writes.now c.args.s.now c.args.outside.now c.args.clause.now c.requires.since
    (sym c.clause_reads.ensures ∙ c.if-not-clause_reads.true)
