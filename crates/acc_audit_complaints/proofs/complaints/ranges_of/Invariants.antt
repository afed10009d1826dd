use Rattle.acc_audit_complaints.proofs.Firsts.{AreRangesOf}
use Rattle.acc_audit_complaints.proofs.complaints.ranges_of.Given as goal

abbrev pub invariant-loop-i : goal.invariant-loop-i
invariant-loop-i g l = AreRangesOf l.s l.outside l.clause l.i l.ranges.items
