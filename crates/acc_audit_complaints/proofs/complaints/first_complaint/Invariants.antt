use Rattle.std.proofs.Common.{take, None}
use Rattle.std.specs.List.{AllByRecursion}
use Rattle.acc_audit_complaints.specs.Complaints.{Judges}
use Rattle.acc_audit_complaints.proofs.complaints.first_complaint.Given as goal

abbrev pub invariant-loop-i : goal.invariant-loop-i
invariant-loop-i g l = AllByRecursion (λ c. Judges l.s l.outside c None) (take l.i l.clauses)
