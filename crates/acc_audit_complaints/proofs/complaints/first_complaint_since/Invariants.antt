use Rattle.std.proofs.Common.{take, None}
use Rattle.std.specs.List.{AllByRecursion}
use Rattle.acc_audit_complaints.specs.Complaints.{Judges}
use Rattle.acc_audit_complaints.proofs.complaints.first_complaint_since.Given as goal

abbrev pub invariant-loop-at : goal.invariant-loop-at
invariant-loop-at g l = AllByRecursion (λ c. Judges l.s l.outside c None) (take l.at l.clauses)
