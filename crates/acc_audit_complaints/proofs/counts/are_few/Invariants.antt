use Rattle.std.proofs.Common.{◌≡◌, ◌≤◌, ◌^◌, ◌+◌, ◌*◌, length, drop}
use Rattle.acc_audit_complaints.specs.Tuples.{tuples, capped}
use Rattle.acc_audit_complaints.proofs.counts.are_few.Given as goal

abbrev pub invariant-loop-range : goal.invariant-loop-range
invariant-loop-range l = record {
  few : l.count ≤ 2 ^ 20 + 1;
  whole : capped (l.count * length (tuples (drop l.range-index l.ranges))) ≡ capped (length (tuples l.ranges));
}
