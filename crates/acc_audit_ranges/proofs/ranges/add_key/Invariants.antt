use Rattle.std.proofs.Common.{take}
use Rattle.acc_audit_ranges.specs.Ranges.{Adds, key_gives}
use Rattle.acc_audit_ranges.proofs.ranges.add_key.Given as goal

abbrev pub invariant-loop-place : goal.invariant-loop-place
invariant-loop-place g l = Adds (λ q. key_gives l.s l.table l.variable q 0 (take l.place l.key)) l.fn.values l.values
