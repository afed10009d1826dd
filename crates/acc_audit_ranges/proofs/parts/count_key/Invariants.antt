use Rattle.acc_audit_ranges.proofs.Tallying.{Counted}
use Rattle.acc_audit_ranges.proofs.parts.count_key.Given as goal

-- the components so far
abbrev pub invariant-loop-place : goal.invariant-loop-place
invariant-loop-place l = Counted l.way l.table l.key l.place l.fn.parts l.parts
