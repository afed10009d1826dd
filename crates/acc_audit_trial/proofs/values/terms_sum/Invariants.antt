use Rattle.std.proofs.Common.{◌≡◌, drop, map, pos}
use Rattle.acc_audit_trial.specs.Worths.{near_term, summed}
use Rattle.acc_audit_trial.proofs.values.terms_sum.Given as goal

-- the terms that are left, onto the sum so far, give what all give
abbrev pub invariant-loop-term : goal.invariant-loop-term
invariant-loop-term l =
    summed l.sum (map (near_term l.values) (drop l.term-index l.terms)) ≡ summed (pos 0) (map (near_term l.values) l.terms)
