use Rattle.std.proofs.Common.{◌≡◌, drop, map, pos}
use Rattle.acc_audit_trial.specs.Worths.{term_worth, summed}
use Rattle.acc_audit_trial.proofs.forms.terms_sum.Given as goal

-- the terms that are left, onto the sum so far, give what all give
abbrev pub invariant-loop-term : goal.invariant-loop-term
invariant-loop-term g l =
    summed l.sum (map (term_worth (g.S.Store.rows l.s) l.values) (drop l.term-index l.terms)) ≡ summed (pos 0) (map (term_worth (g.S.Store.rows l.s) l.values) l.terms)
