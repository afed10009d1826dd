use Rattle.std.proofs.Common.{take}
use Rattle.std.specs.List.{list_any}
use Rattle.acc_audit_ranges.specs.Ranges.{Adds, term_gives}
use Rattle.acc_audit_ranges.proofs.ranges.add_terms.Given as goal

abbrev pub invariant-loop-term : goal.invariant-loop-term
invariant-loop-term g l =
    Adds (λ q. list_any (term_gives l.s l.variable q) (take l.term-index l.terms)) l.fn.values l.values
