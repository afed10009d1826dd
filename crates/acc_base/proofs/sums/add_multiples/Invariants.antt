use Rattle.std.proofs.Common.{◌≡◌, drop, map}
use Rattle.acc_base.specs.Sums.{with_terms, multiple, multiples_wide}
use Rattle.acc_base.proofs.sums.add_multiples.Given as goal

abbrev pub invariant-loop-unknown : goal.invariant-loop-unknown
invariant-loop-unknown l =
    record {
      value : with_terms l.sums (map (multiple l.fn.by) (drop l.unknown-index l.terms))
          ≡ with_terms l.fn.sums (map (multiple l.fn.by) l.terms);
      wide : multiples_wide l.fn.by l.sums (drop l.unknown-index l.terms) ≡ multiples_wide l.fn.by l.fn.sums l.terms;
    }
