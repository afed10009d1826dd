use Rattle.std.proofs.Common.{◌≡◌, drop}
use Rattle.std.specs.List.{list_any}
use Rattle.acc_base.specs.Bounded.{is_wide}
use Rattle.acc_base.specs.Sums.{with_terms, all_grown}
use Rattle.acc_base.proofs.sums.add_terms.Given as goal

abbrev pub invariant-loop-unknown : goal.invariant-loop-unknown
invariant-loop-unknown l =
    record {
      value : with_terms l.sums (drop l.unknown-index l.terms) ≡ with_terms l.fn.sums l.terms;
      wide : list_any is_wide (all_grown l.sums (drop l.unknown-index l.terms)) ≡ list_any is_wide (all_grown l.fn.sums l.terms);
    }
