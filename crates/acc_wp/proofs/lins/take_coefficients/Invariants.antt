use Rattle.std.proofs.Common.{◌≡◌, drop, map}
use Rattle.std.specs.List.{list_any}
use Rattle.acc_instanced.specs.Coefficients.{with_coefficients, is_long}
use Rattle.acc_preconditions.specs.Differences.{all_enlarged, negated}
use Rattle.acc_wp.proofs.lins.take_coefficients.Given as goal

abbrev pub invariant-loop-term : goal.invariant-loop-term
invariant-loop-term l =
    record {
      value : with_coefficients l.sums.items (map negated (drop l.term-index l.coeffs)) ≡ with_coefficients l.fn.sums.items
          (map negated l.coeffs);
      wide : list_any is_long (all_enlarged l.sums.items (map negated (drop l.term-index l.coeffs))) ≡ list_any is_long
          (all_enlarged l.fn.sums.items (map negated l.coeffs));
    }
