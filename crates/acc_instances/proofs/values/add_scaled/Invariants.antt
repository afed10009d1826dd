use Rattle.std.proofs.Common.{◌≡◌, drop, map}
use Rattle.acc_instanced.specs.Coefficients.{with_coefficients}
use Rattle.acc_instanced.specs.Instances.{scaled, are_scaled_long}
use Rattle.acc_instances.proofs.values.add_scaled.Given as goal

abbrev pub invariant-loop-j : goal.invariant-loop-j
invariant-loop-j l =
    record {
      value : with_coefficients l.sums.items (map (scaled l.c) (drop l.j-index l.coeffs))
          ≡ with_coefficients l.fn.sums.items (map (scaled l.c) l.coeffs);
      wide : are_scaled_long l.c (drop l.j-index l.coeffs) l.sums.items ≡ are_scaled_long l.c l.coeffs l.fn.sums.items;
    }
