-- The orders of limits and of faults.
use Rattle.std.proofs.Common.{arith}
use Rattle.std.proofs.lemmas.Bool.Decides.{nat_tests}
use Rattle.acc_base.proofs.Leasts.{IsOrder}
use Rattle.acc_parse_limits.specs.Numbers.{is_lower, is_before}

-- a limit's number decides
pub lower_is_order : IsOrder is_lower
unfolding is_lower
lower_is_order = record {
  irreflexive = λ k. grind (arith, nat_tests);
  transitive = λ k l m e f. grind (arith, nat_tests);
  rising = λ k l m e f. grind (arith, nat_tests);
}

pub before_is_order : IsOrder is_before
unfolding is_before is_lower
before_is_order = record {
  irreflexive = λ f. grind (arith, nat_tests);
  transitive = λ f g h a b. grind (arith, nat_tests);
  rising = λ f g h a b. grind (arith, nat_tests);
}
