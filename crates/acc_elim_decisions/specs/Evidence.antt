-- What multipliers show that a decision gives.
use Rattle.std.specs.Prelude.{◌≢◌, IsTrue, IsFalse, List, All, pos}
use Rattle.acc_base.specs.declared.forms.Rel.{Rel}
use Rattle.acc_base.specs.Bounded.{IsBounded}
use Rattle.acc_farkas.specs.Sums.{Pair, refutes_all, is_refuting_wide}

-- multipliers are accepted as ones that refute, no number of their sum is too large, and none of them is 0, or beyond 2^120 on either side
-- of 0
pub record Refute (rels : List Rel) (ms : List Pair) : Type 0 where
  pub accepted : IsTrue (refutes_all rels ms)
  pub narrow : IsFalse (is_refuting_wide rels ms)
  pub others : All (λ m. m.1 ≢ pos 0) ms
  pub near : All (λ m. IsBounded m.1) ms
