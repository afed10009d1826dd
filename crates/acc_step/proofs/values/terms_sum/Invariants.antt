use Rattle.std.proofs.Common.{◌≡◌, ◌≤◌, ◌^◌, drop, map, ◌+ℤ◌}
use Rattle.std.specs.Prelude.{unsigned_abs}
use Rattle.acc_base.specs.Numbers.{total}
use Rattle.acc_base.specs.Linear.{term_value}
use Rattle.acc_step.specs.Variables.{values_of}
use Rattle.acc_step.specs.WideSums.{amount}
use Rattle.acc_step.proofs.values.terms_sum.Given as goal

-- the sum so far and the terms that are left make the whole sum
abbrev pub invariant-loop-term : goal.invariant-loop-term
invariant-loop-term l =
    record {
      whole : amount l.sum +ℤ total (map (term_value (values_of l.variables)) (drop l.term-index l.terms)) ≡ total
          (map (term_value (values_of l.variables)) l.terms);
      carries : unsigned_abs l.sum.carries ≤ l.term-index;
      rest : unsigned_abs l.sum.rest ≤ 2 ^ 120;
    }
