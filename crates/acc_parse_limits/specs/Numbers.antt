-- The orders of limits and of faults.
use Rattle.std.specs.Prelude.{ℕ, Bool, ◌&&◌, ◌||◌, ◌==◌, nat_lt}
use Rattle.acc_base.specs.declared.limits.Limit.{Limit}
use Rattle.acc_base.specs.Numbering.{limit_number}

-- a limit comes before another by its number
unfoldable pub is_lower : Limit → Limit → Bool
is_lower k l = nat_lt (limit_number k) (limit_number l)

-- a fault is a statement, by its number from 0, and a limit that it passes; one comes before another by its statement,
-- and at one statement by its limit
unfoldable pub is_before : (ℕ × Limit) → (ℕ × Limit) → Bool
is_before f g = nat_lt f.0 g.0 || (f.0 == g.0 && is_lower f.1 g.1)
