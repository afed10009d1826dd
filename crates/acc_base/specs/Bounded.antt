-- Numbers within 2^120 of 0: the range of the numbers that forms are computed with.
use Rattle.std.specs.Prelude.{◌≤◌, Bool, nat_lt, ℤ, unsigned_abs}
use Rattle.acc_base.specs.declared.bounds.TheConstants.{LARGEST_SUM}

-- within 2^120 of 0
abbrev pub IsBounded : ℤ → Type 0
IsBounded x = unsigned_abs x ≤ LARGEST_SUM

-- whether a number lies beyond that
abbrev pub is_wide : ℤ → Bool
is_wide x = nat_lt LARGEST_SUM (unsigned_abs x)
