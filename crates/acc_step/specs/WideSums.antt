-- Sums that may leave 128 bits.
use Rattle.std.specs.Prelude.{◌≡◌, ◌^◌, ◌⊎◌, ℤ, pos, negsuc, ◌+ℤ◌, ◌*ℤ◌, ◌<ℤ◌}
use Rattle.acc_base.specs.declared.bounds.TheConstants.{LARGEST_SUM}
use Rattle.acc_step.specs.declared.wide_sums.WideSum.{WideSum}

-- the number that a sum stands for
abbrev pub amount : WideSum → ℤ
amount s = pos LARGEST_SUM *ℤ s.carries +ℤ s.rest

-- both numbers lie above 2^46, or both below -2^46
abbrev pub AreFarAlike : ℤ → ℤ → Type 0
AreFarAlike x v = (pos (2 ^ 46) <ℤ x) × (pos (2 ^ 46) <ℤ v) ⊎ (x <ℤ negsuc (2 ^ 46)) × (v <ℤ negsuc (2 ^ 46))

-- they are the same, or both far from 0 on the same side
abbrev pub AreAlike : ℤ → ℤ → Type 0
AreAlike x v = (x ≡ v) ⊎ AreFarAlike x v
