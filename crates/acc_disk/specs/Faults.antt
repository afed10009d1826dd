-- What a disk counts.
-- The contract of every disk speaks of this.
use Rattle.std.specs.Prelude.{◌≡◌, ◌≤◌, ℕ, Result, MatchResult}
use Rattle.acc_io.specs.Causes.{Rose}

-- the count of faults stays where a call answers, and rises where it fails
abbrev pub CountsFault : {T E : Type 0} → Result T E → ℕ → ℕ → Type 0
CountsFault result before now = MatchResult result (λ _. now ≡ before) (λ _. (before ≤ now) × Rose before now)
