-- Crashes at the moments of a run of calls, told apart by the disk's clock.
-- The contract of every disk speaks of this.
use Rattle.std.specs.Prelude.{◌⊎◌, ℕ, ◌≤◌, List}

-- Time goes on by a call: a crash since an earlier time may have left what it might have left before the call, or
-- what it may leave after it.
pub record Elapses (before now : ℕ) (past since : ℕ → List ℕ → Type 0) (may_leave : List ℕ → Type 0) : Type 0 where
  pub later : before ≤ now
  pub nothing_else : (time : ℕ) (image : List ℕ) → time ≤ before → since time image → past time image ⊎ may_leave image
  pub keeps : (time : ℕ) (image : List ℕ) → time ≤ before → past time image → since time image

-- A crash at any moment since `old` leaves bytes of this kind. A run that began earlier adds nothing else by it.
pub record AtAnyMoment {D : Type 0} (clock : D → ℕ) (left_since : D → ℕ → List ℕ → Type 0) (old new : D)
    (P : List ℕ → Type 0) : Type 0 where
  pub later : clock old ≤ clock new
  pub each : (image : List ℕ) → left_since new (clock old) image → P image
  pub before : (time : ℕ) (image : List ℕ) → time ≤ clock old → left_since new time image → left_since old time image ⊎ P image
