-- What workers leave of an engine whose first places have begun.
use Rattle.std.specs.Prelude.{◌≡◌, ◌≤◌, ◌+◌, ◌-◌, ◌++◌, ℕ, nat_lt, List, length, map, replicate, Some, None}
use Rattle.std.specs.List.{range_with_len}
use Rattle.acc_base.specs.declared.machines.Call.{Call}
use Rattle.acc_base.specs.Machine.{World}
use Rattle.acc_base.specs.Plays.{Play}
use Rattle.acc_engine.specs.Keeping.{Journalled, is_begun}

-- so many of the first places have begun, in their order, as the transactions behind those that were there before
abbrev pub worked : ℕ → ℕ → World → List Call → Play
worked before count w calls = record {
  world = w;
  numbers = map (λ (n : ℕ). Some n) (range_with_len (before + 1) count) ++ replicate (length calls - count) None;
  places = replicate before 0 ++ range_with_len 1 count;
}

-- just the first places of an engine have begun
pub record HasBegunFirst {D : Type 0} (e : Journalled D) : Type 0 where
  pub count : ℕ
  pub within : count ≤ length e.calls
  pub marked : (at : ℕ) → is_begun e.begun at ≡ nat_lt at count

-- this is the play of an engine just whose first places have begun, behind so many transactions
pub record IsWorked {D : Type 0} (before : ℕ) (e : Journalled D) (p : Play) : Type 0 where
  pub begun : HasBegunFirst e
  pub is : p ≡ worked before begun.count e.state e.calls
