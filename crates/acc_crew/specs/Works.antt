-- What workers leave of an engine.
use Rattle.std.specs.Prelude.{◌≡◌, ◌≤◌, ℕ, nat_lt, Bool, false, List, [], length, take, Option}
use Rattle.std.specs.List.{filter_map}
use Rattle.acc_base.specs.declared.machines.Event.{Event}
use Rattle.acc_base.specs.declared.machines.Call.{Call}
use Rattle.acc_engine.specs.Keeping.{Journalled, is_begun, call_of}
use Rattle.acc_engine.specs.Surviving.{Survives}

-- an engine that workers may begin with: it has begun no place, and hasn't failed
pub record IsUnworked {D : Type 0} (e : Journalled D) : Type 0 where
  pub begun : e.begun ≡ []
  pub unfailed : e.failed ≡ false

-- of the script's places so many of the first have begun, each once and in their order, by these events, and just they have marks
pub record BeginsFirst (calls : List Call) (marks : List Bool) (more : List Event) : Type 0 where
  pub count : ℕ
  pub within : count ≤ length calls
  pub begun : filter_map call_of more ≡ take count calls
  pub marked : (p : ℕ) → is_begun marks p ≡ nat_lt p count

-- The history of an engine that had begun no place goes on: whichever turns its workers took and in whichever order, places begin in the
-- script's order; and a crash at any moment leaves a front of it.
pub record Works {D : Type 0} (clock : D → ℕ) (left_since : D → ℕ → List ℕ → Type 0) (told : D → Option (List ℕ))
    (may_leave : D → List ℕ → Type 0) (count : D → ℕ) (old new : Journalled D) : Type 0 where
  pub survives : Survives clock left_since told may_leave count old new
  pub begins : BeginsFirst new.calls new.begun survives.goes_on.more
