-- The least of some items, by a test that says of two whether the first is less.
use Rattle.std.specs.Prelude.{Bool, List, Option, Some, None, IsTrue, Contains, All, if◌then◌else◌}

-- one of the items, and none is less
pub record IsLeast {X : Type 0} (is_less : X → X → Bool) (xs : List X) (x : X) : Type 0 where
  pub there : Contains xs x
  pub least : All (λ y. ¬ IsTrue (is_less y x)) xs

-- the lesser one of what was best so far, if there was something, and another
abbrev pub better : {X : Type 0} → (X → X → Bool) → Option X → X → Option X
better is_less None y = Some y
better is_less (Some x) y = if is_less y x then Some y else Some x
