-- A design as the marks on its statements: each limit that is passed, and each statement's end, in the order of the text.
use Rattle.std.specs.Prelude.{ℕ, ◌+◌, Bool, ◌==◌, List, [], ◌∷◌, ◌++◌, if◌then◌else◌}
use Rattle.acc_base.specs.declared.limits.Limit.{Limit}

pub data Mark : Type 0 where
  -- the statement at hand passes the limit
  Past : (limit : Limit) → Mark
  -- the statement at hand ends
  End : Mark

-- a statement's end
abbrev pub ending : List Mark
ending = End ∷ []

-- the limit, where it is passed
abbrev pub past : Limit → Bool → List Mark
past limit is_passed = if is_passed then Past limit ∷ [] else []

-- the marks on items, one after another, the first of them with the number i: the one with the number `most` passes the limit
abbrev pub limited_from : {T : Type 0} → ℕ → Limit → ℕ → (T → List Mark) → List T → List Mark
limited_from i limit most marks [] = []
limited_from i limit most marks (x ∷ xs) =
    past limit (i == most) ++ (marks x ++ limited_from (i + 1) limit most marks xs)

-- the marks on items of which there may be `most`: the first one behind those passes the limit
abbrev pub limited : {T : Type 0} → Limit → ℕ → (T → List Mark) → List T → List Mark
limited limit most marks xs = limited_from 0 limit most marks xs
