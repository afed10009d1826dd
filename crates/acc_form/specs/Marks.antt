-- A design as the marks on its statements in print: each rule that is broken, and each statement's end, line by line.
use Rattle.std.specs.Prelude.{ℕ, ◌+◌, Bool, List, [], ◌∷◌, ◌++◌, if◌then◌else◌}
use Rattle.acc_base.specs.declared.rules.FormRule.{FormRule}

pub data Mark : Type 0 where
  -- the statement at hand breaks the rule
  Broken : (rule : FormRule) → Mark
  -- the statement at hand ends
  End : Mark

-- a statement's end
abbrev pub ending : List Mark
ending = End ∷ []

-- the rule is asked of the statement at hand
abbrev pub asked : FormRule → Bool → List Mark
asked rule is_kept = if is_kept then [] else (Broken rule ∷ [])

-- the marks on items, one after another, the first of them with the number i
abbrev pub numbered_from : {T : Type 0} → ℕ → (ℕ → T → List Mark) → List T → List Mark
numbered_from i marks [] = []
numbered_from i marks (x ∷ xs) = marks i x ++ numbered_from (i + 1) marks xs

-- the marks on items, which may depend on an item's number, from 0
abbrev pub numbered : {T : Type 0} → (ℕ → T → List Mark) → List T → List Mark
numbered marks xs = numbered_from 0 marks xs
