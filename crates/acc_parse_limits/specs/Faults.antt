-- The faults of a design: which statements pass which limits; the first fault, and the lowest limit on some statements.
use Rattle.std.specs.Prelude.{ℕ, ◌+◌, Bool, ◌&&◌, List, [], ◌∷◌, nat_lt, nat_le, map, filter}
use Rattle.acc_parse_syntax.specs.declared.trees.DesignTree.{DesignTree}
use Rattle.acc_base.specs.declared.limits.Limit.{Limit}
use Rattle.acc_parse_limits.specs.Marks.{Mark, Past, End}
use Rattle.acc_parse_limits.specs.Statements.{design_marks}

-- the limits that are passed, each with its statement's number, where the statement at hand has the number n
abbrev pub placed : ℕ → List Mark → List (ℕ × Limit)
placed n [] = []
placed n (Past limit ∷ ms) = (n, limit) ∷ placed n ms
placed n (End ∷ ms) = placed (n + 1) ms

-- the faults of a design, in the order of the text: statements, by their numbers from 0, and limits that they pass
unfoldable pub limit_faults : DesignTree → List (ℕ × Limit)
limit_faults d = placed 0 (design_marks d)

-- the limits that are passed by the statements from one number up to before another
abbrev pub limits_on : ℕ → ℕ → List (ℕ × Limit) → List Limit
limits_on from to faults = map (λ f. f.1) (filter (λ f. nat_le from f.0 && nat_lt f.0 to) faults)
