-- Which statement of a tree is printed behind how many others.
use Rattle.std.specs.Prelude.{◌≡◌, ℕ, Bool, true, List, Some, take, count_by, slice_get}
use Rattle.acc_base.specs.declared.designs.Design.{Design}
use Rattle.acc_parse_syntax.specs.declared.trees.DesignTree.{DesignTree}
use Rattle.acc_diagnose_sources.specs.Shown.{shown}

-- how many are true
abbrev pub trues : List Bool → ℕ
trues bs = count_by (λ b. b) bs

-- the one with this number is true, and so are so many before it
pub record IsTrueBehind (bs : List Bool) (before number : ℕ) : Type 0 where
  pub there : slice_get bs number ≡ Some true
  pub behind : trues (take number bs) ≡ before

-- the tree's statement with this number, from 0, is printed, and so many of those before it are
abbrev pub IsPrintedBehind : DesignTree → Design → ℕ → ℕ → Type 0
IsPrintedBehind t d before number = IsTrueBehind (shown t d) before number
