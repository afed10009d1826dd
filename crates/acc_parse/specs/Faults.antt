-- On which line a text of the grammar has its first fault of names, or passes a limit first.
use Rattle.std.specs.Prelude.{◌≡◌, ◌⊎◌, ℕ, ◌<◌, ◌≤◌, List, Some, None, Contains, All}
use Rattle.acc_parse_syntax.specs.declared.trees.DesignTree.{DesignTree}
use Rattle.acc_parse_statements.specs.Lines.{IsLineOf}
use Rattle.acc_parse_names.specs.Faults.{first_fault_of}
use Rattle.acc_base.specs.declared.limits.Limit.{Limit}
use Rattle.acc_base.specs.Numbering.{limit_number}
use Rattle.acc_parse.specs.Texts.{IsGrammatical, past_limits}
use Rattle.acc_parse.specs.Syntax.{IsWrongAt}
use Rattle.acc_parse.specs.declared.errors.ParseError.{ParseError}
use Rattle.acc_parse.specs.declared.errors.ParseError.TheVariants as errors

-- the first statement that defines a name a second time, or uses one that isn't defined, is on this line
pub record IsNameFaultAt (text : List ℕ) (line : ℕ) : Type 0 where
  pub of : IsGrammatical text
  pub statement : ℕ
  pub first : first_fault_of of.tree ≡ Some statement
  pub on_line : IsLineOf text statement line

-- a statement on this line passes the limit; no statement on an earlier line passes one, and none on this line a lower one
pub record PassesAt (text : List ℕ) (tree : DesignTree) (line : ℕ) (limit : Limit) : Type 0 where
  pub statement : ℕ
  pub there : Contains (past_limits tree) (statement, limit)
  pub on_line : IsLineOf text statement line
  pub first : (n : ℕ) (k : Limit) (at : ℕ) → Contains (past_limits tree) (n, k) → IsLineOf text n at → (line < at)
      ⊎ ((line ≡ at) × (limit_number limit ≤ limit_number k))

-- the text has no fault of names, and passes a limit first on this line, this one the lowest of those
pub record IsLimitAt (text : List ℕ) (line : ℕ) (limit : Limit) : Type 0 where
  pub of : IsGrammatical text
  pub named : first_fault_of of.tree ≡ None
  pub passed : PassesAt text of.tree line limit

-- the number of the first statement that passes a limit
pub record IsFirstIn (faults : List (ℕ × Limit)) (n : ℕ) : Type 0 where
  pub limit : Limit
  pub there : Contains faults (n, limit)
  pub first : All (λ (f : ℕ × Limit). n ≤ f.0) faults

-- what a refusal says of a text
abbrev pub Refuses : List ℕ → ParseError → Type 0
Refuses text (errors.Syntax line) = IsWrongAt text line
Refuses text (errors.Name line) = IsNameFaultAt text line
Refuses text (errors.Limit line limit) = IsLimitAt text line limit
Refuses text errors.Memory = Unit {0}
