-- The numbers that names stand for. A name that isn't defined has the number 0, and so has one whose number doesn't fit 32 bits; a text
-- with the one has a fault of names, and a text with the other passes a limit.
use Rattle.std.specs.Prelude.{ℕ, Bool, ◌+◌, ◌^◌, if◌then◌else◌, List, [], length, map, Option, Some, None, nat_lt, unwrap_or}
use Rattle.acc_parse_syntax.specs.declared.trees.Variable.{Variable}
use Rattle.acc_parse_syntax.specs.declared.trees.Variable.TheVariants.{Named, Oneself}
use Rattle.acc_parse_syntax.specs.declared.trees.TableTree.{TableTree}
use Rattle.acc_parse_syntax.specs.declared.trees.Place.{Place}
use Rattle.acc_parse_syntax.specs.declared.trees.Cell.{Cell}
use Rattle.acc_parse_names.specs.Places.{place_of}
use Rattle.acc_parse_names.specs.Scopes.{columns_of}

-- a number, and 0 for one that doesn't fit 32 bits
abbrev pub fitted : ℕ → ℕ
fitted n = if nat_lt n (2 ^ 32) then n else 0

-- the place of a name among names, from 0
abbrev pub number_of : List ℕ → List (List ℕ) → ℕ
number_of x names = fitted (unwrap_or (place_of x names) 0)

-- the variables that can be named: within a type its locals, and in a clause those of its `forall`
pub record Variables : Type 0 where
  pub in_type : Bool
  pub locals : List (List ℕ)
  pub own : List (List ℕ)

-- a type's locals come first, then the number of the transaction, then a clause's own variables; outside types these come first
abbrev pub first_own : Variables → ℕ
first_own v = if v.in_type then length v.locals + 1 else 0

-- the number of a name, by its place among the locals, if it is one of these
abbrev pub named : Variables → List ℕ → Option ℕ → ℕ
named v x (Some i) = i
named v x None = first_own v + unwrap_or (place_of x v.own) 0

-- the number of a variable; `self` is the one behind the locals
abbrev pub variable_of : Variables → Variable → ℕ
variable_of v (Named x) = fitted (named v x (place_of x v.locals))
variable_of v Oneself = fitted (length v.locals)

-- the tables, and the variables
pub record Scope : Type 0 where
  pub tables : List TableTree
  pub variables : Variables

abbrev pub table_names : List TableTree → List (List ℕ)
table_names tables = map (λ (t : TableTree). t.name) tables

-- the number of a row's table
abbrev pub table_in : Scope → Place → ℕ
table_in s p = number_of p.table (table_names s.tables)

-- the number of a column of a row's table
abbrev pub column_in : Scope → Cell → ℕ
column_in s c = number_of c.column (unwrap_or (columns_of s.tables c.place.table) [])
