-- What can be named where: the tables with their columns, the types with their locals and points, the variables.
use Rattle.std.specs.Prelude.{ℕ, List, ◌∷◌, ◌++◌, map, Option, option_map}
use Rattle.std.specs.List.{find}
use Rattle.std.specs.Str.{bytes_eq}
use Rattle.acc_parse_syntax.specs.declared.trees.TableTree.{TableTree}
use Rattle.acc_parse_syntax.specs.declared.trees.PointTree.{PointTree}
use Rattle.acc_parse_syntax.specs.declared.trees.TypeTree.{TypeTree}
use Rattle.acc_parse_names.specs.Names.{listed_or_none}

-- the columns of the first table of a name
abbrev pub columns_of : List TableTree → List ℕ → Option (List (List ℕ))
columns_of tables x = option_map (λ (t : TableTree). t.columns) (find (λ (t : TableTree). bytes_eq x t.name) tables)

-- the locals of a type: its parameters, and then what `local` names
abbrev pub locals_of : TypeTree → List (List ℕ)
locals_of t = t.params ++ listed_or_none t.locals

abbrev pub points_in : TypeTree → List PointTree
points_in t = t.first ∷ t.others

abbrev pub point_names : TypeTree → List (List ℕ)
point_names t = map (λ (p : PointTree). p.name) (points_in t)

-- the first type of a name
abbrev pub type_named : List TypeTree → List ℕ → Option TypeTree
type_named types x = find (λ (t : TypeTree). bytes_eq x t.name) types

-- the tables, and the variables: a type's locals, and in a clause those of its `forall` behind them
pub record Scope : Type 0 where
  pub tables : List TableTree
  pub variables : List (List ℕ)
