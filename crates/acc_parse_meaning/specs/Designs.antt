-- The design that a tree stands for.
use Rattle.std.specs.Prelude.{ℕ, true, false, List, [], ◌∷◌, map, Option, Some, None}
use Rattle.acc_base.specs.declared.tables.Table.{Table}
use Rattle.acc_base.specs.declared.designs.At.{At}
use Rattle.acc_base.specs.declared.designs.Side.{Side}
use Rattle.acc_base.specs.declared.designs.Side.TheVariants as side
use Rattle.acc_base.specs.declared.designs.Entry.{Entry}
use Rattle.acc_base.specs.declared.designs.Hint.{Hint}
use Rattle.acc_base.specs.declared.designs.Design.{Design}
use Rattle.acc_parse_syntax.specs.declared.trees.TableTree.{TableTree}
use Rattle.acc_parse_syntax.specs.declared.trees.TypeTree.{TypeTree}
use Rattle.acc_parse_syntax.specs.declared.trees.SideTree.{SideTree}
use Rattle.acc_parse_syntax.specs.declared.trees.SideTree.TheVariants as side_tree
use Rattle.acc_parse_syntax.specs.declared.trees.PointName.{PointName}
use Rattle.acc_parse_syntax.specs.declared.trees.PairTree.{PairTree}
use Rattle.acc_parse_syntax.specs.declared.trees.Pairs.{Pairs}
use Rattle.acc_parse_syntax.specs.declared.trees.EntryTree.{EntryTree}
use Rattle.acc_parse_syntax.specs.declared.trees.HintTree.{HintTree}
use Rattle.acc_parse_syntax.specs.declared.trees.DesignTree.{DesignTree}
use Rattle.acc_parse_names.specs.Scopes.{locals_of, point_names, type_named}
use Rattle.acc_parse_clauses.specs.Scopes.{Variables, Scope, fitted, number_of, variable_of}
use Rattle.acc_parse_clauses.specs.Values.{lin_of}
use Rattle.acc_parse_clauses.specs.Forms.{clause_of}
use Rattle.acc_parse_meaning.specs.Types.{type_of}

abbrev pub table_of : TableTree → Table
table_of t = record { name = t.name; width = fitted t.width; cols = t.columns; own = t.private }

-- what stands outside types has no variables but a clause's own
abbrev pub outside : List TableTree → Scope
outside tables = record { tables = tables; variables = record { in_type = false; locals = []; own = [] } }

-- ---- entries and hints

abbrev pub type_names : List TypeTree → List (List ℕ)
type_names types = map (λ (t : TypeTree). t.name) types

abbrev pub points_or_none : Option TypeTree → List (List ℕ)
points_or_none None = []
points_or_none (Some t) = point_names t

-- a point, by the numbers of its type and of its own
abbrev pub at_of : List TypeTree → PointName → At
at_of types p = record {
  ty = number_of p.type_name (type_names types);
  point = number_of p.point (points_or_none (type_named types p.type_name));
}

abbrev pub side_of : SideTree → Side
side_of side_tree.Next = side.Next
side_of side_tree.Undo = side.Undo

abbrev pub variables_or_none : Option TypeTree → Variables
variables_or_none None = record { in_type = true; locals = []; own = [] }
variables_or_none (Some t) = record { in_type = true; locals = locals_of t; own = [] }

-- the variables of the type of a point
abbrev pub variables_at : List TypeTree → PointName → Variables
variables_at types p = variables_or_none (type_named types p.type_name)

-- the held variable, and that of the step
abbrev pub pair_of : Variables → Variables → PairTree → ℕ × ℕ
pair_of held step p = (variable_of held p.held, variable_of step p.step)

abbrev pub all_pairs : Option Pairs → List PairTree
all_pairs None = []
all_pairs (Some ps) = ps.first ∷ ps.others

abbrev pub entry_of : List TypeTree → EntryTree → Entry
entry_of types e = record {
  held = at_of types e.held;
  step = at_of types e.by;
  side = side_of e.side;
  pairs = map (pair_of (variables_at types e.held) (variables_at types e.by)) (all_pairs e.pairs);
}

abbrev pub hint_of : List TypeTree → HintTree → Hint
hint_of types h = record { at = at_of types h.of; side = side_of h.side; lin = lin_of (variables_at types h.of) h.value }

-- ---- the whole

abbrev pub design_of : DesignTree → Design
design_of d = record {
  tables = map table_of d.tables;
  always = map (clause_of (outside d.tables)) d.always;
  types = map (type_of d.tables) d.types;
  entries = map (entry_of d.types) d.entries;
  hints = map (hint_of d.types) d.hints;
}
