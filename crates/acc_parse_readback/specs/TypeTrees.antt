-- The tree that the printed text of a design spells: steps, types, entries, hints and the whole.
-- Clause `lexed` of `print` speaks of this.
use Rattle.std.specs.Prelude.{ℕ, if◌then◌else◌, List, [], ◌∷◌, map, take, drop, Option, Some, None, slice_get, unsigned_abs}
use Rattle.acc_base.specs.Lines.{type_name, point_name}
use Rattle.acc_base.specs.Effects.{point_of}
use Rattle.acc_base.specs.declared.forms.Lin.{Lin}
use Rattle.acc_base.specs.declared.tables.Table.{Table}
use Rattle.acc_base.specs.declared.steps.Read.{Read}
use Rattle.acc_base.specs.declared.steps.Read.TheVariants as read
use Rattle.acc_base.specs.declared.steps.Action.{Action}
use Rattle.acc_base.specs.declared.steps.Action.TheVariants as action
use Rattle.acc_base.specs.declared.steps.Target.{Target}
use Rattle.acc_base.specs.declared.steps.Target.TheVariants as target
use Rattle.acc_base.specs.declared.steps.Path.{Path}
use Rattle.acc_base.specs.declared.steps.Step.{Step}
use Rattle.acc_base.specs.declared.designs.Point.{Point}
use Rattle.acc_base.specs.declared.designs.TxType.{TxType}
use Rattle.acc_base.specs.declared.designs.At.{At}
use Rattle.acc_base.specs.declared.designs.Side.{Side}
use Rattle.acc_base.specs.declared.designs.Side.TheVariants as side
use Rattle.acc_base.specs.declared.designs.Entry.{Entry}
use Rattle.acc_base.specs.declared.designs.Hint.{Hint}
use Rattle.acc_base.specs.declared.designs.Design.{Design}
use Rattle.acc_parse_syntax.specs.declared.trees.Sum.{Sum}
use Rattle.acc_parse_syntax.specs.declared.trees.Sums.{Sums}
use Rattle.acc_parse_syntax.specs.declared.trees.ReadTree.{ReadTree}
use Rattle.acc_parse_syntax.specs.declared.trees.ReadTree.TheVariants as read_tree
use Rattle.acc_parse_syntax.specs.declared.trees.ActionTree.{ActionTree}
use Rattle.acc_parse_syntax.specs.declared.trees.ActionTree.TheVariants as action_tree
use Rattle.acc_parse_syntax.specs.declared.trees.TargetTree.{TargetTree}
use Rattle.acc_parse_syntax.specs.declared.trees.TargetTree.TheVariants as target_tree
use Rattle.acc_parse_syntax.specs.declared.trees.PathTree.{PathTree}
use Rattle.acc_parse_syntax.specs.declared.trees.StepTree.{StepTree}
use Rattle.acc_parse_syntax.specs.declared.trees.PointTree.{PointTree}
use Rattle.acc_parse_syntax.specs.declared.trees.TypeTree.{TypeTree}
use Rattle.acc_parse_syntax.specs.declared.trees.TableTree.{TableTree}
use Rattle.acc_parse_syntax.specs.declared.trees.SideTree.{SideTree}
use Rattle.acc_parse_syntax.specs.declared.trees.SideTree.TheVariants as side_tree
use Rattle.acc_parse_syntax.specs.declared.trees.PointName.{PointName}
use Rattle.acc_parse_syntax.specs.declared.trees.PairTree.{PairTree}
use Rattle.acc_parse_syntax.specs.declared.trees.Pairs.{Pairs}
use Rattle.acc_parse_syntax.specs.declared.trees.EntryTree.{EntryTree}
use Rattle.acc_parse_syntax.specs.declared.trees.HintTree.{HintTree}
use Rattle.acc_parse_syntax.specs.declared.trees.DesignTree.{DesignTree}
use Rattle.acc_print.specs.Names.{Scope, name_at, within, outside}
use Rattle.acc_print.specs.Types.{is_zero}
use Rattle.acc_print.specs.Designs.{scope_at}
use Rattle.acc_parse_readback.specs.Trees.{variable_tree, lin_tree, sums_tree, place_tree, cell_tree, guard_tree, names_tree, clause_tree}

-- ---- steps

abbrev pub read_statement_tree : Scope → Read → ReadTree
read_statement_tree s (read.Let x v) = read_tree.Let (variable_tree s.names x) (lin_tree s.names v)
read_statement_tree s (read.Col x table key column) = read_tree.Get (variable_tree s.names x) (cell_tree s table key column)
read_statement_tree s (read.Has x table key) = read_tree.Has (variable_tree s.names x) (place_tree s table key)
read_statement_tree s (read.Count x table key) = read_tree.Count (variable_tree s.names x) (place_tree s table key)
read_statement_tree s (read.Sum x table key column) = read_tree.Sum (variable_tree s.names x) (cell_tree s table key column)
read_statement_tree s (read.Least x table key) = read_tree.Least (variable_tree s.names x) (place_tree s table key)
read_statement_tree s (read.Greatest x table key) = read_tree.Greatest (variable_tree s.names x) (place_tree s table key)
read_statement_tree s (read.Take x) = read_tree.Take (variable_tree s.names x)
read_statement_tree s (read.Mul x a b) = read_tree.Mul (variable_tree s.names x) (variable_tree s.names a) (variable_tree s.names b)
read_statement_tree s (read.Div x a n) = read_tree.Div (variable_tree s.names x) (variable_tree s.names a) (unsigned_abs n)

-- the values of a row, of which there may be none
abbrev pub values_tree : List (List ℕ) → List Lin → Option Sums
values_tree names [] = None
values_tree names (l ∷ ls) = Some (sums_tree names (l ∷ ls))

abbrev pub action_statement_tree : Scope → Action → ActionTree
action_statement_tree s (action.Put table key values) = action_tree.Put (place_tree s table key) (values_tree s.names values)
action_statement_tree s (action.Del table key) = action_tree.Del (place_tree s table key)
action_statement_tree s (action.Set table key column v) = action_tree.Set (cell_tree s table key column) (lin_tree s.names v)
action_statement_tree s (action.Add table key column v) = action_tree.Add (cell_tree s table key column) (lin_tree s.names v)

abbrev pub target_statement_tree : List Point → Target → TargetTree
target_statement_tree points (target.Point n) = target_tree.Goto (point_name (slice_get points n))
target_statement_tree points target.Commit = target_tree.Commit
target_statement_tree points target.Undone = target_tree.Undone
target_statement_tree points (target.Refuse n) = target_tree.Refuse n

abbrev pub path_tree : Scope → List Point → Path → PathTree
path_tree s points p = record {
  guard = guard_tree s.names p.guard;
  actions = map (action_statement_tree s) p.actions;
  target = target_statement_tree points p.target;
}

-- where there is no path: no step of a text is so
abbrev pub no_path : PathTree
no_path = record { guard = None; actions = []; target = target_tree.Undone }

abbrev pub first_path : Scope → List Point → List Path → PathTree
first_path s points [] = no_path
first_path s points (p ∷ ps) = path_tree s points p

abbrev pub step_tree : Scope → List Point → Step → StepTree
step_tree s points st = record {
  reads = map (read_statement_tree s) st.reads;
  first = first_path s points st.paths;
  others = map (path_tree s points) (drop 1 st.paths);
}

-- ---- types

abbrev pub variant_tree : List (List ℕ) → Lin → Option Sum
variant_tree names l = if is_zero l.coeffs l.constant then None else Some (lin_tree names l)

abbrev pub point_tree : Scope → List Point → Point → PointTree
point_tree s points p = record {
  name = p.name;
  variant = variant_tree s.names p.variant;
  holds = map (clause_tree s) p.clauses;
  next = step_tree s points p.next;
  undo = step_tree s points p.undo;
}

-- where there is no point: no type of a text is so
abbrev pub no_step : StepTree
no_step = record { reads = []; first = no_path; others = [] }

abbrev pub first_point : Scope → List Point → List Point → PointTree
first_point s points [] = record { name = []; variant = None; holds = []; next = no_step; undo = no_step }
first_point s points (p ∷ ps) = point_tree s points p

abbrev pub type_tree : List Table → TxType → TypeTree
type_tree tables t = record {
  name = t.name;
  params = take t.params t.locals;
  limit = t.limit;
  returns = names_tree (map (name_at t.locals) t.returns);
  locals = names_tree (drop t.params t.locals);
  ensured = map (clause_tree (within tables t)) t.posts;
  repaired = map (clause_tree (within tables t)) t.repairs;
  first = first_point (within tables t) t.points t.points;
  others = map (point_tree (within tables t) t.points) (drop 1 t.points);
}

-- ---- the whole

abbrev pub table_tree : Table → TableTree
table_tree t = record { private = t.own; name = t.name; width = t.width; columns = t.cols }

abbrev pub point_name_tree : Design → At → PointName
point_name_tree d at = record { type_name = type_name (slice_get d.types at.ty); point = point_name (point_of d at.ty at.point) }

abbrev pub side_of_tree : Side → SideTree
side_of_tree side.Next = side_tree.Next
side_of_tree side.Undo = side_tree.Undo

abbrev pub pair_tree : List (List ℕ) → List (List ℕ) → ℕ × ℕ → PairTree
pair_tree held step p = record { held = variable_tree held p.0; step = variable_tree step p.1 }

abbrev pub pairs_tree : List (List ℕ) → List (List ℕ) → List (ℕ × ℕ) → Option Pairs
pairs_tree held step [] = None
pairs_tree held step (p ∷ ps) = Some (record { first = pair_tree held step p; others = map (pair_tree held step) ps })

abbrev pub entry_tree : Design → Entry → EntryTree
entry_tree d e = record {
  held = point_name_tree d e.held;
  by = point_name_tree d e.step;
  side = side_of_tree e.side;
  pairs = pairs_tree (scope_at d e.held).names (scope_at d e.step).names e.pairs;
}

abbrev pub hint_tree : Design → Hint → HintTree
hint_tree d h = record { of = point_name_tree d h.at; side = side_of_tree h.side; value = lin_tree (scope_at d h.at).names h.lin }

-- the tree that is printed
abbrev pub tree_of : Design → DesignTree
tree_of d = record {
  tables = map table_tree d.tables;
  always = map (clause_tree (outside d.tables)) d.always;
  types = map (type_tree d.tables) d.types;
  entries = map (entry_tree d) d.entries;
  hints = map (hint_tree d) d.hints;
}
