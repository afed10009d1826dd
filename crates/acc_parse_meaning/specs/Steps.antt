-- What the statements of a step stand for.
use Rattle.std.specs.Prelude.{ℕ, List, ◌∷◌, map, pos}
use Rattle.acc_base.specs.declared.steps.Read.{Read}
use Rattle.acc_base.specs.declared.steps.Read.TheVariants as read
use Rattle.acc_base.specs.declared.steps.Action.{Action}
use Rattle.acc_base.specs.declared.steps.Action.TheVariants as action
use Rattle.acc_base.specs.declared.steps.Target.{Target}
use Rattle.acc_base.specs.declared.steps.Target.TheVariants as target
use Rattle.acc_base.specs.declared.steps.Path.{Path}
use Rattle.acc_base.specs.declared.steps.Step.{Step}
use Rattle.acc_parse_syntax.specs.declared.trees.ReadTree.{ReadTree}
use Rattle.acc_parse_syntax.specs.declared.trees.ReadTree.TheVariants as read_tree
use Rattle.acc_parse_syntax.specs.declared.trees.ActionTree.{ActionTree}
use Rattle.acc_parse_syntax.specs.declared.trees.ActionTree.TheVariants as action_tree
use Rattle.acc_parse_syntax.specs.declared.trees.TargetTree.{TargetTree}
use Rattle.acc_parse_syntax.specs.declared.trees.TargetTree.TheVariants as target_tree
use Rattle.acc_parse_syntax.specs.declared.trees.PathTree.{PathTree}
use Rattle.acc_parse_syntax.specs.declared.trees.StepTree.{StepTree}
use Rattle.acc_parse_clauses.specs.Scopes.{Scope, fitted, number_of, variable_of, table_in, column_in}
use Rattle.acc_parse_clauses.specs.Values.{lin_of, values_of, guard_of, kept}
use Rattle.acc_parse_clauses.specs.Rows.{key_in}

-- ---- reads

abbrev pub read_of : Scope → ReadTree → Read
read_of s (read_tree.Let x v) = read.Let (variable_of s.variables x) (lin_of s.variables v)
read_of s (read_tree.Get x c) = read.Col (variable_of s.variables x) (table_in s c.place) (key_in s c.place) (column_in s c)
read_of s (read_tree.Has x p) = read.Has (variable_of s.variables x) (table_in s p) (key_in s p)
read_of s (read_tree.Count x p) = read.Count (variable_of s.variables x) (table_in s p) (key_in s p)
read_of s (read_tree.Sum x c) = read.Sum (variable_of s.variables x) (table_in s c.place) (key_in s c.place) (column_in s c)
read_of s (read_tree.Least x p) = read.Least (variable_of s.variables x) (table_in s p) (key_in s p)
read_of s (read_tree.Greatest x p) = read.Greatest (variable_of s.variables x) (table_in s p) (key_in s p)
read_of s (read_tree.Take x) = read.Take (variable_of s.variables x)
read_of s (read_tree.Mul x a b) = read.Mul (variable_of s.variables x) (variable_of s.variables a) (variable_of s.variables b)
read_of s (read_tree.Div x a n) = read.Div (variable_of s.variables x) (variable_of s.variables a) (kept (pos n))

-- ---- actions and targets

abbrev pub action_of : Scope → ActionTree → Action
action_of s (action_tree.Put p vs) = action.Put (table_in s p) (key_in s p) (values_of s.variables vs)
action_of s (action_tree.Del p) = action.Del (table_in s p) (key_in s p)
action_of s (action_tree.Set c v) = action.Set (table_in s c.place) (key_in s c.place) (column_in s c) (lin_of s.variables v)
action_of s (action_tree.Add c v) = action.Add (table_in s c.place) (key_in s c.place) (column_in s c) (lin_of s.variables v)

abbrev pub target_of : List (List ℕ) → TargetTree → Target
target_of points (target_tree.Goto x) = target.Point (number_of x points)
target_of points target_tree.Commit = target.Commit
target_of points target_tree.Undone = target.Undone
target_of points (target_tree.Refuse n) = target.Refuse (fitted n)

-- ---- paths and steps

abbrev pub path_of : Scope → List (List ℕ) → PathTree → Path
path_of s points p = record {
  guard = guard_of s.variables p.guard;
  actions = map (action_of s) p.actions;
  target = target_of points p.target;
}

abbrev pub all_paths : StepTree → List PathTree
all_paths st = st.first ∷ st.others

abbrev pub step_of : Scope → List (List ℕ) → StepTree → Step
step_of s points st = record { reads = map (read_of s) st.reads; paths = map (path_of s points) (all_paths st) }
