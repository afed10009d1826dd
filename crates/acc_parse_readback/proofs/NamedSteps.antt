-- Printed steps use names that are defined.
use Rattle.std.proofs.Common.{◌≡◌, ℕ, true, false, not, List, [], ◌∷◌, ◌++◌, Option, Some, None, refl, ap, ◌∙◌}
use Rattle.std.specs.Prelude.{map, drop, slice_get}
use Rattle.std.specs.List.{flat_map}
use Rattle.acc_grammar.specs.Readers.{AllIn}
use Rattle.acc_base.specs.Lines.{point_name}
use Rattle.acc_base.specs.declared.forms.Lin.{Lin}
use Rattle.acc_base.specs.declared.steps.Read.{Read}
use Rattle.acc_base.specs.declared.steps.Read.TheVariants as read
use Rattle.acc_base.specs.declared.steps.Action.{Action}
use Rattle.acc_base.specs.declared.steps.Action.TheVariants as action
use Rattle.acc_base.specs.declared.steps.Target.{Target}
use Rattle.acc_base.specs.declared.steps.Target.TheVariants as target
use Rattle.acc_base.specs.declared.steps.Path.{Path}
use Rattle.acc_base.specs.declared.steps.Step.{Step}
use Rattle.acc_base.specs.declared.designs.Point.{Point}
use Rattle.acc_parse_syntax.specs.declared.trees.PathTree.{PathTree}
use Rattle.acc_parse_names.specs.Names.{stands_in}
use Rattle.acc_parse_names.specs.Scopes.{Scope as Known}
use Rattle.acc_parse_names.specs.Faults.{variable_fault, sum_fault, values_fault, place_fault, cell_fault, read_fault, action_fault, target_fault}
use Rattle.acc_parse_names.specs.Faults.{path_faults, step_faults}
use Rattle.acc_print.specs.Names.{Scope, name_at}
use Rattle.acc_parse_readback.specs.Trees.{variable_tree, lin_tree, place_tree, cell_tree}
use Rattle.acc_parse_readback.specs.TypeTrees.{read_statement_tree, values_tree, action_statement_tree, target_statement_tree, path_tree}
use Rattle.acc_parse_readback.specs.TypeTrees.{first_path, step_tree}
use Rattle.acc_parse_readback.specs.Printable.{IsName, IsVariable, IsLinSaid}
use Rattle.acc_parse_readback.specs.PrintableTypes.{IsReadSaid, IsActionSaid, IsTargetSaid, IsPathSaid, ArePathsSaid, IsStepSaid}
use Rattle.acc_parse_readback.proofs.Mapped.{all_mapped}
use Rattle.acc_parse_readback.proofs.Faultless.{neither, AreFalse, false_both, false_each, false_mapped}
use Rattle.acc_parse_readback.proofs.StandingNames.{stands_there, named_at}
use Rattle.acc_parse_readback.proofs.NamedValues.{Fits, variable_defined, lin_defined, sums_defined, guard_defined, row_defined, cell_defined}

-- ---- reads and actions

module _ (s : Scope) (v : Known) (fits : Fits s v) where
  variable_known : (x : ℕ) → IsVariable (name_at s.names x) → variable_fault v.variables (variable_tree s.names x) ≡ false
  variable_known x h = variable_defined s.names v.variables fits.same x h

  value_known : (l : Lin) → IsLinSaid s.names l → sum_fault v.variables (lin_tree s.names l) ≡ false
  value_known l h = lin_defined s.names v.variables fits.same l h

  read_defined : (r : Read) → IsReadSaid s r → read_fault v (read_statement_tree s r) ≡ false
  read_defined (read.Let x l) h = neither (variable_fault v.variables (variable_tree s.names x)) _ (variable_known x h.0)
      (value_known l h.1)
  read_defined (read.Col x table key column) h =
      neither (variable_fault v.variables (variable_tree s.names x)) _ (variable_known x h.0) (cell_defined s v fits table key column h.1)
  read_defined (read.Has x table key) h = neither (variable_fault v.variables (variable_tree s.names x)) _ (variable_known x h.0)
      (row_defined s v fits table key h.1)
  read_defined (read.Count x table key) h = neither (variable_fault v.variables (variable_tree s.names x)) _ (variable_known x h.0)
      (row_defined s v fits table key h.1)
  read_defined (read.Sum x table key column) h =
      neither (variable_fault v.variables (variable_tree s.names x)) _ (variable_known x h.0) (cell_defined s v fits table key column h.1)
  read_defined (read.Least x table key) h = neither (variable_fault v.variables (variable_tree s.names x)) _ (variable_known x h.0)
      (row_defined s v fits table key h.1)
  read_defined (read.Greatest x table key) h = neither (variable_fault v.variables (variable_tree s.names x)) _ (variable_known x h.0)
      (row_defined s v fits table key h.1)
  read_defined (read.Take x) h = variable_known x h
  read_defined (read.Mul x a b) h =
      neither (variable_fault v.variables (variable_tree s.names x)) _ (variable_known x h.0)
      (neither (variable_fault v.variables (variable_tree s.names a)) _ (variable_known a h.1) (variable_known b h.2))
  read_defined (read.Div x a n) h = neither (variable_fault v.variables (variable_tree s.names x)) _ (variable_known x h.0)
      (variable_known a h.1)

  values_defined : (ls : List Lin) → AllIn (IsLinSaid s.names) ls → values_fault v.variables (values_tree s.names ls) ≡ false
  values_defined [] h = refl
  values_defined (l ∷ ls) h = sums_defined s.names v.variables fits.same l ls h

  action_defined : (a : Action) → IsActionSaid s a → action_fault v (action_statement_tree s a) ≡ false
  action_defined (action.Put table key vs) h = neither (place_fault v (place_tree s table key)) _ (row_defined s v fits table key h.0)
      (values_defined vs h.1)
  action_defined (action.Del table key) h = row_defined s v fits table key h
  action_defined (action.Set table key column l) h =
      neither (cell_fault v (cell_tree s table key column)) _ (cell_defined s v fits table key column h.0) (value_known l h.1)
  action_defined (action.Add table key column l) h =
      neither (cell_fault v (cell_tree s table key column)) _ (cell_defined s v fits table key column h.0) (value_known l h.1)

-- ---- points

abbrev pub titles : List Point → List (List ℕ)
titles points = map (λ (p : Point). p.name) points

-- a point that has a name is there
pub point_there : (o : Option Point) → IsName (point_name o) → (p : Point) × (o ≡ Some p)
point_there None h = absurd h.0
point_there (Some p) h = (p, refl)

-- the name of a point with a number is among the names of the points
pub point_stands : (points : List Point) (n : ℕ) → IsName (point_name (slice_get points n)) →
    stands_in (point_name (slice_get points n)) (titles points) ≡ true
point_stands points n h =
    let there = point_there (slice_get points n) h in
    ap (λ (o : Option Point). stands_in (point_name o) (titles points)) there.1 ∙ stands_there (titles points) n there.0.name
    (named_at (λ (p : Point). p.name) points n there.0 there.1)

target_defined : (points : List Point) (t : Target) → IsTargetSaid points t →
    target_fault (titles points) (target_statement_tree points t) ≡ false
target_defined points (target.Point n) h = ap not (point_stands points n h)
target_defined points target.Commit h = refl
target_defined points target.Undone h = refl
target_defined points (target.Refuse n) h = refl

-- ---- paths and steps

module _ (s : Scope) (v : Known) (fits : Fits s v) (points : List Point) where
  path_defined : (p : Path) → IsPathSaid s points p → AreFalse (path_faults v (titles points) (path_tree s points p))
  path_defined p h = (
    guard_defined s.names v.variables fits.same p.guard h.guard,
    false_both (map (action_fault v) (map (action_statement_tree s) p.actions))
        (target_fault (titles points) (target_statement_tree points p.target) ∷ [])
        (false_mapped (IsActionSaid s) (action_fault v) (action_statement_tree s) (action_defined s v fits) p.actions h.actions)
        (target_defined points p.target h.target, tt),
  )

  paths_defined : (ps : List Path) → ArePathsSaid s points ps →
      AreFalse (path_faults v (titles points) (first_path s points ps) ++ flat_map (path_faults v (titles points))
      (map (path_tree s points) (drop 1 ps)))
  paths_defined [] h = absurd h
  paths_defined (p ∷ ps) h =
      false_both (path_faults v (titles points) (path_tree s points p)) _ (path_defined p h.0)
      (false_each (path_faults v (titles points)) (map (path_tree s points) ps)
      (all_mapped (IsPathSaid s points) (λ (t : PathTree). AreFalse (path_faults v (titles points) t)) (path_tree s points) path_defined ps
      h.1))

  pub step_defined : (st : Step) → IsStepSaid s points st → AreFalse (step_faults v (titles points) (step_tree s points st))
  step_defined st h = (
    refl,
    false_both (map (read_fault v) (map (read_statement_tree s) st.reads)) _
        (false_mapped (IsReadSaid s) (read_fault v) (read_statement_tree s) (read_defined s v fits) st.reads h.reads)
        (paths_defined st.paths h.paths),
  )
