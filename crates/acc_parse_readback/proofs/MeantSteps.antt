-- Printed steps stand for themselves, and pass no limit.
use Rattle.std.proofs.Common.{◌≡◌, ◌≤◌, ℕ, false, List, [], ◌∷◌, length, map, Option, Some, None, refl, ap, arith, ℤ, pos, negsuc}
use Rattle.std.specs.Prelude.{drop, slice_get, unsigned_abs}
use Rattle.std.specs.List.{flat_map}
use Rattle.acc_base.specs.Numbers.{IsSmall}
use Rattle.acc_base.specs.Lines.{point_name}
use Rattle.acc_base.specs.declared.steps.Read.{Read}
use Rattle.acc_base.specs.declared.steps.Read.TheVariants as read
use Rattle.acc_base.specs.declared.steps.Action.{Action}
use Rattle.acc_base.specs.declared.steps.Action.TheVariants as action
use Rattle.acc_base.specs.declared.steps.Target.{Target}
use Rattle.acc_base.specs.declared.steps.Target.TheVariants as target
use Rattle.acc_base.specs.declared.steps.Path.{Path}
use Rattle.acc_base.specs.declared.steps.Step.{Step}
use Rattle.acc_base.specs.declared.designs.Point.{Point}
use Rattle.acc_parse_clauses.specs.Scopes.{Scope as Surroundings, number_of, variable_of}
use Rattle.acc_parse_clauses.specs.Values.{kept}
use Rattle.acc_parse.specs.Steps.{read_of, action_of, target_of, path_of, step_of}
use Rattle.acc_parse_clauses.specs.Sizes.{guard_sizes}
use Rattle.acc_parse.specs.Sizes.{read_sizes, action_sizes, path_sizes, step_sizes}
use Rattle.acc_parse_limits.specs.Marks.{ending}
use Rattle.acc_print.specs.Sums.{is_negative}
use Rattle.acc_print.specs.Names.{Scope, name_at}
use Rattle.acc_parse_readback.specs.Trees.{variable_tree, guard_tree}
use Rattle.acc_parse_readback.specs.TypeTrees.{read_statement_tree, action_statement_tree, target_statement_tree, path_tree, first_path}
use Rattle.acc_parse_readback.specs.TypeTrees.{step_tree}
use Rattle.acc_parse_readback.specs.Printable.{IsName, IsVariable, AreNew}
use Rattle.acc_parse_readback.specs.PrintableTypes.{IsReadSaid, IsActionSaid, IsTargetSaid, IsPathSaid, ArePathsSaid, IsStepSaid}
use Rattle.acc_parse_readback.proofs.NamePlaces.{fitted_small}
use Rattle.acc_parse_readback.proofs.ItemNumbers.{number_item}
use Rattle.acc_parse_readback.proofs.VariableNumbers.{variable_back}
use Rattle.acc_parse_readback.proofs.MeantValues.{all_back, number_kept, lin_back, lin_ends, values_back, values_end, guard_back, guard_ends}
use Rattle.acc_parse_readback.proofs.MeantRows.{Suits, table_back, key_back, column_back, row_ends}
use Rattle.acc_parse_readback.proofs.OnlyEnds.{AreEnds, one_end, ends_behind, ended, ends_mapped}

-- a divisor, which has no minus
divisor_back : (n : ℤ) → is_negative n ≡ false → IsSmall n → kept (pos (unsigned_abs n)) ≡ n
divisor_back (pos n) h k = number_kept (pos n) k
divisor_back (negsuc n) h k = absurd cc

-- the points of a type, by their names
pub record ArePoints (points : List Point) (names : List (List ℕ)) : Type 0 where
  pub are : names ≡ map (λ (p : Point). p.name) points
  pub new : AreNew [] (map (λ (p : Point). p.name) points)
  pub few : length points ≤ 32

-- the number of a point that has a name
pub point_back : (points : List Point) (names : List (List ℕ)) → ArePoints points names → (n : ℕ) (o : Option Point) →
    slice_get points n ≡ o → IsName (point_name o) → number_of (point_name o) names ≡ n
point_back points names f n None e h = absurd h.0
point_back points names f n (Some p) e h = number_item (λ (q : Point). q.name) points names n p f.are f.new (omega (arith, f.few)) e

target_back : (points : List Point) (names : List (List ℕ)) → ArePoints points names → (t : Target) → IsTargetSaid points t →
    target_of names (target_statement_tree points t) ≡ t
target_back points names f (target.Point n) h = ap target.Point (point_back points names f n (slice_get points n) refl h)
target_back points names f target.Commit h = refl
target_back points names f target.Undone h = refl
target_back points names f (target.Refuse n) h = ap target.Refuse (fitted_small n h)

module _ (s : Scope) (m : Surroundings) (f : Suits s m) where
  variable : (n : ℕ) → IsVariable (name_at s.names n) → variable_of m.variables (variable_tree s.names n) ≡ n
  variable n = variable_back s.names m.variables f.variables n

  read_back : (r : Read) → IsReadSaid s r → read_of m (read_statement_tree s r) ≡ r
  read_back (read.Let x v) h = λ i. read.Let (variable x h.0 i) (lin_back s.names m.variables f.variables v h.1 i)
  read_back (read.Col x table key column) h = λ i. read.Col (variable x h.0 i) (table_back s m f table key h.1.row i)
      (key_back s m f table key h.1.row i) (column_back s m f table key column h.1 i)
  read_back (read.Has x table key) h = λ i. read.Has (variable x h.0 i) (table_back s m f table key h.1 i) (key_back s m f table key h.1 i)
  read_back (read.Count x table key) h = λ i. read.Count (variable x h.0 i) (table_back s m f table key h.1 i)
      (key_back s m f table key h.1 i)
  read_back (read.Sum x table key column) h = λ i. read.Sum (variable x h.0 i) (table_back s m f table key h.1.row i)
      (key_back s m f table key h.1.row i) (column_back s m f table key column h.1 i)
  read_back (read.Least x table key) h = λ i. read.Least (variable x h.0 i) (table_back s m f table key h.1 i)
      (key_back s m f table key h.1 i)
  read_back (read.Greatest x table key) h = λ i. read.Greatest (variable x h.0 i) (table_back s m f table key h.1 i)
      (key_back s m f table key h.1 i)
  read_back (read.Take x) h = λ i. read.Take (variable x h i)
  read_back (read.Mul x a b) h = λ i. read.Mul (variable x h.0 i) (variable a h.1 i) (variable b h.2 i)
  read_back (read.Div x a n) h = λ i. read.Div (variable x h.0 i) (variable a h.1 i) (divisor_back n h.2 h.3 i)

  read_ends : (r : Read) → IsReadSaid s r → AreEnds (read_sizes m (read_statement_tree s r))
  read_ends (read.Let x v) h = ended _ (lin_ends s.names m.variables f.variables v h.1)
  read_ends (read.Col x table key column) h = ended _ (row_ends s m f table key h.1.row)
  read_ends (read.Has x table key) h = ended _ (row_ends s m f table key h.1)
  read_ends (read.Count x table key) h = ended _ (row_ends s m f table key h.1)
  read_ends (read.Sum x table key column) h = ended _ (row_ends s m f table key h.1.row)
  read_ends (read.Least x table key) h = ended _ (row_ends s m f table key h.1)
  read_ends (read.Greatest x table key) h = ended _ (row_ends s m f table key h.1)
  read_ends (read.Take x) h = one_end
  read_ends (read.Mul x a b) h = one_end
  read_ends (read.Div x a n) h = one_end

  -- ---- actions

  action_back : (a : Action) → IsActionSaid s a → action_of m (action_statement_tree s a) ≡ a
  action_back (action.Put table key values) h = λ i. action.Put (table_back s m f table key h.0 i) (key_back s m f table key h.0 i)
      (values_back s.names m.variables f.variables values h.1 i)
  action_back (action.Del table key) h = λ i. action.Del (table_back s m f table key h i) (key_back s m f table key h i)
  action_back (action.Set table key column v) h =
      λ i. action.Set (table_back s m f table key h.0.row i) (key_back s m f table key h.0.row i) (column_back s m f table key column h.0 i)
      (lin_back s.names m.variables f.variables v h.1 i)
  action_back (action.Add table key column v) h =
      λ i. action.Add (table_back s m f table key h.0.row i) (key_back s m f table key h.0.row i) (column_back s m f table key column h.0 i)
      (lin_back s.names m.variables f.variables v h.1 i)

  action_ends : (a : Action) → IsActionSaid s a → AreEnds (action_sizes m (action_statement_tree s a))
  action_ends (action.Put table key values) h = ended _
      (ends_behind _ _ (row_ends s m f table key h.0) (values_end s.names m.variables f.variables values h.1))
  action_ends (action.Del table key) h = ended _ (row_ends s m f table key h)
  action_ends (action.Set table key column v) h =
      ended _ (ends_behind _ _ (row_ends s m f table key h.0.row) (lin_ends s.names m.variables f.variables v h.1))
  action_ends (action.Add table key column v) h =
      ended _ (ends_behind _ _ (row_ends s m f table key h.0.row) (lin_ends s.names m.variables f.variables v h.1))

  -- ---- paths and steps

  path_ends : (points : List Point) (p : Path) → IsPathSaid s points p → AreEnds (path_sizes m (path_tree s points p))
  path_ends points p h =
      ends_behind (guard_sizes m.variables (guard_tree s.names p.guard)) _ (guard_ends s.names m.variables f.variables p.guard h.guard)
      (ends_behind ending _ one_end (ended _ (ends_mapped (IsActionSaid s) (action_sizes m) (action_statement_tree s) p.actions action_ends
      h.actions)))

  paths_end : (points : List Point) (ps : List Path) → ArePathsSaid s points ps →
      AreEnds (flat_map (path_sizes m) (first_path s points ps ∷ map (path_tree s points) (drop 1 ps)))
  paths_end points [] h = absurd h
  paths_end points (p ∷ ps) h = ends_behind (path_sizes m (path_tree s points p)) _ (path_ends points p h.0)
      (ends_mapped (IsPathSaid s points) (path_sizes m) (path_tree s points) ps (path_ends points) h.1)

  pub step_ends : (points : List Point) (st : Step) → IsStepSaid s points st → AreEnds (step_sizes m (step_tree s points st))
  step_ends points st h =
      ends_behind ending _ one_end (ends_behind (flat_map (read_sizes m) (map (read_statement_tree s) st.reads)) _
      (ends_mapped (IsReadSaid s) (read_sizes m) (read_statement_tree s) st.reads read_ends h.reads)
      (paths_end points st.paths h.paths))

  module _ (points : List Point) (names : List (List ℕ)) (g : ArePoints points names) where
    path_back : (p : Path) → IsPathSaid s points p → path_of m names (path_tree s points p) ≡ p
    path_back p h = λ i. record {
      guard = guard_back s.names m.variables f.variables p.guard h.guard i;
      actions = all_back (IsActionSaid s) (action_of m) (action_statement_tree s) p.actions action_back h.actions i;
      target = target_back points names g p.target h.target i;
    }

    paths_back : (ps : List Path) → ArePathsSaid s points ps →
        map (path_of m names) (first_path s points ps ∷ map (path_tree s points) (drop 1 ps)) ≡ ps
    paths_back [] h = absurd h
    paths_back (p ∷ ps) h = λ i. path_back p h.0 i ∷ all_back (IsPathSaid s points) (path_of m names) (path_tree s points) ps path_back h.1
        i

    pub step_back : (st : Step) → IsStepSaid s points st → step_of m names (step_tree s points st) ≡ st
    step_back st h = λ i. record {
      reads = all_back (IsReadSaid s) (read_of m) (read_statement_tree s) st.reads read_back h.reads i;
      paths =
          paths_back st.paths h.paths i;
    }
