-- What a text stands for names nothing that is out of range: steps, points and types.
use Rattle.std.proofs.Common.{◌≡◌, ℕ, ◌+◌, true, List, [], ◌∷◌, length, refl, ap, subst, arith, length-append}
use Rattle.std.specs.Prelude.{nat_lt, map, codes, not, ◌&&◌, ◌==◌}
use Rattle.std.specs.List.{list_all}
use Rattle.std.specs.Cmp.Derive.{both_true}
use Rattle.std.proofs.lemmas.Bool.{lt-ltb, le-leb, ne_eqb}
use Rattle.acc_grammar.specs.Readers.{AllIn}
use Rattle.acc_base.specs.Lines.{point_name}
use Rattle.acc_base.specs.declared.forms.LinRel.{LinRel}
use Rattle.acc_base.specs.declared.forms.Clause.{Clause}
use Rattle.acc_base.specs.declared.tables.Table.{Table}
use Rattle.acc_base.specs.declared.steps.Read.{Read}
use Rattle.acc_base.specs.declared.steps.Read.TheVariants as read
use Rattle.acc_base.specs.declared.steps.Action.{Action}
use Rattle.acc_base.specs.declared.steps.Action.TheVariants as action
use Rattle.acc_base.specs.declared.steps.Target.{Target}
use Rattle.acc_base.specs.declared.steps.Target.TheVariants as target
use Rattle.acc_base.specs.declared.steps.Path.{Path}
use Rattle.acc_base.specs.declared.steps.Step.{Step}
use Rattle.acc_base.specs.declared.designs.Point.{Point}
use Rattle.acc_base.specs.declared.designs.TxType.{TxType}
use Rattle.acc_formed.specs.Ranges.{lin_rel_in, clause_in, read_in, action_in, target_in, path_in, step_in, point_in, head_in, type_in}
use Rattle.acc_print.specs.Names.{Scope, name_at, within}
use Rattle.acc_parse_readback.specs.Printable.{IsName, IsLinRelSaid, IsClauseSaid}
use Rattle.acc_parse_readback.specs.PrintableTypes.{IsReadSaid, IsActionSaid, IsTargetSaid, IsPathSaid, ArePathsSaid, IsStepSaid, IsPointSaid}
use Rattle.acc_parse_readback.specs.PrintableTypes.{ArePointsSaid, IsTypeSaid}
use Rattle.acc_parse_readback.proofs.NamePlaces.{there}
use Rattle.acc_parse_readback.proofs.ValueRanges.{all_pass, item_there, variable_in, value_in, values_in, place_in, column_of_row_in}
use Rattle.acc_parse_readback.proofs.ValueRanges.{clause_range}

some_item : {X : Type 0} (x : X) (xs : List X) → not (length (x ∷ xs) == 0) ≡ true
some_item x xs = ap not (ne_eqb (length (x ∷ xs)) 0 (λ e. absurd (omega (arith, e))))

-- ---- steps

read_range : (s : Scope) (r : Read) → IsReadSaid s r → read_in s.tables (length s.names) r ≡ true
read_range s (read.Let x v) h = both_true (variable_in s.names x h.0) (value_in s.names v h.1)
read_range s (read.Col x t k c) h = both_true (variable_in s.names x h.0) (column_of_row_in s t k c h.1)
read_range s (read.Has x t k) h = both_true (variable_in s.names x h.0) (place_in s t k h.1)
read_range s (read.Count x t k) h = both_true (variable_in s.names x h.0) (place_in s t k h.1)
read_range s (read.Sum x t k c) h = both_true (variable_in s.names x h.0) (column_of_row_in s t k c h.1)
read_range s (read.Least x t k) h = both_true (variable_in s.names x h.0) (place_in s t k h.1)
read_range s (read.Greatest x t k) h = both_true (variable_in s.names x h.0) (place_in s t k h.1)
read_range s (read.Take x) h = variable_in s.names x h
read_range s (read.Mul x a b) h = both_true (both_true (variable_in s.names x h.0) (variable_in s.names a h.1)) (variable_in s.names b h.2)
read_range s (read.Div x a n) h = both_true (variable_in s.names x h.0) (variable_in s.names a h.1)

action_range : (s : Scope) (a : Action) → IsActionSaid s a → action_in s.tables (length s.names) a ≡ true
action_range s (action.Put t k vs) h = both_true (place_in s t k h.0) (values_in s.names vs h.1)
action_range s (action.Del t k) h = place_in s t k h
action_range s (action.Set t k c v) h = both_true (column_of_row_in s t k c h.0) (value_in s.names v h.1)
action_range s (action.Add t k c v) h = both_true (column_of_row_in s t k c h.0) (value_in s.names v h.1)

target_range : (points : List Point) (t : Target) → IsTargetSaid points t → target_in (length points) t ≡ true
target_range points (target.Point n) h = item_there (λ o. IsName (point_name o)) (λ g. absurd g.0) points n h
target_range points target.Commit h = refl
target_range points target.Undone h = refl
target_range points (target.Refuse n) h = refl

path_range : (s : Scope) (points : List Point) (p : Path) → IsPathSaid s points p →
    path_in s.tables (length s.names) (length points) p ≡ true
path_range s points p h =
    both_true (both_true (all_pass (IsLinRelSaid s.names) (lin_rel_in (length s.names)) (λ (r : LinRel) g. value_in s.names r.lin g) p.guard
    h.guard)
    (all_pass (IsActionSaid s) (action_in s.tables (length s.names)) (action_range s) p.actions h.actions))
    (target_range points p.target h.target)

paths_range : (s : Scope) (points : List Point) (ps : List Path) → ArePathsSaid s points ps
    → (not (length ps == 0) ≡ true) × (list_all (path_in s.tables (length s.names) (length points)) ps ≡ true)
paths_range s points [] h = absurd h
paths_range s points (p ∷ ps) h = (
  some_item p ps,
  all_pass (IsPathSaid s points) (path_in s.tables (length s.names) (length points)) (path_range s points) (p ∷ ps) h,
)

step_range : (s : Scope) (points : List Point) (st : Step) → IsStepSaid s points st →
    step_in s.tables (length s.names) (length points) st ≡ true
step_range s points st h =
    let paths = paths_range s points st.paths h.paths in
    both_true (both_true paths.0 (all_pass (IsReadSaid s) (read_in s.tables (length s.names)) (read_range s) st.reads h.reads)) paths.1

-- ---- points and types

clauses_range : (s : Scope) (cs : List Clause) → AllIn (IsClauseSaid s) cs → list_all (clause_in s.tables (length s.names)) cs ≡ true
clauses_range s cs h = all_pass (IsClauseSaid s) (clause_in s.tables (length s.names)) (clause_range s) cs h

point_range : (s : Scope) (points : List Point) (p : Point) → IsPointSaid s points p →
    point_in s.tables (length s.names) (length points) p ≡ true
point_range s points p h =
    both_true (both_true (both_true (clauses_range s p.clauses h.clauses) (value_in s.names p.variant h.variant))
    (step_range s points p.next h.next)) (step_range s points p.undo h.undo)

points_range : (s : Scope) (points ps : List Point) → ArePointsSaid s points ps
    → (not (length ps == 0) ≡ true) × (list_all (point_in s.tables (length s.names) (length points)) ps ≡ true)
points_range s points [] h = absurd h
points_range s points (p ∷ ps) h = (
  some_item p ps,
  all_pass (IsPointSaid s points) (point_in s.tables (length s.names) (length points)) (point_range s points) (p ∷ ps) h,
)

returns_range : (names : List (List ℕ)) (xs : List ℕ) → AllIn IsName (map (name_at names) xs) →
    list_all (λ x. nat_lt x (length names)) xs ≡ true
returns_range names [] h = refl
returns_range names (x ∷ xs) h = both_true (lt-ltb x (length names) (there names x h.0)) (returns_range names xs h.1)

pub type_range : (tables : List Table) (t : TxType) → IsTypeSaid tables t → type_in tables t ≡ true
type_range tables t h =
    let s = within tables t in
    let count : length s.names ≡ length t.locals + 1 = length-append t.locals (codes "self" ∷ []) in
    let points = points_range s t.points t.points h.points in
    let clauses = both_true (clauses_range s t.posts h.posts) (clauses_range s t.repairs h.repairs) in
    let head : head_in t ≡ true = both_true (both_true (le-leb t.params (length t.locals) h.params) points.0)
    (returns_range t.locals t.returns h.returns) in
    both_true (both_true head (subst (λ (n : ℕ). (list_all (clause_in tables n) t.posts && list_all (clause_in tables n) t.repairs) ≡ true)
    count clauses))
    (subst (λ (n : ℕ). list_all (point_in tables n (length t.points)) t.points ≡ true) count points.1)
