-- What is told of names has an answer for each statement.
use Rattle.std.proofs.Common.{◌≡◌, ℕ, ◌+◌, Bool, List, [], ◌∷◌, ◌++◌, length, map, Option, Some, None, refl, ◌∙◌, arith, length-append}
use Rattle.std.specs.Prelude.{flat_map, sum_by}
use Rattle.std.proofs.lemmas.List.{length-map}
use Rattle.std.proofs.lemmas.List.Concat.{length-flat_map}
use Rattle.std.proofs.lemmas.List.Sums.{sum_by-cons}
use Rattle.acc_parse_syntax.specs.declared.trees.Sum.{Sum}
use Rattle.acc_parse_syntax.specs.declared.trees.Names.{Names}
use Rattle.acc_parse_syntax.specs.declared.trees.TableTree.{TableTree}
use Rattle.acc_parse_syntax.specs.declared.trees.PathTree.{PathTree}
use Rattle.acc_parse_syntax.specs.declared.trees.StepTree.{StepTree}
use Rattle.acc_parse_syntax.specs.declared.trees.PointTree.{PointTree}
use Rattle.acc_parse_syntax.specs.declared.trees.TypeTree.{TypeTree}
use Rattle.acc_parse_syntax.specs.declared.trees.DesignTree.{DesignTree}
use Rattle.acc_parse_statements.specs.Counts.{if_there, path_statements, step_statements, point_statements, type_statements, statements_of}
use Rattle.acc_parse_names.specs.Names.{stands_in}
use Rattle.acc_parse_names.specs.Scopes.{Scope, locals_of, points_in, point_names}
use Rattle.acc_parse_names.specs.Faults.{outside, clause_fault, read_fault, action_fault, target_fault, entry_fault, hint_fault, path_faults}
use Rattle.acc_parse_names.specs.Faults.{step_faults, variant_faults, point_faults, points_faults, returns_faults, locals_faults, type_scope}
use Rattle.acc_parse_names.specs.Faults.{head_faults, type_faults, types_faults, tables_faults, statement_faults}

path_length : (s : Scope) (points : List (List ℕ)) (p : PathTree) → length (path_faults s points p) ≡ path_statements p
path_length s points p =
    omega (arith, length-append (map (action_fault s) p.actions) (target_fault points p.target ∷ []), length-map p.actions (action_fault s))

paths_length : (s : Scope) (points : List (List ℕ)) (ps : List PathTree) →
    length (flat_map (path_faults s points) ps) ≡ sum_by path_statements ps
paths_length s points ps = length-flat_map (path_faults s points) ps ∙ (λ i. sum_by (λ p. path_length s points p i) ps)

step_length : (s : Scope) (points : List (List ℕ)) (st : StepTree) → length (step_faults s points st) ≡ step_statements st
step_length s points st =
    let others = flat_map (path_faults s points) st.others in
    let paths = path_faults s points st.first ++ others in
    omega (
      arith,
      length-append (map (read_fault s) st.reads) paths,
      length-append (path_faults s points st.first) others,
      length-map st.reads (read_fault s),
      path_length s points st.first,
      paths_length s points st.others,
    )

variant_length : (variables : List (List ℕ)) (v : Option Sum) → length (variant_faults variables v) ≡ if_there v
variant_length variables None = refl
variant_length variables (Some v) = refl

point_length : (s : Scope) (points : List (List ℕ)) (again : Bool) (p : PointTree) →
    length (point_faults s points again p) ≡ point_statements p
point_length s points again p =
    let undo = step_faults s points p.undo in
    let next = step_faults s points p.next in
    let holds = map (clause_fault s) p.holds in
    let variant = variant_faults s.variables p.variant in
    omega (
      arith,
      length-append variant (holds ++ (next ++ undo)),
      length-append holds (next ++ undo),
      length-append next undo,
      variant_length s.variables p.variant,
      length-map p.holds (clause_fault s),
      step_length s points p.next,
      step_length s points p.undo,
    )

points_length : (s : Scope) (points earlier : List (List ℕ)) (ps : List PointTree) →
    length (points_faults s points earlier ps) ≡ sum_by point_statements ps
points_length s points earlier [] = refl
points_length s points earlier (p ∷ ps) =
    let later = earlier ++ p.name ∷ [] in
    omega (
      arith,
      length-append (point_faults s points (stands_in p.name earlier) p) (points_faults s points later ps),
      point_length s points (stands_in p.name earlier) p,
      points_length s points later ps,
      sum_by-cons point_statements p ps,
    )

returns_length : (locals : List (List ℕ)) (ns : Option Names) → length (returns_faults locals ns) ≡ if_there ns
returns_length locals None = refl
returns_length locals (Some ns) = refl

locals_length : (params : List (List ℕ)) (ns : Option Names) → length (locals_faults params ns) ≡ if_there ns
locals_length params None = refl
locals_length params (Some ns) = refl

head_length : (again : Bool) (t : TypeTree) → length (head_faults again t) ≡ 2 + if_there t.returns + if_there t.locals
head_length again t =
    let returns = returns_faults (locals_of t) t.returns in
    omega (
      arith,
      length-append returns (locals_faults t.params t.locals),
      returns_length (locals_of t) t.returns,
      locals_length t.params t.locals,
    )

type_length : (tables : List TableTree) (again : Bool) (t : TypeTree) → length (type_faults tables again t) ≡ type_statements t
type_length tables again t =
    let clauses = clause_fault (type_scope tables t) in
    let points = points_faults (type_scope tables t) (point_names t) [] (points_in t) in
    let repaired = map clauses t.repaired in
    let ensured = map clauses t.ensured in
    omega (
      arith,
      length-append (head_faults again t) (ensured ++ (repaired ++ points)),
      length-append ensured (repaired ++ points),
      length-append repaired points,
      head_length again t,
      length-map t.ensured clauses,
      length-map t.repaired clauses,
      points_length (type_scope tables t) (point_names t) [] (points_in t),
      sum_by-cons point_statements t.first t.others,
    )

types_length : (tables : List TableTree) (earlier : List (List ℕ)) (ts : List TypeTree) →
    length (types_faults tables earlier ts) ≡ sum_by type_statements ts
types_length tables earlier [] = refl
types_length tables earlier (t ∷ ts) =
    let later = earlier ++ t.name ∷ [] in
    omega (
      arith,
      length-append (type_faults tables (stands_in t.name earlier) t) (types_faults tables later ts),
      type_length tables (stands_in t.name earlier) t,
      types_length tables later ts,
      sum_by-cons type_statements t ts,
    )

tables_length : (earlier : List (List ℕ)) (ts : List TableTree) → length (tables_faults earlier ts) ≡ length ts
tables_length earlier [] = refl
tables_length earlier (t ∷ ts) = omega (arith, tables_length (earlier ++ t.name ∷ []) ts)

pub each_told : (d : DesignTree) → length (statement_faults d) ≡ statements_of d
unfolding statements_of
each_told d =
    let hints = map (hint_fault d.types) d.hints in
    let entries = map (entry_fault d.types) d.entries in
    let types = types_faults d.tables [] d.types in
    let always = map (clause_fault (outside d.tables)) d.always in
    omega (
      arith,
      length-append (tables_faults [] d.tables) (always ++ (types ++ (entries ++ hints))),
      length-append always (types ++ (entries ++ hints)),
      length-append types (entries ++ hints),
      length-append entries hints,
      tables_length [] d.tables,
      length-map d.always (clause_fault (outside d.tables)),
      types_length d.tables [] d.types,
      length-map d.entries (entry_fault d.types),
      length-map d.hints (hint_fault d.types),
    )
