-- What is written of a type, part by part, and of types, one by one.
use Rattle.std.proofs.Common.{◌≡◌, ℕ, ◌+◌, ◌<◌, Bool, List, [], ◌∷◌, ◌++◌, length, map, drop, get_or, ap, sym, ◌∙◌}
use Rattle.std.proofs.lemmas.List.{append-nil}
use Rattle.acc_parse_syntax.specs.declared.trees.TableTree.{TableTree}
use Rattle.acc_parse_syntax.specs.declared.trees.TypeTree.{TypeTree}
use Rattle.acc_parse_names.specs.Names.{stands_in}
use Rattle.acc_parse_names.specs.Scopes.{Scope, locals_of, points_in, point_names}
use Rattle.acc_parse_names.specs.Faults.{clause_fault, points_faults, type_scope, type_faults, types_faults}
use Rattle.acc_parse_names.specs.Bodies.{body_faults}
use Rattle.acc_parse_names.proofs.Turns.{left_at, written, three_parts}

-- the scope of a type has its locals alone
pub type_scope_is : (tables : List TableTree) (t : TypeTree) (locals own : List (List ℕ)) → locals ≡ locals_of t → own ≡ [] →
    record { tables = tables; variables = locals ++ own } ≡ type_scope tables t
type_scope_is tables t locals own l o = let v = ap (λ z. locals ++ z) o ∙ append-nil locals ∙ l in
    λ k. record { tables = tables; variables = v k }

pub body_parts : (tables : List TableTree) (t : TypeTree) (s : Scope) (points : List (List ℕ)) (f0 f1 f2 f3 : List Bool)
    → s ≡ type_scope tables t → points ≡ point_names t → f1 ≡ f0 ++ map (clause_fault s) t.ensured →
    f2 ≡ f1 ++ map (clause_fault s) t.repaired
    → f3 ≡ f2 ++ points_faults s points [] (points_in t) → f3 ≡ f0 ++ body_faults tables t
body_parts tables t s points f0 f1 f2 f3 is p e1 e2 e3 =
    three_parts f0 f1 f2 f3 (map (clause_fault s) t.ensured) (map (clause_fault s) t.repaired) (points_faults s points [] (points_in t))
    e1 e2 e3 ∙
    (λ k. f0 ++ (map (clause_fault (is k)) t.ensured ++
    (map (clause_fault (is k)) t.repaired ++ points_faults (is k) (p k) [] (points_in t))))

pub types_turn : (tables : List TableTree) (names later_names : List (List ℕ)) (trees : List TypeTree) (i : ℕ) (t : TypeTree) (again : Bool)
    (now later all : List Bool)
    → i < length trees → t ≡ get_or trees i t → again ≡ stands_in t.name names → later_names ≡ names ++ t.name ∷ [] →
    later ≡ now ++ type_faults tables again t
    → now ++ types_faults tables names (drop i trees) ≡ all → later ++ types_faults tables later_names (drop (i + 1) trees) ≡ all
types_turn tables names later_names trees i t again now later all lt is a n l told =
    written now later (type_faults tables again t) (types_faults tables names (drop i trees))
    (types_faults tables later_names (drop (i + 1) trees)) all l
    (ap (types_faults tables names) (left_at trees i t lt is) ∙
    (λ k. type_faults tables (sym a k) t ++ types_faults tables (sym n k) (drop (i + 1) trees))) told
