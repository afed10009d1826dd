-- Faults of names, statement by statement: whether a statement defines a name a second time, or uses one that isn't defined.
use Rattle.std.specs.Prelude.{ℕ, Bool, true, false, not, ◌||◌, List, [], ◌∷◌, ◌++◌, map, flat_map, Option, Some, None, position, is_none}
use Rattle.std.specs.List.{list_any}
use Rattle.acc_parse_syntax.specs.declared.trees.Variable.{Variable}
use Rattle.acc_parse_syntax.specs.declared.trees.Variable.TheVariants.{Named, Oneself}
use Rattle.acc_parse_syntax.specs.declared.trees.Term.{Term}
use Rattle.acc_parse_syntax.specs.declared.trees.Term.TheVariants.{Constant, Plain, Product}
use Rattle.acc_parse_syntax.specs.declared.trees.SignedTerm.{SignedTerm}
use Rattle.acc_parse_syntax.specs.declared.trees.Sum.{Sum}
use Rattle.acc_parse_syntax.specs.declared.trees.Sums.{Sums}
use Rattle.acc_parse_syntax.specs.declared.trees.Place.{Place}
use Rattle.acc_parse_syntax.specs.declared.trees.Cell.{Cell}
use Rattle.acc_parse_syntax.specs.declared.trees.LinRelTree.{LinRelTree}
use Rattle.acc_parse_syntax.specs.declared.trees.LinRels.{LinRels}
use Rattle.acc_parse_syntax.specs.declared.trees.Operand.{Operand}
use Rattle.acc_parse_syntax.specs.declared.trees.Operand.TheVariants as operands
use Rattle.acc_parse_syntax.specs.declared.trees.FormTerm.{FormTerm}
use Rattle.acc_parse_syntax.specs.declared.trees.FormTerm.TheVariants as form_terms
use Rattle.acc_parse_syntax.specs.declared.trees.SignedFormTerm.{SignedFormTerm}
use Rattle.acc_parse_syntax.specs.declared.trees.FormTree.{FormTree}
use Rattle.acc_parse_syntax.specs.declared.trees.FormRelTree.{FormRelTree}
use Rattle.acc_parse_syntax.specs.declared.trees.FormRels.{FormRels}
use Rattle.acc_parse_syntax.specs.declared.trees.ClauseTree.{ClauseTree}
use Rattle.acc_parse_syntax.specs.declared.trees.TableTree.{TableTree}
use Rattle.acc_parse_syntax.specs.declared.trees.ReadTree.{ReadTree}
use Rattle.acc_parse_syntax.specs.declared.trees.ReadTree.TheVariants as read
use Rattle.acc_parse_syntax.specs.declared.trees.ActionTree.{ActionTree}
use Rattle.acc_parse_syntax.specs.declared.trees.ActionTree.TheVariants as action
use Rattle.acc_parse_syntax.specs.declared.trees.TargetTree.{TargetTree}
use Rattle.acc_parse_syntax.specs.declared.trees.TargetTree.TheVariants as target
use Rattle.acc_parse_syntax.specs.declared.trees.PathTree.{PathTree}
use Rattle.acc_parse_syntax.specs.declared.trees.StepTree.{StepTree}
use Rattle.acc_parse_syntax.specs.declared.trees.PointTree.{PointTree}
use Rattle.acc_parse_syntax.specs.declared.trees.TypeTree.{TypeTree}
use Rattle.acc_parse_syntax.specs.declared.trees.PointName.{PointName}
use Rattle.acc_parse_syntax.specs.declared.trees.PairTree.{PairTree}
use Rattle.acc_parse_syntax.specs.declared.trees.Pairs.{Pairs}
use Rattle.acc_parse_syntax.specs.declared.trees.EntryTree.{EntryTree}
use Rattle.acc_parse_syntax.specs.declared.trees.HintTree.{HintTree}
use Rattle.acc_parse_syntax.specs.declared.trees.Names.{Names}
use Rattle.acc_parse_syntax.specs.declared.trees.DesignTree.{DesignTree}
use Rattle.acc_parse_names.specs.Least.{marked_from}
use Rattle.acc_parse_names.specs.Names.{stands_in, defines_again, listed, listed_or_none}
use Rattle.acc_parse_names.specs.Scopes.{Scope, columns_of, locals_of, points_in, point_names, type_named}

-- ---- values: their variables are defined; `self` always is

abbrev pub variable_fault : List (List ℕ) → Variable → Bool
variable_fault variables (Named x) = not (stands_in x variables)
variable_fault variables Oneself = false

abbrev pub term_fault : List (List ℕ) → Term → Bool
term_fault variables (Constant n) = false
term_fault variables (Plain x) = variable_fault variables x
term_fault variables (Product n x) = variable_fault variables x

abbrev pub sum_fault : List (List ℕ) → Sum → Bool
sum_fault variables v = term_fault variables v.first || list_any (λ (t : SignedTerm). term_fault variables t.term) v.others

abbrev pub sums_fault : List (List ℕ) → Sums → Bool
sums_fault variables vs = sum_fault variables vs.first || list_any (sum_fault variables) vs.others

abbrev pub values_fault : List (List ℕ) → Option Sums → Bool
values_fault variables None = false
values_fault variables (Some vs) = sums_fault variables vs

abbrev pub lin_rel_fault : List (List ℕ) → LinRelTree → Bool
lin_rel_fault variables r = sum_fault variables r.left || sum_fault variables r.right

abbrev pub guard_fault : List (List ℕ) → Option LinRels → Bool
guard_fault variables None = false
guard_fault variables (Some rs) = lin_rel_fault variables rs.first || list_any (lin_rel_fault variables) rs.others

-- ---- rows: their table is defined, and so are the variables of their key

abbrev pub place_fault : Scope → Place → Bool
place_fault s p = is_none (columns_of s.tables p.table) || sums_fault s.variables p.key

abbrev pub column_fault : Option (List (List ℕ)) → List ℕ → Bool
column_fault None x = true
column_fault (Some columns) x = not (stands_in x columns)

abbrev pub cell_fault : Scope → Cell → Bool
cell_fault s c = place_fault s c.place || column_fault (columns_of s.tables c.place.table) c.column

-- ---- clauses

abbrev pub operand_fault : Scope → Operand → Bool
operand_fault s (operands.Variable x) = variable_fault s.variables x
operand_fault s (operands.Column c) = cell_fault s c
operand_fault s (operands.Has p) = place_fault s p
operand_fault s (operands.Count p) = place_fault s p
operand_fault s (operands.Sum c) = cell_fault s c

abbrev pub form_term_fault : Scope → FormTerm → Bool
form_term_fault s (form_terms.Constant n) = false
form_term_fault s (form_terms.Plain o) = operand_fault s o
form_term_fault s (form_terms.Product n o) = operand_fault s o

abbrev pub form_fault : Scope → FormTree → Bool
form_fault s f = form_term_fault s f.first || list_any (λ (t : SignedFormTerm). form_term_fault s t.term) f.others

abbrev pub form_rel_fault : Scope → FormRelTree → Bool
form_rel_fault s r = form_fault s r.left || form_fault s r.right

abbrev pub premises_fault : Scope → Option FormRels → Bool
premises_fault s None = false
premises_fault s (Some rs) = form_rel_fault s rs.first || list_any (form_rel_fault s) rs.others

-- the scope with the variables of a clause
abbrev pub clause_scope : Scope → ClauseTree → Scope
clause_scope s c = record { tables = s.tables; variables = s.variables ++ listed_or_none c.variables }

-- a variable of `forall` is new, and what the clause uses is defined
abbrev pub clause_fault : Scope → ClauseTree → Bool
clause_fault s c =
    defines_again s.variables (listed_or_none c.variables)
    || (premises_fault (clause_scope s c) c.guards || form_rel_fault (clause_scope s c) c.relation)

-- ---- steps

abbrev pub read_fault : Scope → ReadTree → Bool
read_fault s (read.Let x v) = variable_fault s.variables x || sum_fault s.variables v
read_fault s (read.Get x c) = variable_fault s.variables x || cell_fault s c
read_fault s (read.Has x p) = variable_fault s.variables x || place_fault s p
read_fault s (read.Count x p) = variable_fault s.variables x || place_fault s p
read_fault s (read.Sum x c) = variable_fault s.variables x || cell_fault s c
read_fault s (read.Least x p) = variable_fault s.variables x || place_fault s p
read_fault s (read.Greatest x p) = variable_fault s.variables x || place_fault s p
read_fault s (read.Take x) = variable_fault s.variables x
read_fault s (read.Mul x a b) = variable_fault s.variables x || (variable_fault s.variables a || variable_fault s.variables b)
read_fault s (read.Div x a n) = variable_fault s.variables x || variable_fault s.variables a

abbrev pub action_fault : Scope → ActionTree → Bool
action_fault s (action.Put p vs) = place_fault s p || values_fault s.variables vs
action_fault s (action.Del p) = place_fault s p
action_fault s (action.Set c v) = cell_fault s c || sum_fault s.variables v
action_fault s (action.Add c v) = cell_fault s c || sum_fault s.variables v

-- `goto` names a point of the type, also a later one
abbrev pub target_fault : List (List ℕ) → TargetTree → Bool
target_fault points (target.Goto x) = not (stands_in x points)
target_fault points target.Commit = false
target_fault points target.Undone = false
target_fault points (target.Refuse n) = false

-- ---- the statements of the parts of a type: whether each has a fault

-- `path` with its guard, the actions, the target
abbrev pub path_faults : Scope → List (List ℕ) → PathTree → List Bool
path_faults s points p = guard_fault s.variables p.guard ∷ (map (action_fault s) p.actions ++ (target_fault points p.target ∷ []))

-- the word `next` or `undo`, the reads, the paths
abbrev pub step_faults : Scope → List (List ℕ) → StepTree → List Bool
step_faults s points st =
    false ∷ (map (read_fault s) st.reads ++ (path_faults s points st.first ++ flat_map (path_faults s points) st.others))

abbrev pub variant_faults : List (List ℕ) → Option Sum → List Bool
variant_faults variables None = []
variant_faults variables (Some v) = sum_fault variables v ∷ []

-- `point` with its name, whether that is given again, `variant`, what holds, the steps
abbrev pub point_faults : Scope → List (List ℕ) → Bool → PointTree → List Bool
point_faults s points again p =
    again ∷ (variant_faults s.variables p.variant
    ++ (map (clause_fault s) p.holds ++ (step_faults s points p.next ++ step_faults s points p.undo)))

-- the points behind those of the earlier names
abbrev pub points_faults : Scope → List (List ℕ) → List (List ℕ) → List PointTree → List Bool
points_faults s points earlier [] = []
points_faults s points earlier (p ∷ ps) =
    point_faults s points (stands_in p.name earlier) p ++ points_faults s points (earlier ++ p.name ∷ []) ps

-- `returns` names locals, also ones that `local` declares behind it
abbrev pub returns_faults : List (List ℕ) → Option Names → List Bool
returns_faults locals None = []
returns_faults locals (Some ns) = list_any (λ x. not (stands_in x locals)) (listed ns) ∷ []

-- `local` names new locals
abbrev pub locals_faults : List (List ℕ) → Option Names → List Bool
locals_faults params None = []
locals_faults params (Some ns) = defines_again params (listed ns) ∷ []

-- `type` with its name, whether that is given again, and its parameters; `limit`, `returns`, `local`
abbrev pub head_faults : Bool → TypeTree → List Bool
head_faults again t =
    (again || defines_again [] t.params) ∷ (false ∷ (returns_faults (locals_of t) t.returns ++ locals_faults t.params t.locals))

abbrev pub type_scope : List TableTree → TypeTree → Scope
type_scope tables t = record { tables = tables; variables = locals_of t }

-- the head, what is ensured and repaired, the points
abbrev pub type_faults : List TableTree → Bool → TypeTree → List Bool
type_faults tables again t =
    head_faults again t ++ (map (clause_fault (type_scope tables t)) t.ensured
    ++ (map (clause_fault (type_scope tables t)) t.repaired ++ points_faults (type_scope tables t) (point_names t) [] (points_in t)))

-- the types behind those of the earlier names
abbrev pub types_faults : List TableTree → List (List ℕ) → List TypeTree → List Bool
types_faults tables earlier [] = []
types_faults tables earlier (t ∷ ts) = type_faults tables (stands_in t.name earlier) t ++ types_faults tables (earlier ++ t.name ∷ []) ts

-- ---- tables, entries, hints

-- the tables behind those of the earlier names: the name is new, and so is each column
abbrev pub tables_faults : List (List ℕ) → List TableTree → List Bool
tables_faults earlier [] = []
tables_faults earlier (t ∷ ts) = (stands_in t.name earlier || defines_again [] t.columns) ∷ tables_faults (earlier ++ t.name ∷ []) ts

-- the type is defined, and the point is one of it
abbrev pub point_of_type_fault : Option TypeTree → List ℕ → Bool
point_of_type_fault None x = true
point_of_type_fault (Some t) x = not (stands_in x (point_names t))

abbrev pub point_name_fault : List TypeTree → PointName → Bool
point_name_fault types p = point_of_type_fault (type_named types p.type_name) p.point

abbrev pub locals_or_none : Option TypeTree → List (List ℕ)
locals_or_none None = []
locals_or_none (Some t) = locals_of t

-- the locals of the type of a point
abbrev pub locals_at : List TypeTree → PointName → List (List ℕ)
locals_at types p = locals_or_none (type_named types p.type_name)

abbrev pub pair_fault : List (List ℕ) → List (List ℕ) → PairTree → Bool
pair_fault held step p = variable_fault held p.held || variable_fault step p.step

abbrev pub pairs_fault : List (List ℕ) → List (List ℕ) → Option Pairs → Bool
pairs_fault held step None = false
pairs_fault held step (Some ps) = pair_fault held step ps.first || list_any (pair_fault held step) ps.others

abbrev pub entry_fault : List TypeTree → EntryTree → Bool
entry_fault types e =
    point_name_fault types e.held || (point_name_fault types e.by || pairs_fault (locals_at types e.held) (locals_at types e.by) e.pairs)

abbrev pub hint_fault : List TypeTree → HintTree → Bool
hint_fault types h = point_name_fault types h.of || sum_fault (locals_at types h.of) h.value

-- ---- the whole design

-- `always` clauses stand outside types: they have their own variables alone
abbrev pub outside : List TableTree → Scope
outside tables = record { tables = tables; variables = [] }

-- for each statement, in the order of the text, whether it has a fault of names
abbrev pub statement_faults : DesignTree → List Bool
statement_faults d =
    tables_faults [] d.tables ++ (map (clause_fault (outside d.tables)) d.always
    ++ (types_faults d.tables [] d.types ++ (map (entry_fault d.types) d.entries ++ map (hint_fault d.types) d.hints)))

-- the numbers of the statements with a fault of names, from 0
abbrev pub name_faults : DesignTree → List ℕ
name_faults d = marked_from 0 (statement_faults d)

-- the number of the first statement with a fault of names, from 0
abbrev pub first_fault_of : DesignTree → Option ℕ
first_fault_of d = position (λ fault. fault) (statement_faults d)
