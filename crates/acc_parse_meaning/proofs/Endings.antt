-- In the marks of a design's collected numbers as many statements end as it has.
use Rattle.std.proofs.Common.{◌≡◌, ℕ, ◌+◌, List, [], ◌∷◌, ◌++◌, length, not, Option, Some, None, ℤ, arith}
use Rattle.std.specs.Prelude.{sum_by}
use Rattle.std.specs.List.{flat_map}
use Rattle.std.proofs.lemmas.List.Sums.{sum_by-cons}
use Rattle.acc_base.specs.Numbers.{is_small}
use Rattle.acc_base.specs.declared.forms.Unknown.{Unknown}
use Rattle.acc_terms.specs.declared.collecting.Terms.{Terms}
use Rattle.acc_parse_syntax.specs.declared.trees.Sum.{Sum}
use Rattle.acc_parse_syntax.specs.declared.trees.Sums.{Sums}
use Rattle.acc_parse_syntax.specs.declared.trees.Place.{Place}
use Rattle.acc_parse_syntax.specs.declared.trees.Names.{Names}
use Rattle.acc_parse_syntax.specs.declared.trees.LinRels.{LinRels}
use Rattle.acc_parse_syntax.specs.declared.trees.Operand.{Operand}
use Rattle.acc_parse_syntax.specs.declared.trees.Operand.TheVariants as operands
use Rattle.acc_parse_syntax.specs.declared.trees.FormTerm.{FormTerm}
use Rattle.acc_parse_syntax.specs.declared.trees.FormTerm.TheVariants as form_terms
use Rattle.acc_parse_syntax.specs.declared.trees.FormTree.{FormTree}
use Rattle.acc_parse_syntax.specs.declared.trees.FormRelTree.{FormRelTree}
use Rattle.acc_parse_syntax.specs.declared.trees.ClauseTree.{ClauseTree}
use Rattle.acc_parse_syntax.specs.declared.trees.TableTree.{TableTree}
use Rattle.acc_parse_syntax.specs.declared.trees.ReadTree.{ReadTree}
use Rattle.acc_parse_syntax.specs.declared.trees.ReadTree.TheVariants as read
use Rattle.acc_parse_syntax.specs.declared.trees.ActionTree.{ActionTree}
use Rattle.acc_parse_syntax.specs.declared.trees.ActionTree.TheVariants as action
use Rattle.acc_parse_syntax.specs.declared.trees.PathTree.{PathTree}
use Rattle.acc_parse_syntax.specs.declared.trees.StepTree.{StepTree}
use Rattle.acc_parse_syntax.specs.declared.trees.PointTree.{PointTree}
use Rattle.acc_parse_syntax.specs.declared.trees.TypeTree.{TypeTree}
use Rattle.acc_parse_syntax.specs.declared.trees.HintTree.{HintTree}
use Rattle.acc_parse_syntax.specs.declared.trees.DesignTree.{DesignTree}
use Rattle.acc_parse_statements.specs.Counts.{if_there, path_statements, step_statements, point_statements, type_statements, statements_of}
use Rattle.acc_base.specs.declared.limits.Limit.TheVariants as limit
use Rattle.acc_parse_limits.specs.Marks.{Mark, ending}
use Rattle.acc_parse_limits.proofs.WordEndings.{endings, HasEndings, no_marks, behind, past_part, end_then, end_last, passed, each_none}
use Rattle.acc_parse_clauses.specs.Scopes.{Variables, Scope}
use Rattle.acc_parse_clauses.specs.Values.{terms_of, lin_rel_terms, all_sums, all_rels}
use Rattle.acc_parse_clauses.specs.Forms.{rel_terms, all_form_rels, clause_scope}
use Rattle.acc_parse_meaning.specs.Steps.{all_paths}
use Rattle.acc_parse_meaning.specs.Types.{type_scope}
use Rattle.acc_parse_meaning.specs.Designs.{outside, variables_at}
use Rattle.acc_parse_clauses.specs.Sizes.{size_mark, term_sizes, terms_sizes, sum_sizes, sums_sizes, values_sizes, lin_rel_sizes, guard_sizes}
use Rattle.acc_parse_clauses.specs.Sizes.{place_sizes, operand_sizes, form_term_sizes, signed_form_term_sizes, form_sizes, rel_sizes}
use Rattle.acc_parse_clauses.specs.Sizes.{clause_sizes, clause_statement_sizes}
use Rattle.acc_parse_meaning.specs.Sizes.{read_words_sizes, read_sizes, action_words_sizes, action_sizes}
use Rattle.acc_parse_meaning.specs.Sizes.{path_sizes, step_sizes, variant_sizes, point_sizes, names_sizes, type_sizes, table_sizes, entry_sizes}
use Rattle.acc_parse_meaning.specs.Sizes.{hint_sizes, design_sizes}

-- ---- items, one behind another

each_sum : {T : Type 0} (marks : T → List Mark) (count : T → ℕ) (xs : List T) → ((x : T) → HasEndings (count x) (marks x)) →
    HasEndings (sum_by count xs) (flat_map marks xs)
each_sum marks count [] h = no_marks
each_sum marks count (x ∷ xs) h =
    let whole = behind (count x) (sum_by count xs) (marks x) (flat_map marks xs) (h x) (each_sum marks count xs h) in
    record { is = omega (arith, whole.is, sum_by-cons count x xs) }

each_one : {T : Type 0} (marks : T → List Mark) (xs : List T) → ((x : T) → HasEndings 1 (marks x)) →
    HasEndings (length xs) (flat_map marks xs)
each_one marks [] h = no_marks
each_one marks (x ∷ xs) h =
    let whole = behind 1 (length xs) (marks x) (flat_map marks xs) (h x) (each_one marks xs h) in
    record { is = omega (arith, whole.is) }

-- what stands within a statement, and its end
ended : (a : List Mark) → HasEndings 0 a → HasEndings 1 (a ++ ending)
ended a h = past_part 1 a ending h end_last

-- ---- within statements nothing ends

size_none : (n : ℤ) → HasEndings 0 (size_mark n)
size_none n = passed limit.NumberSize (not (is_small n))

terms_none : {K : Type 0} (t : Terms K) → HasEndings 0 (terms_sizes t)
terms_none t = past_part 0 (flat_map term_sizes t.terms) (size_mark t.constant) (each_none term_sizes t.terms (λ x. size_none x.1))
    (size_none t.constant)

sum_none : (v : Variables) (s : Sum) → HasEndings 0 (sum_sizes v s)
sum_none v s = terms_none {K = ℕ} (terms_of v s)

sums_none : (v : Variables) (ss : Sums) → HasEndings 0 (sums_sizes v ss)
sums_none v ss = each_none (sum_sizes v) (all_sums ss) (sum_none v)

values_none : (v : Variables) (vs : Option Sums) → HasEndings 0 (values_sizes v vs)
values_none v None = no_marks
values_none v (Some ss) = sums_none v ss

guard_none : (v : Variables) (g : Option LinRels) → HasEndings 0 (guard_sizes v g)
guard_none v g = each_none (lin_rel_sizes v) (all_rels g) (λ r. terms_none {K = ℕ} (lin_rel_terms v r))

place_none : (s : Scope) (p : Place) → HasEndings 0 (place_sizes s p)
place_none s p = sums_none s.variables p.key

operand_none : (s : Scope) (o : Operand) → HasEndings 0 (operand_sizes s o)
operand_none s (operands.Variable x) = no_marks
operand_none s (operands.Column c) = place_none s c.place
operand_none s (operands.Has p) = place_none s p
operand_none s (operands.Count p) = place_none s p
operand_none s (operands.Sum c) = place_none s c.place

form_term_none : (s : Scope) (t : FormTerm) → HasEndings 0 (form_term_sizes s t)
form_term_none s (form_terms.Constant n) = no_marks
form_term_none s (form_terms.Plain o) = operand_none s o
form_term_none s (form_terms.Product n o) = operand_none s o

form_none : (s : Scope) (f : FormTree) → HasEndings 0 (form_sizes s f)
form_none s f = past_part 0 (form_term_sizes s f.first) _ (form_term_none s f.first)
    (each_none (signed_form_term_sizes s) f.others (λ t. form_term_none s t.term))

rel_none : (s : Scope) (r : FormRelTree) → HasEndings 0 (rel_sizes s r)
rel_none s r = past_part 0 (form_sizes s r.left) _ (form_none s r.left)
    (past_part 0 (form_sizes s r.right) _ (form_none s r.right) (terms_none {K = Unknown} (rel_terms s r)))

clause_none : (s : Scope) (c : ClauseTree) → HasEndings 0 (clause_sizes s c)
clause_none s c = past_part 0 _ _ (each_none (rel_sizes (clause_scope s c)) (all_form_rels c.guards) (rel_none (clause_scope s c)))
    (rel_none (clause_scope s c) c.relation)

read_none : (s : Scope) (r : ReadTree) → HasEndings 0 (read_words_sizes s r)
read_none s (read.Let x v) = sum_none s.variables v
read_none s (read.Get x c) = place_none s c.place
read_none s (read.Has x p) = place_none s p
read_none s (read.Count x p) = place_none s p
read_none s (read.Sum x c) = place_none s c.place
read_none s (read.Least x p) = place_none s p
read_none s (read.Greatest x p) = place_none s p
read_none s (read.Take x) = no_marks
read_none s (read.Mul x a b) = no_marks
read_none s (read.Div x a n) = no_marks

action_none : (s : Scope) (a : ActionTree) → HasEndings 0 (action_words_sizes s a)
action_none s (action.Put p vs) = past_part 0 (place_sizes s p) _ (place_none s p) (values_none s.variables vs)
action_none s (action.Del p) = place_none s p
action_none s (action.Set c v) = past_part 0 (place_sizes s c.place) _ (place_none s c.place) (sum_none s.variables v)
action_none s (action.Add c v) = past_part 0 (place_sizes s c.place) _ (place_none s c.place) (sum_none s.variables v)

-- ---- each statement ends once

clause_one : (s : Scope) (c : ClauseTree) → HasEndings 1 (clause_statement_sizes s c)
clause_one s c = ended (clause_sizes s c) (clause_none s c)

read_one : (s : Scope) (r : ReadTree) → HasEndings 1 (read_sizes s r)
read_one s r = ended (read_words_sizes s r) (read_none s r)

action_one : (s : Scope) (a : ActionTree) → HasEndings 1 (action_sizes s a)
action_one s a = ended (action_words_sizes s a) (action_none s a)

hint_one : (types : List TypeTree) (h : HintTree) → HasEndings 1 (hint_sizes types h)
hint_one types h = ended (sum_sizes (variables_at types h.of) h.value) (sum_none (variables_at types h.of) h.value)

names_endings : (ns : Option Names) → HasEndings (if_there ns) (names_sizes ns)
names_endings None = no_marks
names_endings (Some ns) = end_last

variant_endings : (v : Variables) (s : Option Sum) → HasEndings (if_there s) (variant_sizes v s)
variant_endings v None = no_marks
variant_endings v (Some s) = ended (sum_sizes v s) (sum_none v s)

-- ---- the parts of a type

path_endings : (s : Scope) (p : PathTree) → HasEndings (path_statements p) (path_sizes s p)
path_endings s p =
    let rest = behind (length p.actions) 1 (flat_map (action_sizes s) p.actions) ending (each_one (action_sizes s) p.actions (action_one s))
    end_last in
    let whole = past_part (1 + (length p.actions + 1)) (guard_sizes s.variables p.guard) _ (guard_none s.variables p.guard)
    (end_then (length p.actions + 1) _ rest) in
    record { is = omega (arith, whole.is) }

step_endings : (s : Scope) (st : StepTree) → HasEndings (step_statements st) (step_sizes s st)
step_endings s st =
    let paths = each_sum (path_sizes s) path_statements (all_paths st) (path_endings s) in
    let reads = behind (length st.reads) _ (flat_map (read_sizes s) st.reads) _ (each_one (read_sizes s) st.reads (read_one s)) paths in
    let whole = end_then _ _ reads in
    record { is = omega (arith, whole.is, sum_by-cons path_statements st.first st.others) }

point_endings : (s : Scope) (p : PointTree) → HasEndings (point_statements p) (point_sizes s p)
point_endings s p =
    let steps = behind (step_statements p.next) (step_statements p.undo) (step_sizes s p.next) (step_sizes s p.undo) (step_endings s p.next)
    (step_endings s p.undo) in
    let holds = behind (length p.holds) _ (flat_map (clause_statement_sizes s) p.holds) _
    (each_one (clause_statement_sizes s) p.holds (clause_one s)) steps in
    let rest = behind (if_there p.variant) _ (variant_sizes s.variables p.variant) _ (variant_endings s.variables p.variant) holds in
    let whole = end_then _ _ rest in
    record { is = omega (arith, whole.is) }

type_endings : (tables : List TableTree) (t : TypeTree) → HasEndings (type_statements t) (type_sizes tables t)
type_endings tables t =
    let s = type_scope tables t in
    let points = each_sum (point_sizes s) point_statements (t.first ∷ t.others) (point_endings s) in
    let repaired = behind (length t.repaired) _ (flat_map (clause_statement_sizes s) t.repaired) _
    (each_one (clause_statement_sizes s) t.repaired (clause_one s)) points in
    let ensured = behind (length t.ensured) _ (flat_map (clause_statement_sizes s) t.ensured) _
    (each_one (clause_statement_sizes s) t.ensured (clause_one s)) repaired in
    let locals = behind (if_there t.locals) _ (names_sizes t.locals) _ (names_endings t.locals) ensured in
    let returns = behind (if_there t.returns) _ (names_sizes t.returns) _ (names_endings t.returns) locals in
    let whole = end_then _ _ (end_then _ _ returns) in
    record { is = omega (arith, whole.is, sum_by-cons point_statements t.first t.others) }

pub design_endings : (d : DesignTree) → endings (design_sizes d) ≡ statements_of d
unfolding statements_of
design_endings d =
    let s = outside d.tables in
    let hints = each_one (hint_sizes d.types) d.hints (hint_one d.types) in
    let entries = behind (length d.entries) _ (flat_map entry_sizes d.entries) _ (each_one entry_sizes d.entries (λ e. end_last)) hints in
    let types = behind (sum_by type_statements d.types) _ (flat_map (type_sizes d.tables) d.types) _
    (each_sum (type_sizes d.tables) type_statements d.types (type_endings d.tables)) entries in
    let always = behind (length d.always) _ (flat_map (clause_statement_sizes s) d.always) _
    (each_one (clause_statement_sizes s) d.always (clause_one s)) types in
    let whole = behind (length d.tables) _ (flat_map table_sizes d.tables) _ (each_one table_sizes d.tables (λ t. end_last)) always in
    omega (arith, whole.is)
