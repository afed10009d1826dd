-- What is collected passes no limit but that of numbers.
use Rattle.std.proofs.Common.{◌≡◌, ℕ, ◌+◌, Bool, true, false, List, [], ◌∷◌, ◌++◌, not, Option, Some, None, refl, All}
use Rattle.std.specs.List.{flat_map}
use Rattle.std.proofs.lemmas.List.Elements.{All-nil, All-cons, All-append, All-head, All-tail}
use Rattle.acc_base.specs.Numbers.{is_small}
use Rattle.acc_base.specs.declared.forms.Unknown.{Unknown}
use Rattle.acc_terms.specs.declared.collecting.Terms.{Terms}
use Rattle.acc_parse_syntax.specs.declared.trees.Sum.{Sum}
use Rattle.acc_parse_syntax.specs.declared.trees.Sums.{Sums}
use Rattle.acc_parse_syntax.specs.declared.trees.Place.{Place}
use Rattle.acc_parse_syntax.specs.declared.trees.Names.{Names}
use Rattle.acc_parse_syntax.specs.declared.trees.LinRels.{LinRels}
use Rattle.acc_parse_syntax.specs.declared.trees.Operand.{Operand}
use Rattle.acc_parse_syntax.specs.declared.trees.Operand.TheVariants as operands
use Rattle.acc_parse_syntax.specs.declared.trees.FormTerm.{FormTerm}
use Rattle.acc_parse_syntax.specs.declared.trees.FormTerm.TheVariants as form_terms
use Rattle.acc_parse_syntax.specs.declared.trees.FormTree.{FormTree}
use Rattle.acc_parse_syntax.specs.declared.trees.FormRelTree.{FormRelTree}
use Rattle.acc_parse_syntax.specs.declared.trees.ClauseTree.{ClauseTree}
use Rattle.acc_parse_syntax.specs.declared.trees.TableTree.{TableTree}
use Rattle.acc_parse_syntax.specs.declared.trees.ReadTree.{ReadTree}
use Rattle.acc_parse_syntax.specs.declared.trees.ReadTree.TheVariants as read
use Rattle.acc_parse_syntax.specs.declared.trees.ActionTree.{ActionTree}
use Rattle.acc_parse_syntax.specs.declared.trees.ActionTree.TheVariants as action
use Rattle.acc_parse_syntax.specs.declared.trees.PathTree.{PathTree}
use Rattle.acc_parse_syntax.specs.declared.trees.StepTree.{StepTree}
use Rattle.acc_parse_syntax.specs.declared.trees.PointTree.{PointTree}
use Rattle.acc_parse_syntax.specs.declared.trees.TypeTree.{TypeTree}
use Rattle.acc_parse_syntax.specs.declared.trees.DesignTree.{DesignTree}
use Rattle.acc_base.specs.declared.limits.Limit.{Limit}
use Rattle.acc_base.specs.declared.limits.Limit.TheVariants as limit
use Rattle.acc_parse_limits.specs.Marks.{Mark, Past, End, ending, past}
use Rattle.acc_parse_limits.specs.Faults.{placed}
use Rattle.acc_parse_meaning.specs.Scopes.{Variables, Scope}
use Rattle.acc_parse_meaning.specs.Values.{terms_of, lin_rel_terms, all_sums, all_rels}
use Rattle.acc_parse_meaning.specs.Forms.{rel_terms, all_form_rels, clause_scope}
use Rattle.acc_parse_meaning.specs.Steps.{all_paths}
use Rattle.acc_parse_meaning.specs.Types.{type_scope}
use Rattle.acc_parse_meaning.specs.Designs.{outside, variables_at}
use Rattle.acc_parse_meaning.specs.ClausesSizes.{size_mark, term_sizes, terms_sizes, sum_sizes, sums_sizes, values_sizes, lin_rel_sizes, guard_sizes}
use Rattle.acc_parse_meaning.specs.ClausesSizes.{place_sizes, operand_sizes, form_term_sizes, signed_form_term_sizes, form_sizes, rel_sizes}
use Rattle.acc_parse_meaning.specs.ClausesSizes.{clause_sizes, clause_statement_sizes}
use Rattle.acc_parse_meaning.specs.Sizes.{read_words_sizes, read_sizes, action_words_sizes, action_sizes}
use Rattle.acc_parse_meaning.specs.Sizes.{path_sizes, step_sizes, variant_sizes, point_sizes, names_sizes, type_sizes, table_sizes, entry_sizes}
use Rattle.acc_parse_meaning.specs.Sizes.{hint_sizes, design_sizes, size_faults}
use Rattle.acc_parse_names.specs.Scopes.{points_in}

-- a mark of no limit but that of numbers
abbrev IsSize : Mark → Type 0
IsSize (Past l) = l ≡ limit.NumberSize
IsSize End = Unit {0}

-- only such marks
record AreSizes (ms : List Mark) : Type 0 where
  are : All IsSize ms

nothing : AreSizes []
nothing = record { are = All-nil IsSize }

both : (a b : List Mark) → AreSizes a → AreSizes b → AreSizes (a ++ b)
both a b h k = record { are = All-append IsSize a b h.are k.are }

each : {T : Type 0} (marks : T → List Mark) (xs : List T) → ((x : T) → AreSizes (marks x)) → AreSizes (flat_map marks xs)
each marks [] h = nothing
each marks (x ∷ xs) h = both (marks x) (flat_map marks xs) (h x) (each marks xs h)

end : AreSizes ending
end = record { are = All-cons IsSize End [] tt (All-nil IsSize) }

ended : (a : List Mark) → AreSizes a → AreSizes (a ++ ending)
ended a h = both a ending h end

end_first : (b : List Mark) → AreSizes b → AreSizes (ending ++ b)
end_first b h = both ending b end h

size : (b : Bool) → AreSizes (past limit.NumberSize b)
size true = record { are = All-cons IsSize (Past limit.NumberSize) [] refl (All-nil IsSize) }
size false = nothing

terms : {K : Type 0} (t : Terms K) → AreSizes (terms_sizes t)
terms t = both (flat_map term_sizes t.terms) (size_mark t.constant) (each term_sizes t.terms (λ x. size (not (is_small x.1))))
    (size (not (is_small t.constant)))

sum : (v : Variables) (s : Sum) → AreSizes (sum_sizes v s)
sum v s = terms {K = ℕ} (terms_of v s)

sums : (v : Variables) (ss : Sums) → AreSizes (sums_sizes v ss)
sums v ss = each (sum_sizes v) (all_sums ss) (sum v)

values : (v : Variables) (vs : Option Sums) → AreSizes (values_sizes v vs)
values v None = nothing
values v (Some ss) = sums v ss

guard : (v : Variables) (g : Option LinRels) → AreSizes (guard_sizes v g)
guard v g = each (lin_rel_sizes v) (all_rels g) (λ r. terms {K = ℕ} (lin_rel_terms v r))

place : (s : Scope) (p : Place) → AreSizes (place_sizes s p)
place s p = sums s.variables p.key

operand : (s : Scope) (o : Operand) → AreSizes (operand_sizes s o)
operand s (operands.Variable x) = nothing
operand s (operands.Column c) = place s c.place
operand s (operands.Has p) = place s p
operand s (operands.Count p) = place s p
operand s (operands.Sum c) = place s c.place

form_term : (s : Scope) (t : FormTerm) → AreSizes (form_term_sizes s t)
form_term s (form_terms.Constant n) = nothing
form_term s (form_terms.Plain o) = operand s o
form_term s (form_terms.Product n o) = operand s o

form : (s : Scope) (f : FormTree) → AreSizes (form_sizes s f)
form s f = both (form_term_sizes s f.first) _ (form_term s f.first) (each (signed_form_term_sizes s) f.others (λ t. form_term s t.term))

rel : (s : Scope) (r : FormRelTree) → AreSizes (rel_sizes s r)
rel s r = both (form_sizes s r.left) _ (form s r.left)
    (both (form_sizes s r.right) _ (form s r.right) (terms {K = Unknown} (rel_terms s r)))

clause : (s : Scope) (c : ClauseTree) → AreSizes (clause_statement_sizes s c)
clause s c = ended (clause_sizes s c) (both (flat_map (rel_sizes (clause_scope s c)) (all_form_rels c.guards)) _
    (each (rel_sizes (clause_scope s c)) (all_form_rels c.guards) (rel (clause_scope s c))) (rel (clause_scope s c) c.relation))

read_words : (s : Scope) (r : ReadTree) → AreSizes (read_words_sizes s r)
read_words s (read.Let x v) = sum s.variables v
read_words s (read.Get x c) = place s c.place
read_words s (read.Has x p) = place s p
read_words s (read.Count x p) = place s p
read_words s (read.Sum x c) = place s c.place
read_words s (read.Least x p) = place s p
read_words s (read.Greatest x p) = place s p
read_words s (read.Take x) = nothing
read_words s (read.Mul x a b) = nothing
read_words s (read.Div x a n) = nothing

action_words : (s : Scope) (a : ActionTree) → AreSizes (action_words_sizes s a)
action_words s (action.Put p vs) = both (place_sizes s p) _ (place s p) (values s.variables vs)
action_words s (action.Del p) = place s p
action_words s (action.Set c v) = both (place_sizes s c.place) _ (place s c.place) (sum s.variables v)
action_words s (action.Add c v) = both (place_sizes s c.place) _ (place s c.place) (sum s.variables v)

path : (s : Scope) (p : PathTree) → AreSizes (path_sizes s p)
path s p = both (guard_sizes s.variables p.guard) _ (guard s.variables p.guard)
    (end_first _ (ended (flat_map (action_sizes s) p.actions)
    (each (action_sizes s) p.actions (λ a. ended (action_words_sizes s a) (action_words s a)))))

step : (s : Scope) (st : StepTree) → AreSizes (step_sizes s st)
step s st = end_first _ (both (flat_map (read_sizes s) st.reads) _
    (each (read_sizes s) st.reads (λ r. ended (read_words_sizes s r) (read_words s r))) (each (path_sizes s) (all_paths st) (path s)))

variant : (v : Variables) (x : Option Sum) → AreSizes (variant_sizes v x)
variant v None = nothing
variant v (Some x) = ended (sum_sizes v x) (sum v x)

names : (ns : Option Names) → AreSizes (names_sizes ns)
names None = nothing
names (Some ns) = end

point : (s : Scope) (p : PointTree) → AreSizes (point_sizes s p)
point s p = end_first _ (both (variant_sizes s.variables p.variant) _ (variant s.variables p.variant)
    (both (flat_map (clause_statement_sizes s) p.holds) _ (each (clause_statement_sizes s) p.holds (clause s))
    (both (step_sizes s p.next) (step_sizes s p.undo) (step s p.next) (step s p.undo))))

type_is : (tables : List TableTree) (t : TypeTree) → AreSizes (type_sizes tables t)
type_is tables t =
    let s = type_scope tables t in
    let clauses = clause_statement_sizes s in
    end_first _ (end_first _ (both (names_sizes t.returns) _ (names t.returns) (both (names_sizes t.locals) _ (names t.locals) (
    both (flat_map clauses t.ensured) _ (each clauses t.ensured (clause s)) (
    both (flat_map clauses t.repaired) _ (each clauses t.repaired (clause s)) (each (point_sizes s) (points_in t) (point s)))))))

design : (d : DesignTree) → AreSizes (design_sizes d)
design d =
    let s = outside d.tables in
    both (flat_map table_sizes d.tables) _ (each table_sizes d.tables (λ t. end)) (
    both (flat_map (clause_statement_sizes s) d.always) _ (each (clause_statement_sizes s) d.always (clause s)) (
    both (flat_map (type_sizes d.tables) d.types) _ (each (type_sizes d.tables) d.types (type_is d.tables)) (
    both (flat_map entry_sizes d.entries) _ (each entry_sizes d.entries (λ e. end)) (
    each (hint_sizes d.types) d.hints (λ h. ended (sum_sizes (variables_at d.types h.of) h.value)
    (sum (variables_at d.types h.of) h.value))))))

placed_sizes : (n : ℕ) (ms : List Mark) → All IsSize ms → All (λ (f : ℕ × Limit). f.1 ≡ limit.NumberSize) (placed n ms)
placed_sizes n [] h = All-nil (λ (f : ℕ × Limit). f.1 ≡ limit.NumberSize)
placed_sizes n (Past l ∷ ms) h = All-cons (λ (f : ℕ × Limit). f.1 ≡ limit.NumberSize) (n, l) (placed n ms) (All-head IsSize (Past l) ms h)
    (placed_sizes n ms (All-tail IsSize (Past l) ms h))
placed_sizes n (End ∷ ms) h = placed_sizes (n + 1) ms (All-tail IsSize End ms h)

pub sizes_alone : (d : DesignTree) → All (λ (f : ℕ × Limit). f.1 ≡ limit.NumberSize) (size_faults d)
unfolding size_faults
sizes_alone d = placed_sizes 0 (design_sizes d) (design d).are
