-- A design's words are whole statements.
use Rattle.std.proofs.Common.{◌≡◌, ℕ, Bool, true, false, cond, Option, Some, None, List, [], ◌∷◌, ◌++◌, refl, sym, subst, append_assoc}
use Rattle.acc_grammar.specs.Readers.{joined}
use Rattle.acc_lex.specs.declared.words.Sign.{Sign}
use Rattle.acc_lex.specs.declared.words.Sign.TheVariants as sign
use Rattle.acc_lex.specs.declared.words.Word.{Word}
use Rattle.acc_lex.proofs.StatementWords.{is_end_sign, InStatements, in_both}
use Rattle.acc_parse_syntax.specs.declared.trees.Variable.{Variable}
use Rattle.acc_parse_syntax.specs.declared.trees.Variable.TheVariants.{Named, Oneself}
use Rattle.acc_parse_syntax.specs.declared.trees.Term.{Term}
use Rattle.acc_parse_syntax.specs.declared.trees.Term.TheVariants.{Constant, Plain, Product}
use Rattle.acc_parse_syntax.specs.declared.trees.SignedTerm.{SignedTerm}
use Rattle.acc_parse_syntax.specs.declared.trees.Sum.{Sum}
use Rattle.acc_parse_syntax.specs.declared.trees.Sums.{Sums}
use Rattle.acc_parse_syntax.specs.declared.trees.Place.{Place}
use Rattle.acc_parse_syntax.specs.declared.trees.Cell.{Cell}
use Rattle.acc_parse_syntax.specs.declared.trees.Names.{Names}
use Rattle.acc_parse_syntax.specs.declared.trees.Relation.{Relation}
use Rattle.acc_parse_syntax.specs.declared.trees.Relation.TheVariants as relation
use Rattle.acc_parse_syntax.specs.declared.trees.LinRelTree.{LinRelTree}
use Rattle.acc_parse_syntax.specs.declared.trees.LinRels.{LinRels}
use Rattle.acc_parse_syntax.specs.declared.trees.Operand.{Operand}
use Rattle.acc_parse_syntax.specs.declared.trees.Operand.TheVariants as operands
use Rattle.acc_parse_syntax.specs.declared.trees.FormTerm.{FormTerm}
use Rattle.acc_parse_syntax.specs.declared.trees.FormTerm.TheVariants as form_terms
use Rattle.acc_parse_syntax.specs.declared.trees.SignedFormTerm.{SignedFormTerm}
use Rattle.acc_parse_syntax.specs.declared.trees.FormTree.{FormTree}
use Rattle.acc_parse_syntax.specs.declared.trees.FormRelTree.{FormRelTree}
use Rattle.acc_parse_syntax.specs.declared.trees.FormRels.{FormRels}
use Rattle.acc_parse_syntax.specs.declared.trees.ClauseTree.{ClauseTree}
use Rattle.acc_parse_syntax.specs.declared.trees.TableTree.{TableTree}
use Rattle.acc_parse_syntax.specs.declared.trees.ReadTree.{ReadTree}
use Rattle.acc_parse_syntax.specs.declared.trees.ReadTree.TheVariants as read
use Rattle.acc_parse_syntax.specs.declared.trees.ActionTree.{ActionTree}
use Rattle.acc_parse_syntax.specs.declared.trees.ActionTree.TheVariants as action
use Rattle.acc_parse_syntax.specs.declared.trees.TargetTree.{TargetTree}
use Rattle.acc_parse_syntax.specs.declared.trees.TargetTree.TheVariants as target
use Rattle.acc_parse_syntax.specs.declared.trees.PathTree.{PathTree}
use Rattle.acc_parse_syntax.specs.declared.trees.StepTree.{StepTree}
use Rattle.acc_parse_syntax.specs.declared.trees.PointTree.{PointTree}
use Rattle.acc_parse_syntax.specs.declared.trees.TypeTree.{TypeTree}
use Rattle.acc_parse_syntax.specs.declared.trees.SideTree.{SideTree}
use Rattle.acc_parse_syntax.specs.declared.trees.SideTree.TheVariants as side_tree
use Rattle.acc_parse_syntax.specs.declared.trees.PointName.{PointName}
use Rattle.acc_parse_syntax.specs.declared.trees.PairTree.{PairTree}
use Rattle.acc_parse_syntax.specs.declared.trees.Pairs.{Pairs}
use Rattle.acc_parse_syntax.specs.declared.trees.EntryTree.{EntryTree}
use Rattle.acc_parse_syntax.specs.declared.trees.HintTree.{HintTree}
use Rattle.acc_parse_syntax.specs.declared.trees.DesignTree.{DesignTree}
use Rattle.acc_parse_syntax.specs.Spelling.{just, name, number, names, further, variable, term, signed_term, sum, sums, place, cell}
use Rattle.acc_parse_syntax.specs.Spelling.{relation_sign, lin_rel, guard, operand, form_term, signed_form_term, form, form_rel, form_rels}
use Rattle.acc_parse_syntax.specs.Spelling.{binder, premises, clause, clause_statement, table, read_statement, values, action_statement}
use Rattle.acc_parse_syntax.specs.Spelling.{target_statement, names_statement, variant_statement, side_sign, point_name, pair, pairs, entry, hint}
use Rattle.acc_parse_syntax.specs.Spelling.{path, step, side, point, limit, type_words, spelled_design}

-- ---- words within a statement

-- whatever ends the statement may stand behind them
record Within (ws : List Word) : Type 0 where
  pub at : (rest : List Word) → InStatements false rest → InStatements false (ws ++ rest)

-- the rest of a statement, and whole ones
record Ends (ws : List Word) : Type 0 where
  pub is : InStatements false ws

-- whole statements
record Whole (ws : List Word) : Type 0 where
  pub is : InStatements true ws

none_within : Within []
none_within = record { at = λ rest h. h }

both_within : {a b : List Word} → Within a → Within b → Within (a ++ b)
both_within {a} {b} p q = record {
  at = λ rest h. subst (InStatements false) (sym (append_assoc a b rest)) (p.at (b ++ rest) (q.at rest h));
}

joined_within : {T : Type 0} (spell : T → List Word) → ((t : T) → Within (spell t)) → (ts : List T) → Within (joined spell ts)
joined_within spell each [] = none_within
joined_within spell each (t ∷ ts) = both_within (each t) (joined_within spell each ts)

just_within : (s : Sign) → is_end_sign s ≡ false → Within (just s)
just_within s e = record { at = λ rest h. rw e h }

name_within : (x : List ℕ) → Within (name x)
name_within x = record { at = λ rest h. h }

number_within : (n : ℕ) → Within (number n)
number_within n = record { at = λ rest h. h }

further_within : {T : Type 0} (spell : T → List Word) → ((t : T) → Within (spell t)) → (t : T) → Within (further spell t)
further_within spell each t = both_within (just_within sign.Comma refl) (each t)

-- ---- values

variable_within : (v : Variable) → Within (variable v)
variable_within (Named x) = name_within x
variable_within Oneself = just_within sign.Oneself refl

term_within : (t : Term) → Within (term t)
term_within (Constant n) = number_within n
term_within (Plain x) = variable_within x
term_within (Product n x) = both_within (number_within n) (both_within (just_within sign.Times refl) (variable_within x))

either_within : (b : Bool) (s t : Sign) → is_end_sign s ≡ false → is_end_sign t ≡ false → Within (cond b (just s) (just t))
either_within true s t e f = just_within s e
either_within false s t e f = just_within t f

signed_within : (s : SignedTerm) → Within (signed_term s)
signed_within s = both_within (either_within s.minus sign.Minus sign.Plus refl refl) (term_within s.term)

minus_within : (b : Bool) → Within (cond b (just sign.Minus) [])
minus_within true = just_within sign.Minus refl
minus_within false = none_within

sum_within : (s : Sum) → Within (sum s)
sum_within s = both_within (minus_within s.minus) (both_within (term_within s.first) (joined_within signed_term signed_within s.others))

sums_within : (s : Sums) → Within (sums s)
sums_within s = both_within (sum_within s.first) (joined_within (further sum) (further_within sum sum_within) s.others)

place_within : (p : Place) → Within (place p)
place_within p = both_within (name_within p.table)
    (both_within (just_within sign.Open refl) (both_within (sums_within p.key) (just_within sign.Close refl)))

cell_within : (c : Cell) → Within (cell c)
cell_within c = both_within (place_within c.place) (both_within (just_within sign.Dot refl) (name_within c.column))

names_within : (ns : Names) → Within (names ns)
names_within ns = both_within (name_within ns.first) (joined_within name name_within ns.others)

relation_within : (r : Relation) → Within (just (relation_sign r))
relation_within relation.AtMost = just_within sign.AtMost refl
relation_within relation.AtLeast = just_within sign.AtLeast refl
relation_within relation.Equal = just_within sign.Equal refl

lin_rel_within : (r : LinRelTree) → Within (lin_rel r)
lin_rel_within r = both_within (sum_within r.left) (both_within (relation_within r.relation) (sum_within r.right))

guard_within : (g : Option LinRels) → Within (guard g)
guard_within None = none_within
guard_within (Some rs) = both_within (lin_rel_within rs.first)
    (joined_within (further lin_rel) (further_within lin_rel lin_rel_within) rs.others)

values_within : (v : Option Sums) → Within (values v)
values_within None = none_within
values_within (Some s) = sums_within s

-- ---- clauses

operand_within : (o : Operand) → Within (operand o)
operand_within (operands.Variable x) = variable_within x
operand_within (operands.Column c) = cell_within c
operand_within (operands.Has p) = both_within (just_within sign.Has refl) (place_within p)
operand_within (operands.Count p) = both_within (just_within sign.Count refl) (place_within p)
operand_within (operands.Sum c) = both_within (just_within sign.Sum refl) (cell_within c)

form_term_within : (t : FormTerm) → Within (form_term t)
form_term_within (form_terms.Constant n) = number_within n
form_term_within (form_terms.Plain o) = operand_within o
form_term_within (form_terms.Product n o) = both_within (number_within n) (both_within (just_within sign.Times refl) (operand_within o))

signed_form_within : (s : SignedFormTerm) → Within (signed_form_term s)
signed_form_within s = both_within (either_within s.minus sign.Minus sign.Plus refl refl) (form_term_within s.term)

form_within : (f : FormTree) → Within (form f)
form_within f = both_within (minus_within f.minus)
    (both_within (form_term_within f.first) (joined_within signed_form_term signed_form_within f.others))

form_rel_within : (r : FormRelTree) → Within (form_rel r)
form_rel_within r = both_within (form_within r.left) (both_within (relation_within r.relation) (form_within r.right))

form_rels_within : (rs : FormRels) → Within (form_rels rs)
form_rels_within rs = both_within (form_rel_within rs.first)
    (joined_within (further form_rel) (further_within form_rel form_rel_within) rs.others)

binder_within : (ns : Option Names) → Within (binder ns)
binder_within None = none_within
binder_within (Some ns) = both_within (just_within sign.Forall refl) (both_within (names_within ns) (just_within sign.Colon refl))

premises_within : (rs : Option FormRels) → Within (premises rs)
premises_within None = none_within
premises_within (Some rs) = both_within (form_rels_within rs) (just_within sign.Implies refl)

clause_within : (c : ClauseTree) → Within (clause c)
clause_within c = both_within (binder_within c.variables) (both_within (premises_within c.guards) (form_rel_within c.relation))

-- ---- entries and hints

side_within : (s : SideTree) → Within (just (side_sign s))
side_within side_tree.Next = just_within sign.Next refl
side_within side_tree.Undo = just_within sign.Undo refl

point_name_within : (p : PointName) → Within (point_name p)
point_name_within p = both_within (name_within p.type_name) (both_within (just_within sign.Dot refl) (name_within p.point))

pair_within : (p : PairTree) → Within (pair p)
pair_within p = both_within (variable_within p.held) (both_within (just_within sign.Equal refl) (variable_within p.step))

pairs_within : (ps : Option Pairs) → Within (pairs ps)
pairs_within None = none_within
pairs_within (Some ps) = both_within (just_within sign.Colon refl)
    (both_within (pair_within ps.first) (joined_within (further pair) (further_within pair pair_within) ps.others))

-- ---- statements

-- words, and what ends their statement
then_ends : {a b : List Word} → Within a → Ends b → Ends (a ++ b)
then_ends {a} {b} p q = record { is = p.at b q.is }

-- the end of a statement, and whole ones behind it
ended : {ws : List Word} → Whole ws → Ends (just sign.End ++ ws)
ended h = record { is = (refl, h.is) }

-- the end of the last statement
last : Ends (just sign.End)
last = record { is = (refl, refl) }

-- a first word, and the rest of its statement
begun : {ws : List Word} (s : Sign) → is_end_sign s ≡ false → Ends ws → Whole (just s ++ ws)
begun s e h = record { is = rw e h.is }

no_whole : Whole []
no_whole = record { is = refl }

both_whole : {a b : List Word} → Whole a → Whole b → Whole (a ++ b)
both_whole {a} {b} p q = record { is = in_both true a b p.is q.is }

joined_whole : {T : Type 0} (spell : T → List Word) → ((t : T) → Whole (spell t)) → (ts : List T) → Whole (joined spell ts)
joined_whole spell each [] = no_whole
joined_whole spell each (t ∷ ts) = both_whole (each t) (joined_whole spell each ts)

either_begun : {ws : List Word} (b : Bool) (s t : Sign) → is_end_sign s ≡ false → is_end_sign t ≡ false → Ends ws →
    Whole (cond b (just s) (just t) ++ ws)
either_begun true s t e f h = begun s e h
either_begun false s t e f h = begun t f h

table_whole : (t : TableTree) → Whole (table t)
table_whole t = either_begun t.private sign.Private sign.Table refl refl
    (then_ends (name_within t.name) (then_ends (number_within t.width) (then_ends (joined_within name name_within t.columns) last)))

read_whole : (r : ReadTree) → Whole (read_statement r)
read_whole (read.Let x v) = begun sign.Let refl
    (then_ends (variable_within x) (then_ends (just_within sign.Equal refl) (then_ends (sum_within v) last)))
read_whole (read.Get x c) = begun sign.Get refl
    (then_ends (variable_within x) (then_ends (just_within sign.Equal refl) (then_ends (cell_within c) last)))
read_whole (read.Has x p) = begun sign.Has refl
    (then_ends (variable_within x) (then_ends (just_within sign.Equal refl) (then_ends (place_within p) last)))
read_whole (read.Count x p) = begun sign.Count refl
    (then_ends (variable_within x) (then_ends (just_within sign.Equal refl) (then_ends (place_within p) last)))
read_whole (read.Sum x c) = begun sign.Sum refl
    (then_ends (variable_within x) (then_ends (just_within sign.Equal refl) (then_ends (cell_within c) last)))
read_whole (read.Least x p) = begun sign.Least refl
    (then_ends (variable_within x) (then_ends (just_within sign.Equal refl) (then_ends (place_within p) last)))
read_whole (read.Greatest x p) = begun sign.Greatest refl
    (then_ends (variable_within x) (then_ends (just_within sign.Equal refl) (then_ends (place_within p) last)))
read_whole (read.Take x) = begun sign.Take refl (then_ends (variable_within x) last)
read_whole (read.Mul x a b) = begun sign.Mul refl
    (then_ends (variable_within x) (then_ends (just_within sign.Equal refl)
    (then_ends (variable_within a) (then_ends (variable_within b) last))))
read_whole (read.Div x a n) = begun sign.Div refl
    (then_ends (variable_within x) (then_ends (just_within sign.Equal refl)
    (then_ends (variable_within a) (then_ends (number_within n) last))))

action_whole : (a : ActionTree) → Whole (action_statement a)
action_whole (action.Put p vs) = begun sign.Put refl (then_ends (place_within p) (then_ends (values_within vs) last))
action_whole (action.Del p) = begun sign.Del refl (then_ends (place_within p) last)
action_whole (action.Set c v) = begun sign.Set refl (then_ends (cell_within c) (then_ends (sum_within v) last))
action_whole (action.Add c v) = begun sign.Add refl (then_ends (cell_within c) (then_ends (sum_within v) last))

target_whole : (t : TargetTree) → Whole (target_statement t)
target_whole (target.Goto x) = begun sign.Goto refl (then_ends (name_within x) last)
target_whole target.Commit = begun sign.Commit refl last
target_whole target.Undone = begun sign.Undone refl last
target_whole (target.Refuse n) = begun sign.Refuse refl (then_ends (number_within n) last)

names_whole : (s : Sign) → is_end_sign s ≡ false → (ns : Option Names) → Whole (names_statement s ns)
names_whole s e None = no_whole
names_whole s e (Some ns) = begun s e (then_ends (names_within ns) last)

clause_whole : (s : Sign) → is_end_sign s ≡ false → (c : ClauseTree) → Whole (clause_statement s c)
clause_whole s e c = begun s e (then_ends (clause_within c) last)

clauses_whole : (s : Sign) → is_end_sign s ≡ false → (cs : List ClauseTree) → Whole (joined (clause_statement s) cs)
clauses_whole s e cs = joined_whole (clause_statement s) (clause_whole s e) cs

variant_whole : (v : Option Sum) → Whole (variant_statement v)
variant_whole None = no_whole
variant_whole (Some v) = begun sign.Variant refl (then_ends (sum_within v) last)

entry_whole : (e : EntryTree) → Whole (entry e)
entry_whole e = begun sign.Entry refl (then_ends (point_name_within e.held)
    (then_ends (just_within sign.By refl) (then_ends (point_name_within e.by)
    (then_ends (side_within e.side) (then_ends (pairs_within e.pairs) last)))))

hint_whole : (h : HintTree) → Whole (hint h)
hint_whole h = begun sign.Hint refl (then_ends (point_name_within h.of)
    (then_ends (side_within h.side) (then_ends (sum_within h.value) last)))

-- ---- a design

path_whole : (p : PathTree) → Whole (path p)
path_whole p = begun sign.Path refl (then_ends (guard_within p.guard)
    (ended (both_whole (joined_whole action_statement action_whole p.actions) (target_whole p.target))))

step_whole : (s : StepTree) → Whole (step s)
step_whole s = both_whole (joined_whole read_statement read_whole s.reads)
    (both_whole (path_whole s.first) (joined_whole path path_whole s.others))

side_whole : (s : Sign) → is_end_sign s ≡ false → (st : StepTree) → Whole (side s st)
side_whole s e st = begun s e (ended (step_whole st))

point_whole : (p : PointTree) → Whole (point p)
point_whole p = begun sign.Point refl (then_ends (name_within p.name)
    (ended (both_whole (variant_whole p.variant) (both_whole (clauses_whole sign.Holds refl p.holds)
    (both_whole (side_whole sign.Next refl p.next) (side_whole sign.Undo refl p.undo))))))

limit_whole : (n : ℕ) → Whole (limit n)
limit_whole n = begun sign.Limit refl (then_ends (number_within n) last)

type_whole : (t : TypeTree) → Whole (type_words t)
type_whole t =
    let points = both_whole (point_whole t.first) (joined_whole point point_whole t.others) in
    let clauses = both_whole (clauses_whole sign.Ensures refl t.ensured) (both_whole (clauses_whole sign.Repairs refl t.repaired) points) in
    let names = both_whole (names_whole sign.Returns refl t.returns) (both_whole (names_whole sign.Local refl t.locals) clauses) in
    begun sign.Type refl (then_ends (name_within t.name)
    (then_ends (joined_within name name_within t.params) (ended (both_whole (limit_whole t.limit) names))))

design_whole : (d : DesignTree) → Whole (spelled_design d)
design_whole d =
    let last = both_whole (joined_whole entry entry_whole d.entries) (joined_whole hint hint_whole d.hints) in
    both_whole (joined_whole table table_whole d.tables)
    (both_whole (clauses_whole sign.Always refl d.always) (both_whole (joined_whole type_words type_whole d.types) last))

-- a design's words are whole statements
pub spelled_in : (d : DesignTree) → InStatements true (spelled_design d)
spelled_in d = (design_whole d).is
