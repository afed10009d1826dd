-- No word of a table or of a clause that always holds begins a type.
use Rattle.std.proofs.Common.{◌≡◌, ℕ, Bool, true, false, List, [], ◌∷◌, ◌++◌, Option, Some, None, refl}
use Rattle.std.specs.Prelude.{if◌then◌else◌}
use Rattle.acc_grammar.specs.Readers.{AllIn, joined}
use Rattle.acc_grammar.proofs.Exact.{AllIn-append}
use Rattle.acc_lex.specs.declared.words.Word.{Word}
use Rattle.acc_lex.specs.declared.words.Sign.TheVariants as sign
use Rattle.acc_parse_syntax.specs.WordReaders.{comes}
use Rattle.acc_parse_syntax.specs.declared.trees.Variable.{Variable}
use Rattle.acc_parse_syntax.specs.declared.trees.Variable.TheVariants.{Named, Oneself}
use Rattle.acc_parse_syntax.specs.declared.trees.Term.{Term}
use Rattle.acc_parse_syntax.specs.declared.trees.Term.TheVariants.{Constant, Plain, Product}
use Rattle.acc_parse_syntax.specs.declared.trees.SignedTerm.{SignedTerm}
use Rattle.acc_parse_syntax.specs.declared.trees.Sum.{Sum}
use Rattle.acc_parse_syntax.specs.declared.trees.Sums.{Sums}
use Rattle.acc_parse_syntax.specs.declared.trees.Place.{Place}
use Rattle.acc_parse_syntax.specs.declared.trees.Cell.{Cell}
use Rattle.acc_parse_syntax.specs.declared.trees.Names.{Names}
use Rattle.acc_parse_syntax.specs.declared.trees.Relation.{Relation}
use Rattle.acc_parse_syntax.specs.declared.trees.Relation.TheVariants as relation
use Rattle.acc_parse_syntax.specs.declared.trees.Operand.{Operand}
use Rattle.acc_parse_syntax.specs.declared.trees.Operand.TheVariants as operands
use Rattle.acc_parse_syntax.specs.declared.trees.FormTerm.{FormTerm}
use Rattle.acc_parse_syntax.specs.declared.trees.FormTerm.TheVariants as form_terms
use Rattle.acc_parse_syntax.specs.declared.trees.SignedFormTerm.{SignedFormTerm}
use Rattle.acc_parse_syntax.specs.declared.trees.FormTree.{FormTree}
use Rattle.acc_parse_syntax.specs.declared.trees.FormRelTree.{FormRelTree}
use Rattle.acc_parse_syntax.specs.declared.trees.FormRels.{FormRels}
use Rattle.acc_parse_syntax.specs.declared.trees.ClauseTree.{ClauseTree}
use Rattle.acc_parse_syntax.specs.declared.trees.TableTree.{TableTree}
use Rattle.acc_parse_syntax.specs.Spelling.{just, name, number, names, further, variable, term, signed_term, sum, sums, place, cell}
use Rattle.acc_parse_syntax.specs.Spelling.{relation_sign, operand, form_term, signed_form_term, form, form_rel, form_rels, binder, premises}
use Rattle.acc_parse_syntax.specs.Spelling.{clause, clause_statement, table}

-- a word that begins no type
abbrev pub IsInner : Word → Type 0
IsInner w = comes sign.Type (w ∷ []) ≡ false

abbrev pub AreInner : List Word → Type 0
AreInner words = AllIn IsInner words

-- ---- lists

both : (xs ys : List Word) → AreInner xs → AreInner ys → AreInner (xs ++ ys)
both xs ys h g = AllIn-append IsInner xs ys h g

all_inner : {T : Type 0} (spell : T → List Word) → ((t : T) → AreInner (spell t)) → (ts : List T) → AreInner (joined spell ts)
all_inner spell each [] = tt
all_inner spell each (t ∷ ts) = both (spell t) (joined spell ts) (each t) (all_inner spell each ts)

further_inner : {T : Type 0} (spell : T → List Word) → ((t : T) → AreInner (spell t)) → (t : T) → AreInner (further spell t)
further_inner spell each t = (refl, each t)

minus_inner : (b : Bool) → AreInner (if b then just sign.Minus else [])
minus_inner true = (refl, tt)
minus_inner false = tt

direction_inner : (b : Bool) → AreInner (if b then just sign.Minus else just sign.Plus)
direction_inner true = (refl, tt)
direction_inner false = (refl, tt)

-- ---- values

variable_inner : (x : Variable) → AreInner (variable x)
variable_inner (Named x) = (refl, tt)
variable_inner Oneself = (refl, tt)

term_inner : (t : Term) → AreInner (term t)
term_inner (Constant n) = (refl, tt)
term_inner (Plain x) = variable_inner x
term_inner (Product n x) = (refl, (refl, variable_inner x))

signed_inner : (s : SignedTerm) → AreInner (signed_term s)
signed_inner s = both (if s.minus then just sign.Minus else just sign.Plus) (term s.term) (direction_inner s.minus) (term_inner s.term)

sum_inner : (s : Sum) → AreInner (sum s)
sum_inner s =
    both (if s.minus then just sign.Minus else []) (term s.first ++ joined signed_term s.others) (minus_inner s.minus)
    (both (term s.first) (joined signed_term s.others) (term_inner s.first) (all_inner signed_term signed_inner s.others))

sums_inner : (ss : Sums) → AreInner (sums ss)
sums_inner ss = both (sum ss.first) (joined (further sum) ss.others) (sum_inner ss.first)
    (all_inner (further sum) (further_inner sum sum_inner) ss.others)

place_inner : (p : Place) → AreInner (place p)
place_inner p = (refl, (refl, both (sums p.key) (just sign.Close) (sums_inner p.key) (refl, tt)))

cell_inner : (c : Cell) → AreInner (cell c)
cell_inner c = both (place c.place) (just sign.Dot ++ name c.column) (place_inner c.place) (refl, (refl, tt))

-- ---- clauses

operand_inner : (o : Operand) → AreInner (operand o)
operand_inner (operands.Variable x) = variable_inner x
operand_inner (operands.Column c) = cell_inner c
operand_inner (operands.Has p) = (refl, place_inner p)
operand_inner (operands.Count p) = (refl, place_inner p)
operand_inner (operands.Sum c) = (refl, cell_inner c)

form_term_inner : (t : FormTerm) → AreInner (form_term t)
form_term_inner (form_terms.Constant n) = (refl, tt)
form_term_inner (form_terms.Plain o) = operand_inner o
form_term_inner (form_terms.Product n o) = (refl, (refl, operand_inner o))

signed_form_inner : (s : SignedFormTerm) → AreInner (signed_form_term s)
signed_form_inner s = both (if s.minus then just sign.Minus else just sign.Plus) (form_term s.term) (direction_inner s.minus)
    (form_term_inner s.term)

form_inner : (f : FormTree) → AreInner (form f)
form_inner f =
    both (if f.minus then just sign.Minus else []) (form_term f.first ++ joined signed_form_term f.others) (minus_inner f.minus)
    (both (form_term f.first) (joined signed_form_term f.others) (form_term_inner f.first)
    (all_inner signed_form_term signed_form_inner f.others))

relation_inner : (r : Relation) → AreInner (just (relation_sign r))
relation_inner relation.AtMost = (refl, tt)
relation_inner relation.AtLeast = (refl, tt)
relation_inner relation.Equal = (refl, tt)

form_rel_inner : (r : FormRelTree) → AreInner (form_rel r)
form_rel_inner r =
    both (form r.left) (just (relation_sign r.relation) ++ form r.right) (form_inner r.left)
    (both (just (relation_sign r.relation)) (form r.right) (relation_inner r.relation) (form_inner r.right))

name_inner : (x : List ℕ) → AreInner (name x)
name_inner x = (refl, tt)

binder_inner : (ns : Option Names) → AreInner (binder ns)
binder_inner None = tt
binder_inner (Some ns) = (refl, both (names ns) (just sign.Colon) (refl, all_inner name name_inner ns.others) (refl, tt))

premises_inner : (g : Option FormRels) → AreInner (premises g)
premises_inner None = tt
premises_inner (Some rs) =
    both (form_rels rs) (just sign.Implies)
    (both (form_rel rs.first) (joined (further form_rel) rs.others) (form_rel_inner rs.first)
    (all_inner (further form_rel) (further_inner form_rel form_rel_inner) rs.others)) (refl, tt)

clause_inner : (c : ClauseTree) → AreInner (clause c)
clause_inner c =
    both (binder c.variables) (premises c.guards ++ form_rel c.relation) (binder_inner c.variables)
    (both (premises c.guards) (form_rel c.relation) (premises_inner c.guards) (form_rel_inner c.relation))

always_inner : (c : ClauseTree) → AreInner (clause_statement sign.Always c)
always_inner c = (refl, both (clause c) (just sign.End) (clause_inner c) (refl, tt))

-- ---- tables

table_word : (b : Bool) → AreInner (if b then just sign.Private else just sign.Table)
table_word true = (refl, tt)
table_word false = (refl, tt)

table_inner : (t : TableTree) → AreInner (table t)
table_inner t =
    both (if t.private then just sign.Private else just sign.Table)
    (name t.name ++ (number t.width ++ (joined name t.columns ++ just sign.End))) (table_word t.private)
    (refl, (refl, both (joined name t.columns) (just sign.End) (all_inner name name_inner t.columns) (refl, tt)))

-- ---- what stands before types

pub tables_inner : (ts : List TableTree) → AreInner (joined table ts)
tables_inner ts = all_inner table table_inner ts

pub clauses_inner : (cs : List ClauseTree) → AreInner (joined (clause_statement sign.Always) cs)
clauses_inner cs = all_inner (clause_statement sign.Always) always_inner cs
