-- How each part of a design is spelled, in words: the grammar, one equation a production.
use Rattle.std.specs.Prelude.{ℕ, List, Option, Some, None, [], ◌∷◌, ◌++◌, if◌then◌else◌}
use Rattle.acc_grammar.specs.Readers.{joined}
use Rattle.acc_lex.specs.declared.words.Sign.{Sign}
use Rattle.acc_lex.specs.declared.words.Sign.TheVariants as sign
use Rattle.acc_lex.specs.declared.words.Word.{Word}
use Rattle.acc_lex.specs.declared.words.Word.TheVariants as word
use Rattle.acc_parse_syntax.specs.declared.trees.Variable.{Variable}
use Rattle.acc_parse_syntax.specs.declared.trees.Variable.TheVariants.{Named, Oneself}
use Rattle.acc_parse_syntax.specs.declared.trees.Term.{Term}
use Rattle.acc_parse_syntax.specs.declared.trees.Term.TheVariants.{Constant, Plain, Product}
use Rattle.acc_parse_syntax.specs.declared.trees.SignedTerm.{SignedTerm}
use Rattle.acc_parse_syntax.specs.declared.trees.Sum.{Sum}
use Rattle.acc_parse_syntax.specs.declared.trees.Sums.{Sums}
use Rattle.acc_parse_syntax.specs.declared.trees.Place.{Place}
use Rattle.acc_parse_syntax.specs.declared.trees.Cell.{Cell}
use Rattle.acc_parse_syntax.specs.declared.trees.Names.{Names}
use Rattle.acc_parse_syntax.specs.declared.trees.Relation.{Relation}
use Rattle.acc_parse_syntax.specs.declared.trees.Relation.TheVariants as relation
use Rattle.acc_parse_syntax.specs.declared.trees.LinRelTree.{LinRelTree}
use Rattle.acc_parse_syntax.specs.declared.trees.LinRels.{LinRels}
use Rattle.acc_parse_syntax.specs.declared.trees.Operand.{Operand}
use Rattle.acc_parse_syntax.specs.declared.trees.Operand.TheVariants as operands
use Rattle.acc_parse_syntax.specs.declared.trees.FormTerm.{FormTerm}
use Rattle.acc_parse_syntax.specs.declared.trees.FormTerm.TheVariants as form_terms
use Rattle.acc_parse_syntax.specs.declared.trees.SignedFormTerm.{SignedFormTerm}
use Rattle.acc_parse_syntax.specs.declared.trees.FormTree.{FormTree}
use Rattle.acc_parse_syntax.specs.declared.trees.FormRelTree.{FormRelTree}
use Rattle.acc_parse_syntax.specs.declared.trees.FormRels.{FormRels}
use Rattle.acc_parse_syntax.specs.declared.trees.ClauseTree.{ClauseTree}
use Rattle.acc_parse_syntax.specs.declared.trees.TableTree.{TableTree}
use Rattle.acc_parse_syntax.specs.declared.trees.ReadTree.{ReadTree}
use Rattle.acc_parse_syntax.specs.declared.trees.ReadTree.TheVariants as read
use Rattle.acc_parse_syntax.specs.declared.trees.ActionTree.{ActionTree}
use Rattle.acc_parse_syntax.specs.declared.trees.ActionTree.TheVariants as action
use Rattle.acc_parse_syntax.specs.declared.trees.TargetTree.{TargetTree}
use Rattle.acc_parse_syntax.specs.declared.trees.TargetTree.TheVariants as target
use Rattle.acc_parse_syntax.specs.declared.trees.PathTree.{PathTree}
use Rattle.acc_parse_syntax.specs.declared.trees.StepTree.{StepTree}
use Rattle.acc_parse_syntax.specs.declared.trees.PointTree.{PointTree}
use Rattle.acc_parse_syntax.specs.declared.trees.TypeTree.{TypeTree}
use Rattle.acc_parse_syntax.specs.declared.trees.SideTree.{SideTree}
use Rattle.acc_parse_syntax.specs.declared.trees.SideTree.TheVariants as side_tree
use Rattle.acc_parse_syntax.specs.declared.trees.PointName.{PointName}
use Rattle.acc_parse_syntax.specs.declared.trees.PairTree.{PairTree}
use Rattle.acc_parse_syntax.specs.declared.trees.Pairs.{Pairs}
use Rattle.acc_parse_syntax.specs.declared.trees.EntryTree.{EntryTree}
use Rattle.acc_parse_syntax.specs.declared.trees.HintTree.{HintTree}
use Rattle.acc_parse_syntax.specs.declared.trees.DesignTree.{DesignTree}

-- ---- single words

-- a word or mark that the grammar fixes
abbrev pub just : Sign → List Word
just s = word.Sign s ∷ []

-- a name that the writer chose
abbrev pub name : List ℕ → List Word
name x = word.Name x ∷ []

-- a whole number
abbrev pub number : ℕ → List Word
number n = word.Number n ∷ []

-- ---- lists

-- one or more names
abbrev pub names : Names → List Word
names ns = name ns.first ++ joined name ns.others

-- a comma, and a further part of a list
abbrev pub further : {T : Type 0} → (T → List Word) → T → List Word
further spell t = just sign.Comma ++ spell t

-- ---- linear values

-- NAME, or `self`
abbrev pub variable : Variable → List Word
variable (Named x) = name x
variable Oneself = just sign.Oneself

-- INT, a variable, or INT * variable
abbrev pub term : Term → List Word
term (Constant n) = number n
term (Plain x) = variable x
term (Product n x) = number n ++ (just sign.Times ++ variable x)

-- + or -, and a term
abbrev pub signed_term : SignedTerm → List Word
signed_term s = (if s.minus then just sign.Minus else just sign.Plus) ++ term s.term

-- a term that may have a minus before it, and further ones
abbrev pub sum : Sum → List Word
sum s = (if s.minus then just sign.Minus else []) ++ (term s.first ++ joined signed_term s.others)

-- values, with commas between them
abbrev pub sums : Sums → List Word
sums s = sum s.first ++ joined (further sum) s.others

-- TABLE [ key ]
abbrev pub place : Place → List Word
place p = name p.table ++ (just sign.Open ++ (sums p.key ++ just sign.Close))

-- a row, a dot and a column
abbrev pub cell : Cell → List Word
cell c = place c.place ++ (just sign.Dot ++ name c.column)

-- ---- guards

-- <=, >= or =
abbrev pub relation_sign : Relation → Sign
relation_sign relation.AtMost = sign.AtMost
relation_sign relation.AtLeast = sign.AtLeast
relation_sign relation.Equal = sign.Equal

-- two values, and how they compare
abbrev pub lin_rel : LinRelTree → List Word
lin_rel r = sum r.left ++ (just (relation_sign r.relation) ++ sum r.right)

-- a guard, which may be left out
abbrev pub guard : Option LinRels → List Word
guard None = []
guard (Some rs) = lin_rel rs.first ++ joined (further lin_rel) rs.others

-- ---- clauses

-- a variable, row.column, has row, count row, sum row.column
abbrev pub operand : Operand → List Word
operand (operands.Variable x) = variable x
operand (operands.Column c) = cell c
operand (operands.Has p) = just sign.Has ++ place p
operand (operands.Count p) = just sign.Count ++ place p
operand (operands.Sum c) = just sign.Sum ++ cell c

-- INT, an operand, or INT * operand
abbrev pub form_term : FormTerm → List Word
form_term (form_terms.Constant n) = number n
form_term (form_terms.Plain o) = operand o
form_term (form_terms.Product n o) = number n ++ (just sign.Times ++ operand o)

-- + or -, and a term
abbrev pub signed_form_term : SignedFormTerm → List Word
signed_form_term s = (if s.minus then just sign.Minus else just sign.Plus) ++ form_term s.term

-- a term that may have a minus before it, and further ones
abbrev pub form : FormTree → List Word
form f = (if f.minus then just sign.Minus else []) ++ (form_term f.first ++ joined signed_form_term f.others)

-- two forms, and how they compare
abbrev pub form_rel : FormRelTree → List Word
form_rel r = form r.left ++ (just (relation_sign r.relation) ++ form r.right)

-- relations, with commas between them
abbrev pub form_rels : FormRels → List Word
form_rels rs = form_rel rs.first ++ joined (further form_rel) rs.others

-- forall names :, which may be left out
abbrev pub binder : Option Names → List Word
binder None = []
binder (Some ns) = just sign.Forall ++ (names ns ++ just sign.Colon)

-- relations =>, which may be left out
abbrev pub premises : Option FormRels → List Word
premises None = []
premises (Some rs) = form_rels rs ++ just sign.Implies

-- [ forall names : ] [ relations => ] relation
abbrev pub clause : ClauseTree → List Word
clause c = binder c.variables ++ (premises c.guards ++ form_rel c.relation)

-- ---- statements: each has its end

-- a statement of a word and a clause: always, ensures, repairs, holds
abbrev pub clause_statement : Sign → ClauseTree → List Word
clause_statement s c = just s ++ (clause c ++ just sign.End)

-- table NAME width { column }, or private ..
abbrev pub table : TableTree → List Word
table t = (if t.private then just sign.Private else just sign.Table)
    ++ (name t.name ++ (number t.width ++ (joined name t.columns ++ just sign.End)))

-- let X = value, get X = row.column, has X = row, count X = row, sum X = row.column, least X = row, greatest X = row,
-- take X, mul X = X X, div X = X INT
abbrev pub read_statement : ReadTree → List Word
read_statement (read.Let x v) = just sign.Let ++ (variable x ++ (just sign.Equal ++ (sum v ++ just sign.End)))
read_statement (read.Get x c) = just sign.Get ++ (variable x ++ (just sign.Equal ++ (cell c ++ just sign.End)))
read_statement (read.Has x p) = just sign.Has ++ (variable x ++ (just sign.Equal ++ (place p ++ just sign.End)))
read_statement (read.Count x p) = just sign.Count ++ (variable x ++ (just sign.Equal ++ (place p ++ just sign.End)))
read_statement (read.Sum x c) = just sign.Sum ++ (variable x ++ (just sign.Equal ++ (cell c ++ just sign.End)))
read_statement (read.Least x p) = just sign.Least ++ (variable x ++ (just sign.Equal ++ (place p ++ just sign.End)))
read_statement (read.Greatest x p) = just sign.Greatest ++ (variable x ++ (just sign.Equal ++ (place p ++ just sign.End)))
read_statement (read.Take x) = just sign.Take ++ (variable x ++ just sign.End)
read_statement (read.Mul x a b) = just sign.Mul ++ (variable x ++ (just sign.Equal ++ (variable a ++ (variable b ++ just sign.End))))
read_statement (read.Div x a n) = just sign.Div ++ (variable x ++ (just sign.Equal ++ (variable a ++ (number n ++ just sign.End))))

-- the values of a row's columns, of which there may be none
abbrev pub values : Option Sums → List Word
values None = []
values (Some s) = sums s

-- put row values, del row, set row.column value, add row.column value
abbrev pub action_statement : ActionTree → List Word
action_statement (action.Put p vs) = just sign.Put ++ (place p ++ (values vs ++ just sign.End))
action_statement (action.Del p) = just sign.Del ++ (place p ++ just sign.End)
action_statement (action.Set c v) = just sign.Set ++ (cell c ++ (sum v ++ just sign.End))
action_statement (action.Add c v) = just sign.Add ++ (cell c ++ (sum v ++ just sign.End))

-- goto NAME, commit, undone, refuse INT
abbrev pub target_statement : TargetTree → List Word
target_statement (target.Goto x) = just sign.Goto ++ (name x ++ just sign.End)
target_statement target.Commit = just sign.Commit ++ just sign.End
target_statement target.Undone = just sign.Undone ++ just sign.End
target_statement (target.Refuse n) = just sign.Refuse ++ (number n ++ just sign.End)

-- a statement of a word and names, which may be left out
abbrev pub names_statement : Sign → Option Names → List Word
names_statement s None = []
names_statement s (Some ns) = just s ++ (names ns ++ just sign.End)

-- variant value, which may be left out
abbrev pub variant_statement : Option Sum → List Word
variant_statement None = []
variant_statement (Some v) = just sign.Variant ++ (sum v ++ just sign.End)

-- next or undo
abbrev pub side_sign : SideTree → Sign
side_sign side_tree.Next = sign.Next
side_sign side_tree.Undo = sign.Undo

-- TYPE . POINT
abbrev pub point_name : PointName → List Word
point_name p = name p.type_name ++ (just sign.Dot ++ name p.point)

-- X = X
abbrev pub pair : PairTree → List Word
pair p = variable p.held ++ (just sign.Equal ++ variable p.step)

-- a colon and pairs, with commas between them, which may be left out
abbrev pub pairs : Option Pairs → List Word
pairs None = []
pairs (Some ps) = just sign.Colon ++ (pair ps.first ++ joined (further pair) ps.others)

-- entry TYPE.POINT by TYPE.POINT next or undo [ : pairs ]
abbrev pub entry : EntryTree → List Word
entry e =
    just sign.Entry ++ (point_name e.held ++ (
    just sign.By ++ (point_name e.by ++ (
    just (side_sign e.side) ++ (pairs e.pairs ++ just sign.End)))))

-- hint TYPE.POINT next or undo, value
abbrev pub hint : HintTree → List Word
hint h = just sign.Hint ++ (point_name h.of ++ (just (side_sign h.side) ++ (sum h.value ++ just sign.End)))

-- ---- the parts of a type

-- path [ guard ], the actions, the target
abbrev pub path : PathTree → List Word
path p = just sign.Path ++ (guard p.guard ++ (just sign.End ++ (joined action_statement p.actions ++ target_statement p.target)))

-- the reads, and one or more paths
abbrev pub step : StepTree → List Word
step s = joined read_statement s.reads ++ (path s.first ++ joined path s.others)

-- next or undo, and its step
abbrev pub side : Sign → StepTree → List Word
side s st = just s ++ (just sign.End ++ step st)

-- point NAME, [ variant value ], { holds clause }, next and a step, undo and a step
abbrev pub point : PointTree → List Word
point p =
    just sign.Point ++ (name p.name ++ (just sign.End ++ (
    variant_statement p.variant ++ (
    joined (clause_statement sign.Holds) p.holds ++ (
    side sign.Next p.next ++ side sign.Undo p.undo)))))

-- limit INT
abbrev pub limit : ℕ → List Word
limit n = just sign.Limit ++ (number n ++ just sign.End)

-- type NAME { parameter }, limit INT, [ returns names ], [ local names ], { ensures clause }, { repairs clause }, one or more points
abbrev pub type_words : TypeTree → List Word
type_words t =
    just sign.Type ++ (name t.name ++ (joined name t.params ++ (just sign.End ++ (
    limit t.limit ++ (
    names_statement sign.Returns t.returns ++ (
    names_statement sign.Local t.locals ++ (
    joined (clause_statement sign.Ensures) t.ensured ++ (
    joined (clause_statement sign.Repairs) t.repaired ++ (
    point t.first ++ joined point t.others)))))))))

-- ---- the whole text

-- the tables, { always clause }, the types, the entries, the hints
abbrev pub spelled_design : DesignTree → List Word
spelled_design d =
    joined table d.tables ++ (
    joined (clause_statement sign.Always) d.always ++ (
    joined type_words d.types ++ (
    joined entry d.entries ++ joined hint d.hints)))
