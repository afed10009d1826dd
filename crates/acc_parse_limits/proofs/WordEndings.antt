-- How many statements end in marks: none within a statement.
use Rattle.std.proofs.Common.{◌≡◌, ℕ, ◌+◌, Bool, true, false, List, [], ◌∷◌, ◌++◌, Option, Some, None, refl, arith}
use Rattle.std.specs.List.{flat_map}
use Rattle.acc_parse_syntax.specs.declared.trees.Variable.{Variable}
use Rattle.acc_parse_syntax.specs.declared.trees.Variable.TheVariants.{Named, Oneself}
use Rattle.acc_parse_syntax.specs.declared.trees.Term.{Term}
use Rattle.acc_parse_syntax.specs.declared.trees.Term.TheVariants.{Constant, Plain, Product}
use Rattle.acc_parse_syntax.specs.declared.trees.SignedTerm.{SignedTerm}
use Rattle.acc_parse_syntax.specs.declared.trees.Sum.{Sum}
use Rattle.acc_parse_syntax.specs.declared.trees.Sums.{Sums}
use Rattle.acc_parse_syntax.specs.declared.trees.Place.{Place}
use Rattle.acc_parse_syntax.specs.declared.trees.Cell.{Cell}
use Rattle.acc_parse_syntax.specs.declared.trees.Names.{Names}
use Rattle.acc_parse_syntax.specs.declared.trees.LinRelTree.{LinRelTree}
use Rattle.acc_parse_syntax.specs.declared.trees.LinRels.{LinRels}
use Rattle.acc_parse_syntax.specs.declared.trees.Operand.{Operand}
use Rattle.acc_parse_syntax.specs.declared.trees.Operand.TheVariants as operands
use Rattle.acc_parse_syntax.specs.declared.trees.FormTerm.{FormTerm}
use Rattle.acc_parse_syntax.specs.declared.trees.FormTerm.TheVariants as form_terms
use Rattle.acc_parse_syntax.specs.declared.trees.SignedFormTerm.{SignedFormTerm}
use Rattle.acc_parse_syntax.specs.declared.trees.FormTree.{FormTree}
use Rattle.acc_parse_syntax.specs.declared.trees.FormRelTree.{FormRelTree}
use Rattle.acc_parse_syntax.specs.declared.trees.FormRels.{FormRels}
use Rattle.acc_parse_syntax.specs.declared.trees.ClauseTree.{ClauseTree}
use Rattle.acc_parse_syntax.specs.declared.trees.PointName.{PointName}
use Rattle.acc_parse_syntax.specs.declared.trees.PairTree.{PairTree}
use Rattle.acc_parse_syntax.specs.declared.trees.Pairs.{Pairs}
use Rattle.acc_base.specs.declared.limits.Limit.{Limit}
use Rattle.acc_parse_limits.specs.Marks.{Mark, Past, End, ending, past}
use Rattle.acc_parse_limits.specs.Words.{name_marks, number_marks, small_number_marks, names_marks, variable_marks, term_marks, signed_term_marks}
use Rattle.acc_parse_limits.specs.Words.{sum_marks, sums_marks, place_marks, cell_marks, lin_rel_marks, guard_marks, operand_marks}
use Rattle.acc_parse_limits.specs.Words.{form_term_marks, signed_form_term_marks, form_marks, form_rel_marks, binder_marks, premises_marks}
use Rattle.acc_parse_limits.specs.Words.{clause_marks, point_name_marks, pair_marks, pairs_marks}

-- how many statements end
abbrev pub endings : List Mark → ℕ
endings [] = 0
endings (Past limit ∷ ms) = endings ms
endings (End ∷ ms) = endings ms + 1

-- ---- marks, one behind another

pub endings-append : (xs ys : List Mark) → endings (xs ++ ys) ≡ endings xs + endings ys
endings-append [] ys = omega arith
endings-append (Past l ∷ xs) ys = endings-append xs ys
endings-append (End ∷ xs) ys = omega (arith, endings-append xs ys)

-- so many statements end in the marks
pub record HasEndings (n : ℕ) (ms : List Mark) : Type 0 where
  pub is : endings ms ≡ n

pub no_marks : HasEndings 0 []
no_marks = record { is = refl }

pub behind : (m n : ℕ) (a b : List Mark) → HasEndings m a → HasEndings n b → HasEndings (m + n) (a ++ b)
behind m n a b h k = record { is = omega (arith, endings-append a b, h.is, k.is) }

-- marks in which nothing ends
pub past_part : (n : ℕ) (a b : List Mark) → HasEndings 0 a → HasEndings n b → HasEndings n (a ++ b)
past_part n a b h k = record { is = omega (arith, endings-append a b, h.is, k.is) }

pub end_then : (n : ℕ) (b : List Mark) → HasEndings n b → HasEndings (1 + n) (End ∷ b)
end_then n b h = record { is = omega (arith, h.is) }

pub end_last : HasEndings 1 ending
end_last = record { is = refl }

pub passed : (l : Limit) (b : Bool) → HasEndings 0 (past l b)
passed l true = record { is = refl }
passed l false = no_marks

pub each_none : {T : Type 0} (marks : T → List Mark) (xs : List T) → ((x : T) → HasEndings 0 (marks x)) → HasEndings 0 (flat_map marks xs)
each_none marks [] h = no_marks
each_none marks (x ∷ xs) h = past_part 0 (marks x) (flat_map marks xs) (h x) (each_none marks xs h)

-- ---- the parts of a statement

pub name_none : (x : List ℕ) → HasEndings 0 (name_marks x)
name_none x = passed _ _

pub number_none : (n : ℕ) → HasEndings 0 (number_marks n)
number_none n = passed _ _

pub small_number_none : (n : ℕ) → HasEndings 0 (small_number_marks n)
small_number_none n = passed _ _

pub names_none : (ns : Names) → HasEndings 0 (names_marks ns)
names_none ns = past_part 0 (name_marks ns.first) _ (name_none ns.first) (each_none name_marks ns.others name_none)

pub variable_none : (x : Variable) → HasEndings 0 (variable_marks x)
variable_none (Named x) = name_none x
variable_none Oneself = no_marks

term_none : (t : Term) → HasEndings 0 (term_marks t)
term_none (Constant n) = number_none n
term_none (Plain x) = variable_none x
term_none (Product n x) = past_part 0 (number_marks n) _ (number_none n) (variable_none x)

signed_term_none : (s : SignedTerm) → HasEndings 0 (signed_term_marks s)
signed_term_none s = term_none s.term

pub sum_none : (s : Sum) → HasEndings 0 (sum_marks s)
sum_none s = past_part 0 (term_marks s.first) _ (term_none s.first) (each_none signed_term_marks s.others signed_term_none)

pub sums_none : (ss : Sums) → HasEndings 0 (sums_marks ss)
sums_none ss = past_part 0 (sum_marks ss.first) _ (sum_none ss.first) (each_none sum_marks ss.others sum_none)

pub place_none : (p : Place) → HasEndings 0 (place_marks p)
place_none p = past_part 0 (name_marks p.table) _ (name_none p.table) (sums_none p.key)

pub cell_none : (c : Cell) → HasEndings 0 (cell_marks c)
cell_none c = past_part 0 (place_marks c.place) _ (place_none c.place) (name_none c.column)

lin_rel_none : (r : LinRelTree) → HasEndings 0 (lin_rel_marks r)
lin_rel_none r = past_part 0 (sum_marks r.left) _ (sum_none r.left) (sum_none r.right)

pub guard_none : (g : Option LinRels) → HasEndings 0 (guard_marks g)
guard_none None = no_marks
guard_none (Some rs) = past_part 0 _ _ (passed _ _)
    (past_part 0 (lin_rel_marks rs.first) _ (lin_rel_none rs.first) (each_none lin_rel_marks rs.others lin_rel_none))

operand_none : (o : Operand) → HasEndings 0 (operand_marks o)
operand_none (operands.Variable x) = variable_none x
operand_none (operands.Column c) = cell_none c
operand_none (operands.Has p) = place_none p
operand_none (operands.Count p) = place_none p
operand_none (operands.Sum c) = cell_none c

form_term_none : (t : FormTerm) → HasEndings 0 (form_term_marks t)
form_term_none (form_terms.Constant n) = number_none n
form_term_none (form_terms.Plain o) = operand_none o
form_term_none (form_terms.Product n o) = past_part 0 (number_marks n) _ (number_none n) (operand_none o)

signed_form_term_none : (s : SignedFormTerm) → HasEndings 0 (signed_form_term_marks s)
signed_form_term_none s = form_term_none s.term

form_none : (f : FormTree) → HasEndings 0 (form_marks f)
form_none f = past_part 0 (form_term_marks f.first) _ (form_term_none f.first)
    (each_none signed_form_term_marks f.others signed_form_term_none)

form_rel_none : (r : FormRelTree) → HasEndings 0 (form_rel_marks r)
form_rel_none r = past_part 0 (form_marks r.left) _ (form_none r.left) (form_none r.right)

binder_none : (ns : Option Names) → HasEndings 0 (binder_marks ns)
binder_none None = no_marks
binder_none (Some ns) = past_part 0 _ _ (passed _ _) (names_none ns)

premises_none : (rs : Option FormRels) → HasEndings 0 (premises_marks rs)
premises_none None = no_marks
premises_none (Some rs) = past_part 0 _ _ (passed _ _)
    (past_part 0 (form_rel_marks rs.first) _ (form_rel_none rs.first) (each_none form_rel_marks rs.others form_rel_none))

pub clause_none : (c : ClauseTree) → HasEndings 0 (clause_marks c)
clause_none c = past_part 0 (binder_marks c.variables) _ (binder_none c.variables)
    (past_part 0 (premises_marks c.guards) _ (premises_none c.guards) (form_rel_none c.relation))

pub point_name_none : (p : PointName) → HasEndings 0 (point_name_marks p)
point_name_none p = past_part 0 (name_marks p.type_name) _ (name_none p.type_name) (name_none p.point)

pair_none : (p : PairTree) → HasEndings 0 (pair_marks p)
pair_none p = past_part 0 (variable_marks p.held) _ (variable_none p.held) (variable_none p.step)

pub pairs_none : (ps : Option Pairs) → HasEndings 0 (pairs_marks ps)
pairs_none None = no_marks
pairs_none (Some ps) = past_part 0 (pair_marks ps.first) _ (pair_none ps.first) (each_none pair_marks ps.others pair_none)
