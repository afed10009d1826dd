-- The marks within a statement: names and numbers that are too long or too large, and lists that are too long.
use Rattle.std.specs.Prelude.{ℕ, ◌-◌, List, [], ◌++◌, length, Option, Some, None, nat_lt, nat_le}
use Rattle.std.specs.List.{flat_map}
use Rattle.acc_base.specs.declared.bounds.TheConstants.{LARGEST_NUMBER, LONGEST_NAME, MOST_GUARDS, MOST_VARIABLES, PAST_SMALL_NUMBERS}
use Rattle.acc_parse_syntax.specs.declared.trees.Variable.{Variable}
use Rattle.acc_parse_syntax.specs.declared.trees.Variable.TheVariants.{Named, Oneself}
use Rattle.acc_parse_syntax.specs.declared.trees.Term.{Term}
use Rattle.acc_parse_syntax.specs.declared.trees.Term.TheVariants.{Constant, Plain, Product}
use Rattle.acc_parse_syntax.specs.declared.trees.SignedTerm.{SignedTerm}
use Rattle.acc_parse_syntax.specs.declared.trees.Sum.{Sum}
use Rattle.acc_parse_syntax.specs.declared.trees.Sums.{Sums}
use Rattle.acc_parse_syntax.specs.declared.trees.Place.{Place}
use Rattle.acc_parse_syntax.specs.declared.trees.Cell.{Cell}
use Rattle.acc_parse_syntax.specs.declared.trees.Names.{Names}
use Rattle.acc_parse_syntax.specs.declared.trees.LinRelTree.{LinRelTree}
use Rattle.acc_parse_syntax.specs.declared.trees.LinRels.{LinRels}
use Rattle.acc_parse_syntax.specs.declared.trees.Operand.{Operand}
use Rattle.acc_parse_syntax.specs.declared.trees.Operand.TheVariants as operands
use Rattle.acc_parse_syntax.specs.declared.trees.FormTerm.{FormTerm}
use Rattle.acc_parse_syntax.specs.declared.trees.FormTerm.TheVariants as form_terms
use Rattle.acc_parse_syntax.specs.declared.trees.SignedFormTerm.{SignedFormTerm}
use Rattle.acc_parse_syntax.specs.declared.trees.FormTree.{FormTree}
use Rattle.acc_parse_syntax.specs.declared.trees.FormRelTree.{FormRelTree}
use Rattle.acc_parse_syntax.specs.declared.trees.FormRels.{FormRels}
use Rattle.acc_parse_syntax.specs.declared.trees.ClauseTree.{ClauseTree}
use Rattle.acc_parse_syntax.specs.declared.trees.PointName.{PointName}
use Rattle.acc_parse_syntax.specs.declared.trees.PairTree.{PairTree}
use Rattle.acc_parse_syntax.specs.declared.trees.Pairs.{Pairs}
use Rattle.acc_base.specs.declared.limits.Limit.TheVariants as limit
use Rattle.acc_parse_limits.specs.Marks.{Mark, past}

-- ---- names and numbers

-- a name of more than 32 bytes
abbrev pub name_marks : List ℕ → List Mark
name_marks x = past limit.NameLength (nat_lt LONGEST_NAME (length x))

-- a number above 2^45
abbrev pub number_marks : ℕ → List Mark
number_marks n = past limit.NumberSize (nat_lt LARGEST_NUMBER n)

-- a type's limit or a refusal's number, from 2^32 on
abbrev pub small_number_marks : ℕ → List Mark
small_number_marks n = past limit.NumberSize (nat_le PAST_SMALL_NUMBERS n)

abbrev pub names_marks : Names → List Mark
names_marks ns = name_marks ns.first ++ flat_map name_marks ns.others

-- ---- linear values

abbrev pub variable_marks : Variable → List Mark
variable_marks (Named x) = name_marks x
variable_marks Oneself = []

abbrev pub term_marks : Term → List Mark
term_marks (Constant n) = number_marks n
term_marks (Plain x) = variable_marks x
term_marks (Product n x) = number_marks n ++ variable_marks x

abbrev pub signed_term_marks : SignedTerm → List Mark
signed_term_marks s = term_marks s.term

abbrev pub sum_marks : Sum → List Mark
sum_marks s = term_marks s.first ++ flat_map signed_term_marks s.others

abbrev pub sums_marks : Sums → List Mark
sums_marks ss = sum_marks ss.first ++ flat_map sum_marks ss.others

abbrev pub place_marks : Place → List Mark
place_marks p = name_marks p.table ++ sums_marks p.key

abbrev pub cell_marks : Cell → List Mark
cell_marks c = place_marks c.place ++ name_marks c.column

-- ---- guards

abbrev pub lin_rel_marks : LinRelTree → List Mark
lin_rel_marks r = sum_marks r.left ++ sum_marks r.right

-- at most 16 relations: a first one, and 15 others
abbrev pub guard_marks : Option LinRels → List Mark
guard_marks None = []
guard_marks (Some rs) =
    past limit.GuardRelations (nat_lt (MOST_GUARDS - 1) (length rs.others)) ++ (lin_rel_marks rs.first ++ flat_map lin_rel_marks rs.others)

-- ---- clauses

abbrev pub operand_marks : Operand → List Mark
operand_marks (operands.Variable x) = variable_marks x
operand_marks (operands.Column c) = cell_marks c
operand_marks (operands.Has p) = place_marks p
operand_marks (operands.Count p) = place_marks p
operand_marks (operands.Sum c) = cell_marks c

abbrev pub form_term_marks : FormTerm → List Mark
form_term_marks (form_terms.Constant n) = number_marks n
form_term_marks (form_terms.Plain o) = operand_marks o
form_term_marks (form_terms.Product n o) = number_marks n ++ operand_marks o

abbrev pub signed_form_term_marks : SignedFormTerm → List Mark
signed_form_term_marks s = form_term_marks s.term

abbrev pub form_marks : FormTree → List Mark
form_marks f = form_term_marks f.first ++ flat_map signed_form_term_marks f.others

abbrev pub form_rel_marks : FormRelTree → List Mark
form_rel_marks r = form_marks r.left ++ form_marks r.right

-- at most 8 variables: a first one, and 7 others
abbrev pub binder_marks : Option Names → List Mark
binder_marks None = []
binder_marks (Some ns) = past limit.Variables (nat_lt (MOST_VARIABLES - 1) (length ns.others)) ++ names_marks ns

-- at most 16 relations before the arrow
abbrev pub premises_marks : Option FormRels → List Mark
premises_marks None = []
premises_marks (Some rs) =
    past limit.GuardRelations (nat_lt (MOST_GUARDS - 1) (length rs.others))
    ++ (form_rel_marks rs.first ++ flat_map form_rel_marks rs.others)

abbrev pub clause_marks : ClauseTree → List Mark
clause_marks c = binder_marks c.variables ++ (premises_marks c.guards ++ form_rel_marks c.relation)

-- ---- points by name, and pairs

abbrev pub point_name_marks : PointName → List Mark
point_name_marks p = name_marks p.type_name ++ name_marks p.point

abbrev pub pair_marks : PairTree → List Mark
pair_marks p = variable_marks p.held ++ variable_marks p.step

abbrev pub pairs_marks : Option Pairs → List Mark
pairs_marks None = []
pairs_marks (Some ps) = pair_marks ps.first ++ flat_map pair_marks ps.others
