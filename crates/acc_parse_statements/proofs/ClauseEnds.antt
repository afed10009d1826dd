-- What stands within a clause has no end.
use Rattle.std.proofs.Common.{◌≡◌, [], Option, Some, None, refl}
use Rattle.acc_parse_syntax.specs.declared.trees.Names.{Names}
use Rattle.acc_parse_syntax.specs.declared.trees.Operand.{Operand}
use Rattle.acc_parse_syntax.specs.declared.trees.Operand.TheVariants as operands
use Rattle.acc_parse_syntax.specs.declared.trees.FormTerm.{FormTerm}
use Rattle.acc_parse_syntax.specs.declared.trees.FormTerm.TheVariants as form_terms
use Rattle.acc_parse_syntax.specs.declared.trees.SignedFormTerm.{SignedFormTerm}
use Rattle.acc_parse_syntax.specs.declared.trees.FormTree.{FormTree}
use Rattle.acc_parse_syntax.specs.declared.trees.FormRelTree.{FormRelTree}
use Rattle.acc_parse_syntax.specs.declared.trees.FormRels.{FormRels}
use Rattle.acc_parse_syntax.specs.declared.trees.ClauseTree.{ClauseTree}
use Rattle.acc_parse_syntax.specs.Spelling.{names, further, operand, form_term, signed_form_term, form, form_rel, form_rels, binder, premises}
use Rattle.acc_parse_syntax.specs.Spelling.{clause}
use Rattle.acc_parse_statements.specs.Ends.{ends}
use Rattle.acc_parse_statements.proofs.Within.{no_ends, past_word, past_part, joined_none, further_none, number_none, names_none, variable_none}
use Rattle.acc_parse_statements.proofs.Within.{sign_none, minus_none, place_none, cell_none, compared_none}

operand_none : (o : Operand) → ends (operand o) ≡ 0
operand_none (operands.Variable x) = variable_none x
operand_none (operands.Column c) = cell_none c
operand_none (operands.Has p) = past_word 0 _ _ refl (place_none p)
operand_none (operands.Count p) = past_word 0 _ _ refl (place_none p)
operand_none (operands.Sum c) = past_word 0 _ _ refl (cell_none c)

form_term_none : (t : FormTerm) → ends (form_term t) ≡ 0
form_term_none (form_terms.Constant n) = number_none n
form_term_none (form_terms.Plain o) = operand_none o
form_term_none (form_terms.Product n o) = past_word 0 _ _ refl (past_word 0 _ _ refl (operand_none o))

signed_form_term_none : (s : SignedFormTerm) → ends (signed_form_term s) ≡ 0
signed_form_term_none s = past_part 0 _ (form_term s.term) (sign_none s.minus) (form_term_none s.term)

form_none : (f : FormTree) → ends (form f) ≡ 0
form_none f = past_part 0 _ _ (minus_none f.minus)
    (past_part 0 (form_term f.first) _ (form_term_none f.first) (joined_none signed_form_term f.others signed_form_term_none))

form_rel_none : (r : FormRelTree) → ends (form_rel r) ≡ 0
form_rel_none r = compared_none (form r.left) (form r.right) r.relation (form_none r.left) (form_none r.right)

form_rels_none : (rs : FormRels) → ends (form_rels rs) ≡ 0
form_rels_none rs = past_part 0 (form_rel rs.first) _ (form_rel_none rs.first)
    (joined_none (further form_rel) rs.others (further_none form_rel form_rel_none))

binder_none : (ns : Option Names) → ends (binder ns) ≡ 0
binder_none None = no_ends
binder_none (Some ns) = past_word 0 _ _ refl (past_part 0 (names ns) _ (names_none ns) (past_word 0 _ [] refl no_ends))

premises_none : (rs : Option FormRels) → ends (premises rs) ≡ 0
premises_none None = no_ends
premises_none (Some rs) = past_part 0 (form_rels rs) _ (form_rels_none rs) (past_word 0 _ [] refl no_ends)

pub clause_none : (c : ClauseTree) → ends (clause c) ≡ 0
clause_none c = past_part 0 (binder c.variables) _ (binder_none c.variables)
    (past_part 0 (premises c.guards) _ (premises_none c.guards) (form_rel_none c.relation))
