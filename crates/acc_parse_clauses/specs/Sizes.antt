-- What is collected in values, rows and clauses and passes the limit of numbers: a coefficient or a constant that isn't within 2^45 of 0.
use Rattle.std.specs.Prelude.{not, List, [], ◌++◌, Option, Some, None, ℤ}
use Rattle.std.specs.List.{flat_map}
use Rattle.acc_base.specs.Numbers.{is_small}
use Rattle.acc_base.specs.declared.limits.Limit.TheVariants as limit
use Rattle.acc_parse_limits.specs.Marks.{Mark, past, ending}
use Rattle.acc_terms.specs.declared.collecting.Terms.{Terms}
use Rattle.acc_parse_syntax.specs.declared.trees.Sum.{Sum}
use Rattle.acc_parse_syntax.specs.declared.trees.Sums.{Sums}
use Rattle.acc_parse_syntax.specs.declared.trees.Place.{Place}
use Rattle.acc_parse_syntax.specs.declared.trees.LinRelTree.{LinRelTree}
use Rattle.acc_parse_syntax.specs.declared.trees.LinRels.{LinRels}
use Rattle.acc_parse_syntax.specs.declared.trees.Operand.{Operand}
use Rattle.acc_parse_syntax.specs.declared.trees.Operand.TheVariants as operands
use Rattle.acc_parse_syntax.specs.declared.trees.FormTerm.{FormTerm}
use Rattle.acc_parse_syntax.specs.declared.trees.FormTerm.TheVariants as form_terms
use Rattle.acc_parse_syntax.specs.declared.trees.SignedFormTerm.{SignedFormTerm}
use Rattle.acc_parse_syntax.specs.declared.trees.FormTree.{FormTree}
use Rattle.acc_parse_syntax.specs.declared.trees.FormRelTree.{FormRelTree}
use Rattle.acc_parse_syntax.specs.declared.trees.ClauseTree.{ClauseTree}
use Rattle.acc_parse_clauses.specs.Scopes.{Variables, Scope}
use Rattle.acc_parse_clauses.specs.Values.{terms_of, all_sums, lin_rel_terms, all_rels}
use Rattle.acc_parse_clauses.specs.Forms.{rel_terms, all_form_rels, clause_scope}

-- ---- values

abbrev pub size_mark : ℤ → List Mark
size_mark n = past limit.NumberSize (not (is_small n))

-- a collected coefficient
abbrev pub term_sizes : {K : Type 0} → K × ℤ → List Mark
term_sizes t = size_mark t.1

abbrev pub terms_sizes : {K : Type 0} → Terms K → List Mark
terms_sizes t = flat_map term_sizes t.terms ++ size_mark t.constant

abbrev pub sum_sizes : Variables → Sum → List Mark
sum_sizes v s = terms_sizes (terms_of v s)

abbrev pub sums_sizes : Variables → Sums → List Mark
sums_sizes v ss = flat_map (sum_sizes v) (all_sums ss)

abbrev pub values_sizes : Variables → Option Sums → List Mark
values_sizes v None = []
values_sizes v (Some ss) = sums_sizes v ss

abbrev pub lin_rel_sizes : Variables → LinRelTree → List Mark
lin_rel_sizes v r = terms_sizes (lin_rel_terms v r)

abbrev pub guard_sizes : Variables → Option LinRels → List Mark
guard_sizes v g = flat_map (lin_rel_sizes v) (all_rels g)

abbrev pub place_sizes : Scope → Place → List Mark
place_sizes s p = sums_sizes s.variables p.key

-- ---- clauses: the numbers of a key count also where its term falls away

abbrev pub operand_sizes : Scope → Operand → List Mark
operand_sizes s (operands.Variable x) = []
operand_sizes s (operands.Column c) = place_sizes s c.place
operand_sizes s (operands.Has p) = place_sizes s p
operand_sizes s (operands.Count p) = place_sizes s p
operand_sizes s (operands.Sum c) = place_sizes s c.place

abbrev pub form_term_sizes : Scope → FormTerm → List Mark
form_term_sizes s (form_terms.Constant n) = []
form_term_sizes s (form_terms.Plain o) = operand_sizes s o
form_term_sizes s (form_terms.Product n o) = operand_sizes s o

abbrev pub signed_form_term_sizes : Scope → SignedFormTerm → List Mark
signed_form_term_sizes s t = form_term_sizes s t.term

abbrev pub form_sizes : Scope → FormTree → List Mark
form_sizes s f = form_term_sizes s f.first ++ flat_map (signed_form_term_sizes s) f.others

abbrev pub rel_sizes : Scope → FormRelTree → List Mark
rel_sizes s r = form_sizes s r.left ++ (form_sizes s r.right ++ terms_sizes (rel_terms s r))

abbrev pub clause_sizes : Scope → ClauseTree → List Mark
clause_sizes s c = flat_map (rel_sizes (clause_scope s c)) (all_form_rels c.guards) ++ rel_sizes (clause_scope s c) c.relation

abbrev pub clause_statement_sizes : Scope → ClauseTree → List Mark
clause_statement_sizes s c = clause_sizes s c ++ ending
