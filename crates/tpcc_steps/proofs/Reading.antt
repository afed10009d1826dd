-- The shipped text is a design's text, and which design it is. What the readers of texts make of its bytes is computed here, to the end.
use Rattle.std.proofs.Common.{◌≡◌, List, [], ◌∷◌, true, false, refl, Ok, None, map, ◌∙◌}
use Rattle.acc_parse_names.specs.Faults.{first_fault_of}
use Rattle.acc_parse.specs.Texts.{IsDesignText, past_limits}
use Rattle.acc_shipped.specs.Amounts.{clause_of}
use Rattle.tpcc_steps.specs.Shipped.{HasShipped, shipped_always, shipped_tables}
use Rattle.tpcc_steps.specs.ShippedText.{shipped_bytes, shipped_design}
use Rattle.acc_shipped.specs.Texts.{lines_in, words_in, tree_in}
use Rattle.acc_shipped.proofs.OwnScan.{scan}
use Rattle.acc_shipped.proofs.Reading.{IsReadWhole, is_design_text}
use Rattle.acc_grammar.specs.Readers.{many_for, many}
use Rattle.acc_grammar.specs.Runs.{one_at, run_at, front_at, absent_at}
use Rattle.acc_lex.specs.Keywords.{keyword_of}
use Rattle.acc_lex.specs.Readings.{spaces_at, letters_at, zero_at, whole_at, pair_at, arrow_at, equal_at, mark_at, token_at, item_at}
use Rattle.acc_lex.specs.Readings.{items_at, statement_at, next_statement_at, next_statements_at, remark_at, rest_at, body_at, line_at}
use Rattle.acc_lex.specs.Readings.{next_line_at, next_lines_at, lines_at}
use Rattle.acc_parse_syntax.specs.ClauseReaders.{binder_at, conclusion_at, clause_at, clause_statement_at, variant_at}
use Rattle.acc_parse_syntax.specs.FormReaders.{key_and_column_at, named_operand_at, operand_at, operand_factor_at, form_number_term_at}
use Rattle.acc_parse_syntax.specs.FormReaders.{form_term_at, signed_form_term_at, form_at, form_rel_at}
use Rattle.acc_parse_syntax.specs.TableReaders.{private_at, table_at, names_at, names_statement_at}
use Rattle.acc_parse_syntax.specs.ValueReaders.{variable_at, factor_at, number_term_at, term_at, minus_at, direction_at, signed_term_at, sum_at}
use Rattle.acc_parse_syntax.specs.ValueReaders.{sums_at, values_at, place_at, cell_at, relation_at, lin_rel_at, lin_rels_at, guard_at}
use Rattle.acc_parse_syntax.specs.WordReaders.{sign_at, name_at, number_at, end_at, further_at}
use Rattle.acc_parse_steps.specs.ActionReaders.{put_at, del_at, set_at, add_at, action_at, refuse_at, target_at}
use Rattle.acc_parse_steps.specs.ReadReaders.{assigned_at, row_read_at, cell_read_at, let_at, get_at, has_at, count_at, sum_read_at}
use Rattle.acc_parse_steps.specs.ReadReaders.{least_at, greatest_at, take_at, mul_at, div_at, read_at}
use Rattle.acc_parse_steps.specs.StepReaders.{path_at, step_at, side_at}
use Rattle.acc_parse_designs.specs.DesignReaders.{point_head_at, point_at, limit_at, type_head_at, type_names_at, type_clauses_at}
use Rattle.acc_parse_designs.specs.DesignReaders.{type_points_at, type_at, design_at}
use Rattle.acc_parse_designs.specs.EntryReaders.{point_name_at, side_name_at, pair_at as designs_pair_at, pairs_at, entry_head_at, entry_at}
use Rattle.acc_parse_designs.specs.EntryReaders.{hint_at}
use Rattle.acc_parse_limits.specs.Numbers.{is_lower, is_before}
use Rattle.acc_parse_limits.specs.Faults.{limit_faults}
use Rattle.acc_parse_meaning.specs.Sizes.{size_faults}

lines_read : lines_at shipped_bytes ≡ Ok (lines_in shipped_bytes, [])
unfolding many_for many one_at run_at front_at absent_at keyword_of spaces_at letters_at zero_at whole_at pair_at arrow_at equal_at mark_at token_at item_at items_at statement_at next_statement_at next_statements_at remark_at rest_at body_at line_at next_line_at next_lines_at lines_at
lines_read = refl

tree_read : design_at (words_in shipped_bytes) ≡ Ok (tree_in shipped_bytes, [])
unfolding many_for many one_at run_at front_at absent_at keyword_of spaces_at letters_at zero_at whole_at pair_at arrow_at equal_at mark_at token_at item_at items_at statement_at next_statement_at next_statements_at remark_at rest_at body_at line_at next_line_at next_lines_at lines_at binder_at conclusion_at clause_at clause_statement_at variant_at key_and_column_at named_operand_at operand_at operand_factor_at form_number_term_at form_term_at signed_form_term_at form_at form_rel_at private_at table_at names_at names_statement_at variable_at factor_at number_term_at term_at minus_at direction_at signed_term_at sum_at sums_at values_at place_at cell_at relation_at lin_rel_at lin_rels_at guard_at sign_at name_at number_at end_at further_at put_at del_at set_at add_at action_at refuse_at target_at assigned_at row_read_at cell_read_at let_at get_at has_at count_at sum_read_at least_at greatest_at take_at mul_at div_at read_at path_at step_at side_at point_head_at point_at limit_at type_head_at type_names_at type_clauses_at type_points_at type_at design_at point_name_at side_name_at designs_pair_at pairs_at entry_head_at entry_at hint_at is_lower is_before limit_faults size_faults
tree_read = refl

-- what is asked of the tree, in one record, since each lemma computes all from the bytes on
record IsShippedTree : Type 0 where
  names : first_fault_of (tree_in shipped_bytes) ≡ None
  limits : past_limits (tree_in shipped_bytes) ≡ []
  own : scan false false false (words_in shipped_bytes) ≡ true
  tables : shipped_design.tables ≡ shipped_tables
  always : shipped_design.always ≡ map clause_of shipped_always

is_shipped : IsShippedTree
unfolding many_for many one_at run_at front_at absent_at keyword_of spaces_at letters_at zero_at whole_at pair_at arrow_at equal_at mark_at token_at item_at items_at statement_at next_statement_at next_statements_at remark_at rest_at body_at line_at next_line_at next_lines_at lines_at binder_at conclusion_at clause_at clause_statement_at variant_at key_and_column_at named_operand_at operand_at operand_factor_at form_number_term_at form_term_at signed_form_term_at form_at form_rel_at private_at table_at names_at names_statement_at variable_at factor_at number_term_at term_at minus_at direction_at signed_term_at sum_at sums_at values_at place_at cell_at relation_at lin_rel_at lin_rels_at guard_at sign_at name_at number_at end_at further_at put_at del_at set_at add_at action_at refuse_at target_at assigned_at row_read_at cell_read_at let_at get_at has_at count_at sum_read_at least_at greatest_at take_at mul_at div_at read_at path_at step_at side_at point_head_at point_at limit_at type_head_at type_names_at type_clauses_at type_points_at type_at design_at point_name_at side_name_at designs_pair_at pairs_at entry_head_at entry_at hint_at is_lower is_before limit_faults size_faults
is_shipped = record { names = refl; limits = refl; own = refl; tables = refl; always = refl }

pub is_text : IsDesignText shipped_bytes shipped_design
is_text = is_design_text shipped_bytes (record {
  lines = lines_read;
  tree = tree_read;
  names = is_shipped.names;
  limits = is_shipped.limits;
  own = is_shipped.own;
})

pub has_shipped : HasShipped shipped_design
has_shipped = record { tables = is_shipped.tables; always = is_shipped.always }
