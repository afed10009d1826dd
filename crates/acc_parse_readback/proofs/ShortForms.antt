-- Relations between forms are printed at most eight times as long as they were written.
use Rattle.std.proofs.Common.{◌≡◌, ℕ, ◌+◌, ◌*◌, ◌≤◌, false, List, [], ◌∷◌, ◌++◌, length, map, arith, length-append}
use Rattle.std.specs.Prelude.{max, if◌then◌else◌}
use Rattle.std.specs.List.{list_any}
use Rattle.std.proofs.lemmas.Bool.{or_parts}
use Rattle.acc_grammar.specs.Readers.{AllIn, joined}
use Rattle.acc_base.specs.UnknownEquality.{unknown_eq, unknown_decides}
use Rattle.acc_base.specs.declared.forms.Unknown.{Unknown}
use Rattle.acc_lex.specs.declared.words.Sign.TheVariants as sign
use Rattle.acc_parse_syntax.specs.declared.trees.Place.{Place}
use Rattle.acc_parse_syntax.specs.declared.trees.Cell.{Cell}
use Rattle.acc_parse_syntax.specs.declared.trees.Operand.{Operand}
use Rattle.acc_parse_syntax.specs.declared.trees.Operand.TheVariants as operands
use Rattle.acc_parse_syntax.specs.declared.trees.FormTerm.{FormTerm}
use Rattle.acc_parse_syntax.specs.declared.trees.FormTerm.TheVariants as form_terms
use Rattle.acc_parse_syntax.specs.declared.trees.SignedFormTerm.{SignedFormTerm}
use Rattle.acc_parse_syntax.specs.declared.trees.FormTree.{FormTree}
use Rattle.acc_parse_syntax.specs.declared.trees.FormRelTree.{FormRelTree}
use Rattle.acc_parse_syntax.specs.Spelling.{just, name, sums, place, cell, operand, form_term, signed_form_term, form, relation_sign, form_rel}
use Rattle.acc_parse_names.specs.Faults.{operand_fault, form_term_fault, form_fault, form_rel_fault}
use Rattle.acc_terms.specs.declared.parts.Part.{Part}
use Rattle.acc_terms.specs.Parts.{constant_of}
use Rattle.acc_terms.specs.Collected.{collected}
use Rattle.acc_parse_clauses.specs.Values.{compared, collected_by, is_equation}
use Rattle.acc_parse_clauses.specs.Forms.{atom_of, form_part, signed_form_part, form_parts, rel_of, form_by}
use Rattle.acc_print.specs.Values.{comparison}
use Rattle.acc_print.specs.Clauses.{atom_text, unknown_text, form_text, rel_text}
use Rattle.acc_parse_readback.proofs.SaidParts.{all_parts, none_false}
use Rattle.acc_parse_readback.proofs.SaidNames.{IsHeard, AreHeard, Setting}
use Rattle.acc_parse_readback.proofs.SaidRows.{meant, known, shown}
use Rattle.acc_parse_readback.proofs.Weights.{weight, weight-append}
use Rattle.acc_parse_readback.proofs.ShortSums.{size_cost_most, part_cost, parts_cost, signed_cost, compared_cost, collected_cost, sum_short}
use Rattle.acc_parse_readback.proofs.ShortNames.{variable_short}
use Rattle.acc_parse_readback.proofs.ShortValues.{one_size, variable_some, compared_short, row_short, cell_short}

place_long : (p : Place) → 3 ≤ weight (place p)
place_long p = omega (arith, weight-append (sums p.key) (just sign.Close))

cell_long : (c : Cell) → 5 ≤ weight (cell c)
cell_long c = omega (arith, place_long c.place, weight-append (place c.place) (just sign.Dot ++ name c.column))

module _ (a : Setting) where
  -- with a sign and a digit
  operand_short : (o : Operand) → AreHeard a.own (operand o) → operand_fault (known a) o ≡ false →
      5 + length (atom_text (shown a) (atom_of (meant a) o)) ≤ 8 * weight (operand o)
  operand_short (operands.Variable x) heard none = omega (arith, variable_short a x heard none, variable_some x)
  operand_short (operands.Column c) heard none = omega (arith, cell_short a c heard none, cell_long c)
  operand_short (operands.Has p) heard none = omega (arith, row_short a p heard.1 none)
  operand_short (operands.Count p) heard none = omega (arith, row_short a p heard.1 none)
  operand_short (operands.Sum c) heard none = omega (arith, cell_short a c heard.1 none)

  abbrev long : Unknown → ℕ
  long u = length (unknown_text (shown a) u)

  term_short : (t : FormTerm) → AreHeard a.own (form_term t) → form_term_fault (known a) t ≡ false →
      (part_cost long (form_part (meant a) t) ≤ 8 * weight (form_term t)) × (1 ≤ weight (form_term t))
  term_short (form_terms.Constant n) heard none = (omega (arith, size_cost_most n), omega arith)
  term_short (form_terms.Plain o) heard none = let h = operand_short o heard none in (omega (arith, one_size, h), omega (arith, h))
  term_short (form_terms.Product n o) heard none = (omega (arith, operand_short o heard.1.1 none), omega arith)

  others_short : (ts : List SignedFormTerm) → AreHeard a.own (joined signed_form_term ts) →
      AllIn (λ (t : SignedFormTerm). form_term_fault (known a) t.term ≡ false) ts →
      parts_cost long (map (signed_form_part (meant a)) ts) ≤ 8 * weight (joined signed_form_term ts)
  others_short [] heard none = omega arith
  others_short (t ∷ ts) heard none =
      let words = all_parts (IsHeard a.own) (signed_form_term t) (joined signed_form_term ts) heard in
      let inner = all_parts (IsHeard a.own) (if t.minus then just sign.Minus else just sign.Plus) (form_term t.term) words.0 in
      omega (
        arith,
        term_short t.term inner.1 none.0,
        others_short ts words.1 none.1,
        signed_cost long t.minus (form_part (meant a) t.term),
        weight-append (signed_form_term t) (joined signed_form_term ts),
        weight-append (if t.minus then just sign.Minus else just sign.Plus) (form_term t.term),
      )

  form_cost : (f : FormTree) → AreHeard a.own (form f) → form_fault (known a) f ≡ false →
      (parts_cost long (form_parts (meant a) f) ≤ 8 * weight (form f)) × (1 ≤ weight (form f))
  form_cost f heard none =
      let words = all_parts (IsHeard a.own) (if f.minus then just sign.Minus else [])
      (form_term f.first ++ joined signed_form_term f.others) heard in
      let inner = all_parts (IsHeard a.own) (form_term f.first) (joined signed_form_term f.others) words.1 in
      let faults = or_parts (form_term_fault (known a) f.first)
      (list_any (λ (t : SignedFormTerm). form_term_fault (known a) t.term) f.others) none in
      let first = term_short f.first inner.0 faults.0 in
      let others = others_short f.others inner.1 (none_false (λ (t : SignedFormTerm). form_term_fault (known a) t.term) f.others faults.1)
      in
      let cost = signed_cost long f.minus (form_part (meant a) f.first) in
      let w = weight-append (if f.minus then just sign.Minus else []) (form_term f.first ++ joined signed_form_term f.others) in
      let v = weight-append (form_term f.first) (joined signed_form_term f.others) in
      (omega (arith, first, others, cost, w, v), omega (arith, first, w, v))

  form_by_short : (parts : List (Part Unknown)) →
      length (form_text (shown a) (form_by (collected_by unknown_eq parts))) ≤ max 1 (parts_cost long parts)
  form_by_short parts = omega (
    arith,
    sum_short (unknown_text (shown a)) (collected unknown_eq parts) (constant_of parts),
    collected_cost long unknown_eq unknown_decides parts,
  )

  pub rel_short : (r : FormRelTree) → AreHeard a.own (form_rel r) → form_rel_fault (known a) r ≡ false →
      length (rel_text (shown a) (rel_of (meant a) r)) ≤ 8 * weight (form_rel r)
  rel_short r heard none =
      let words = all_parts (IsHeard a.own) (form r.left) (just (relation_sign r.relation) ++ form r.right) heard in
      let faults = or_parts (form_fault (known a) r.left) (form_fault (known a) r.right) none in
      let left = form_cost r.left words.0 faults.0 in
      let right = form_cost r.right words.1.1 faults.1 in
      let parts = compared r.relation (form_parts (meant a) r.left) (form_parts (meant a) r.right) in
      omega (
        arith,
        left,
        right,
        form_by_short parts,
        compared_cost long r.relation (form_parts (meant a) r.left) (form_parts (meant a) r.right),
        compared_short r.relation,
        length-append (form_text (shown a) (form_by (collected_by unknown_eq parts))) (comparison (is_equation r.relation)),
        weight-append (form r.left) (just (relation_sign r.relation) ++ form r.right),
      )
