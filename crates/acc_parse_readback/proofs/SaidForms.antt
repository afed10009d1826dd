-- The forms of a tree that is a design's, and relations between them, can be spelled.
use Rattle.std.proofs.Common.{◌≡◌, false, List, [], ◌++◌, refl, ℤ}
use Rattle.std.specs.Prelude.{IfSome, if◌then◌else◌}
use Rattle.std.specs.List.{flat_map, list_any}
use Rattle.std.proofs.lemmas.Bool.{or_parts}
use Rattle.acc_grammar.specs.Readers.{AllIn, joined}
use Rattle.acc_base.specs.Numbers.{IsSmall}
use Rattle.acc_base.specs.UnknownEquality.{unknown_eq, unknown_decides}
use Rattle.acc_base.specs.declared.forms.Unknown.{Unknown}
use Rattle.acc_lex.specs.declared.words.Sign.TheVariants as sign
use Rattle.acc_parse_syntax.specs.declared.trees.Operand.{Operand}
use Rattle.acc_parse_syntax.specs.declared.trees.Operand.TheVariants as operands
use Rattle.acc_parse_syntax.specs.declared.trees.FormTerm.{FormTerm}
use Rattle.acc_parse_syntax.specs.declared.trees.FormTerm.TheVariants as form_terms
use Rattle.acc_parse_syntax.specs.declared.trees.SignedFormTerm.{SignedFormTerm}
use Rattle.acc_parse_syntax.specs.declared.trees.FormTree.{FormTree}
use Rattle.acc_parse_syntax.specs.declared.trees.FormRelTree.{FormRelTree}
use Rattle.acc_parse_syntax.specs.Spelling.{just, operand, form_term, signed_form_term, form, relation_sign, form_rel}
use Rattle.acc_parse_names.specs.Faults.{operand_fault, form_term_fault, form_fault, form_rel_fault}
use Rattle.acc_parse_limits.specs.Words.{number_marks, operand_marks, form_term_marks, signed_form_term_marks, form_marks, form_rel_marks}
use Rattle.acc_terms.specs.declared.parts.Part.{Part}
use Rattle.acc_terms.specs.declared.collecting.Terms.{Terms}
use Rattle.acc_parse_clauses.specs.Values.{compared, collected_by}
use Rattle.acc_parse_clauses.specs.Forms.{atom_of, form_part, signed_form_part, form_parts, rel_terms, rel_of}
use Rattle.acc_parse_clauses.specs.Sizes.{terms_sizes, operand_sizes, form_term_sizes, signed_form_term_sizes, form_sizes, rel_sizes}
use Rattle.acc_parse_readback.specs.Printable.{IsAtomSaid, IsUnknownSaid, IsRelSaid}
use Rattle.acc_parse_readback.proofs.OnlyEnds.{AreEnds, IsEnd}
use Rattle.acc_parse_readback.proofs.SaidParts.{all_parts, all_joined, all_flat, all_map, all_by_two, all_by_four, none_false}
use Rattle.acc_parse_readback.proofs.SaidTerms.{collected_again, collected_each}
use Rattle.acc_parse_readback.proofs.SaidNames.{AreHeard, IsHeard, Setting, variable_said}
use Rattle.acc_parse_readback.proofs.SaidValues.{signed_has, compared_have, sizes_small}
use Rattle.acc_parse_readback.proofs.SaidRows.{meant, known, shown, place_said, cell_said}

operand_said : (a : Setting) (o : Operand) → AreHeard a.own (operand o) → operand_fault (known a) o ≡ false → AreEnds (operand_marks o) →
    AreEnds (operand_sizes (meant a) o) → IsAtomSaid (shown a) (atom_of (meant a) o)
operand_said a (operands.Variable x) heard names marks sizes = variable_said a x heard names marks
operand_said a (operands.Column c) heard names marks sizes = cell_said a c heard names marks sizes
operand_said a (operands.Has p) heard names marks sizes = place_said a p heard.1 names marks sizes
operand_said a (operands.Count p) heard names marks sizes = place_said a p heard.1 names marks sizes
operand_said a (operands.Sum c) heard names marks sizes = cell_said a c heard.1 names marks sizes

-- an unknown of a text can be spelled, and counts always
abbrev IsUnknown : Setting → Unknown → Type 0
IsUnknown a u = IsAtomSaid (shown a) u.atom × (u.under ≡ [])

term_has : (a : Setting) (t : FormTerm) → AreHeard a.own (form_term t) → form_term_fault (known a) t ≡ false → AreEnds (form_term_marks t) →
    AreEnds (form_term_sizes (meant a) t) → IfSome (form_part (meant a) t).of (IsUnknown a)
term_has a (form_terms.Constant n) heard names marks sizes = tt
term_has a (form_terms.Plain o) heard names marks sizes = (operand_said a o heard names marks sizes, refl)
term_has a (form_terms.Product n o) heard names marks sizes =
    (operand_said a o heard.1.1 names (all_parts IsEnd (number_marks n) (operand_marks o) marks).1 sizes, refl)

further_has : (a : Setting) (t : SignedFormTerm) → AreHeard a.own (signed_form_term t) → form_term_fault (known a) t.term ≡ false →
    AreEnds (signed_form_term_marks t) → AreEnds (signed_form_term_sizes (meant a) t) →
    IfSome (signed_form_part (meant a) t).of (IsUnknown a)
further_has a t heard names marks sizes =
    signed_has (IsUnknown a) t.minus (form_part (meant a) t.term)
    (term_has a t.term (all_parts (IsHeard a.own) (if t.minus then just sign.Minus else just sign.Plus) (form_term t.term) heard).1
    names marks sizes)

parts_have : (a : Setting) (f : FormTree) → AreHeard a.own (form f) → form_fault (known a) f ≡ false → AreEnds (form_marks f) →
    AreEnds (form_sizes (meant a) f) → AllIn (λ p. IfSome p.of (IsUnknown a)) (form_parts (meant a) f)
parts_have a f heard names marks sizes =
    let words = (all_parts (IsHeard a.own) (if f.minus then just sign.Minus else []) (form_term f.first ++ joined signed_form_term f.others)
    heard).1 in
    let both = all_parts (IsHeard a.own) (form_term f.first) (joined signed_form_term f.others) words in
    let faults = or_parts (form_term_fault (known a) f.first) (list_any (λ (t : SignedFormTerm). form_term_fault (known a) t.term) f.others)
    names in
    let ends = all_parts IsEnd (form_term_marks f.first) (flat_map signed_form_term_marks f.others) marks in
    let small = all_parts IsEnd (form_term_sizes (meant a) f.first) (flat_map (signed_form_term_sizes (meant a)) f.others) sizes in (
      signed_has (IsUnknown a) f.minus (form_part (meant a) f.first) (term_has a f.first both.0 faults.0 ends.0 small.0),
      all_map (λ (p : Part Unknown). IfSome p.of (IsUnknown a)) (signed_form_part (meant a)) f.others
          (all_by_four (λ t. AreHeard a.own (signed_form_term t)) (λ (t : SignedFormTerm). form_term_fault (known a) t.term ≡ false)
          (λ t. AreEnds (signed_form_term_marks t)) (λ t. AreEnds (signed_form_term_sizes (meant a) t))
          (λ t. IfSome (signed_form_part (meant a) t).of (IsUnknown a)) f.others (further_has a)
          (all_joined (IsHeard a.own) signed_form_term f.others both.1)
          (none_false (λ (t : SignedFormTerm). form_term_fault (known a) t.term) f.others faults.1)
          (all_flat IsEnd signed_form_term_marks f.others ends.1) (all_flat IsEnd (signed_form_term_sizes (meant a)) f.others small.1)),
    )

pub rel_said : (a : Setting) (r : FormRelTree) → AreHeard a.own (form_rel r) → form_rel_fault (known a) r ≡ false →
    AreEnds (form_rel_marks r) → AreEnds (rel_sizes (meant a) r) → IsRelSaid (shown a) (rel_of (meant a) r)
rel_said a r heard names marks sizes =
    let parts : List (Part Unknown) = compared r.relation (form_parts (meant a) r.left) (form_parts (meant a) r.right) in
    let t : Terms Unknown = collected_by unknown_eq parts in
    let words = all_parts (IsHeard a.own) (form r.left) (just (relation_sign r.relation) ++ form r.right) heard in
    let faults = or_parts (form_fault (known a) r.left) (form_fault (known a) r.right) names in
    let ends = all_parts IsEnd (form_marks r.left) (form_marks r.right) marks in
    let sides = all_parts IsEnd (form_sizes (meant a) r.left) (form_sizes (meant a) r.right ++ terms_sizes (rel_terms (meant a) r)) sizes in
    let behind = all_parts IsEnd (form_sizes (meant a) r.right) (terms_sizes (rel_terms (meant a) r)) sides.1 in
    let small = sizes_small t behind.1 in
    let have = compared_have (IsUnknown a) r.relation (form_parts (meant a) r.left) (form_parts (meant a) r.right)
    (parts_have a r.left words.0 faults.0 ends.0 sides.0) (parts_have a r.right words.1.1 faults.1 ends.1 behind.0) in
    record {
      terms = all_by_two (λ (u : Unknown × ℤ). IsUnknown a u.0) (λ (u : Unknown × ℤ). IsSmall u.1) (IsUnknownSaid (shown a)) t.terms
          (λ u p q. (p.0, q, p.1)) (collected_each unknown_eq (IsUnknown a) parts have) small.0;
      collected = collected_again unknown_eq unknown_decides parts;
      constant = small.1;
    }
