-- The entries and hints of a tree that is a design's can be spelled.
use Rattle.std.proofs.Common.{◌≡◌, Bool, false, ◌++◌, map, Option, Some, None, refl, sym, subst}
use Rattle.std.specs.Prelude.{◌||◌}
use Rattle.std.specs.List.{flat_map, list_any}
use Rattle.std.proofs.lemmas.Bool.{or_parts}
use Rattle.acc_grammar.specs.Readers.{AllIn, joined}
use Rattle.acc_lex.specs.declared.words.Sign.TheVariants as sign
use Rattle.acc_parse_syntax.specs.declared.trees.PairTree.{PairTree}
use Rattle.acc_parse_syntax.specs.declared.trees.Pairs.{Pairs}
use Rattle.acc_parse_syntax.specs.declared.trees.EntryTree.{EntryTree}
use Rattle.acc_parse_syntax.specs.declared.trees.HintTree.{HintTree}
use Rattle.acc_parse_syntax.specs.declared.trees.DesignTree.{DesignTree}
use Rattle.acc_parse_syntax.specs.Spelling.{just, further, variable, sum, point_name, pair, pairs, side_sign, entry, hint}
use Rattle.acc_parse_names.specs.Faults.{variable_fault, sum_fault, point_name_fault, locals_at, pair_fault, pairs_fault, entry_fault, hint_fault}
use Rattle.acc_parse_limits.specs.Marks.{ending}
use Rattle.acc_parse_limits.specs.Words.{variable_marks, sum_marks, point_name_marks, pair_marks, pairs_marks}
use Rattle.acc_parse_limits.specs.Statements.{entry_marks, hint_marks}
use Rattle.acc_parse.specs.Designs.{variables_at, pair_of, all_pairs, entry_of, hint_of, design_of}
use Rattle.acc_parse_clauses.specs.Sizes.{sum_sizes}
use Rattle.acc_parse.specs.Sizes.{hint_sizes}
use Rattle.acc_parse_readback.specs.PrintableTypes.{IsPairSaid, IsEntrySaid, IsHintSaid}
use Rattle.acc_parse_readback.proofs.OnlyEnds.{AreEnds, IsEnd}
use Rattle.acc_parse_readback.proofs.Faultless.{IsFalse}
use Rattle.acc_parse_readback.proofs.SaidParts.{all_parts, all_joined, all_flat, all_map, all_mapped, all_by_three, all_by_four, none_false}
use Rattle.acc_parse_readback.proofs.SaidNames.{AreHeard, IsHeard, Setting, variables_of, name_said}
use Rattle.acc_parse_readback.proofs.SaidValues.{lin_said, lin_named}
use Rattle.acc_parse_readback.proofs.SaidRows.{furthers}
use Rattle.acc_parse_readback.proofs.SaidPointNames.{IsBounded, type_found, at_said, at_point}

-- ---- pairs of variables

pair_said : (a b : Setting) → a.own ≡ false → b.own ≡ false → (p : PairTree) → AreHeard false (pair p) →
    pair_fault a.known b.known p ≡ false → AreEnds (pair_marks p) → IsPairSaid a.names b.names (pair_of (variables_of a) (variables_of b) p)
pair_said a b e f p heard faults marks =
    let words = all_parts (IsHeard false) (variable p.held) (just sign.Equal ++ variable p.step) heard in
    let none = or_parts (variable_fault a.known p.held) (variable_fault b.known p.step) faults in
    let ends = all_parts IsEnd (variable_marks p.held) (variable_marks p.step) marks in (
      name_said a p.held e (subst (λ (o : Bool). AreHeard o (variable p.held)) (sym e) words.0) none.0 ends.0,
      name_said b p.step f (subst (λ (o : Bool). AreHeard o (variable p.step)) (sym f) words.1.1) none.1 ends.1,
    )

pairs_said : (a b : Setting) → a.own ≡ false → b.own ≡ false → (ps : Option Pairs) → AreHeard false (pairs ps) →
    pairs_fault a.known b.known ps ≡ false → AreEnds (pairs_marks ps)
    → AllIn (IsPairSaid a.names b.names) (map (pair_of (variables_of a) (variables_of b)) (all_pairs ps))
pairs_said a b e f None heard faults marks = tt
pairs_said a b e f (Some ps) heard faults marks =
    let words = all_parts (IsHeard false) (pair ps.first) (joined (further pair) ps.others) heard.1 in
    let none = or_parts (pair_fault a.known b.known ps.first) (list_any (pair_fault a.known b.known) ps.others) faults in
    let ends = all_parts IsEnd (pair_marks ps.first) (flat_map pair_marks ps.others) marks in (
      pair_said a b e f ps.first words.0 none.0 ends.0,
      all_map (IsPairSaid a.names b.names) (pair_of (variables_of a) (variables_of b)) ps.others
          (all_by_three (λ p. AreHeard false (pair p)) (λ p. pair_fault a.known b.known p ≡ false) (λ p. AreEnds (pair_marks p))
          (λ p. IsPairSaid a.names b.names (pair_of (variables_of a) (variables_of b) p)) ps.others (pair_said a b e f)
          (furthers false pair ps.others words.1) (none_false (pair_fault a.known b.known) ps.others none.1)
          (all_flat IsEnd pair_marks ps.others ends.1)),
    )

-- ---- entries and hints

module _ (d : DesignTree) (bounded : IsBounded d) where
  entry_said : (t : EntryTree) → AreHeard false (entry t) → entry_fault d.types t ≡ false → AreEnds (entry_marks t) →
      IsEntrySaid (design_of d) (entry_of d.types t)
  entry_said t heard faults marks =
      let H = IsHeard false in
      let held = all_parts H (point_name t.held) (just sign.By ++
      (point_name t.by ++ (just (side_sign t.side) ++ (pairs t.pairs ++ just sign.End)))) heard.1 in
      let by = all_parts H (point_name t.by) (just (side_sign t.side) ++ (pairs t.pairs ++ just sign.End)) held.1.1 in
      let last = all_parts H (pairs t.pairs) (just sign.End) by.1.1 in
      let none = or_parts (point_name_fault d.types t.held)
      (point_name_fault d.types t.by || pairs_fault (locals_at d.types t.held) (locals_at d.types t.by) t.pairs) faults in
      let none_by = or_parts (point_name_fault d.types t.by) (pairs_fault (locals_at d.types t.held) (locals_at d.types t.by) t.pairs)
      none.1 in
      let e_held = all_parts IsEnd (point_name_marks t.held) (point_name_marks t.by ++ (pairs_marks t.pairs ++ ending)) marks in
      let e_by = all_parts IsEnd (point_name_marks t.by) (pairs_marks t.pairs ++ ending) e_held.1 in
      let e_pairs = all_parts IsEnd (pairs_marks t.pairs) ending e_by.1 in
      let f_held = type_found d t.held bounded none.0 in
      let f_by = type_found d t.by bounded none_by.0 in
      record {
        held = at_said d t.held f_held held.0 e_held.0;
        step = at_said d t.by f_by by.0 e_by.0;
        pairs = pairs_said (at_point d t.held bounded f_held) (at_point d t.by bounded f_by) refl refl t.pairs last.0 none_by.1 e_pairs.0;
      }

  hint_said : (t : HintTree) → AreHeard false (hint t) → hint_fault d.types t ≡ false → AreEnds (hint_marks t) →
      AreEnds (hint_sizes d.types t) → IsHintSaid (design_of d) (hint_of d.types t)
  hint_said t heard faults marks sizes =
      let H = IsHeard false in
      let words = all_parts H (point_name t.of) (just (side_sign t.side) ++ (sum t.value ++ just sign.End)) heard.1 in
      let last = all_parts H (sum t.value) (just sign.End) words.1.1 in
      let none = or_parts (point_name_fault d.types t.of) (sum_fault (locals_at d.types t.of) t.value) faults in
      let ends = all_parts IsEnd (point_name_marks t.of) (sum_marks t.value ++ ending) marks in
      let e_value = all_parts IsEnd (sum_marks t.value) ending ends.1 in
      let small = all_parts IsEnd (sum_sizes (variables_at d.types t.of) t.value) ending sizes in
      let f = type_found d t.of bounded none.0 in
      let a = at_point d t.of bounded f in
      record {
        at = at_said d t.of f words.0 ends.0;
        named = lin_named a t.value refl last.0 none.1 e_value.0 small.0;
        value = lin_said a t.value last.0 none.1 e_value.0 small.0;
      }

  pub entries_said : AreHeard false (joined entry d.entries) → AllIn IsFalse (map (entry_fault d.types) d.entries) →
      AllIn (λ t. AreEnds (entry_marks t)) d.entries → AllIn (IsEntrySaid (design_of d)) (map (entry_of d.types) d.entries)
  entries_said heard faults marks =
      all_map (IsEntrySaid (design_of d)) (entry_of d.types) d.entries
      (all_by_three (λ t. AreHeard false (entry t)) (λ t. entry_fault d.types t ≡ false) (λ t. AreEnds (entry_marks t))
      (λ t. IsEntrySaid (design_of d) (entry_of d.types t)) d.entries entry_said
      (all_joined (IsHeard false) entry d.entries heard) (all_mapped IsFalse (entry_fault d.types) d.entries faults) marks)

  pub hints_said : AreHeard false (joined hint d.hints) → AllIn IsFalse (map (hint_fault d.types) d.hints) →
      AllIn (λ t. AreEnds (hint_marks t)) d.hints → AreEnds (flat_map (hint_sizes d.types) d.hints) →
      AllIn (IsHintSaid (design_of d)) (map (hint_of d.types) d.hints)
  hints_said heard faults marks sizes =
      all_map (IsHintSaid (design_of d)) (hint_of d.types) d.hints
      (all_by_four (λ t. AreHeard false (hint t)) (λ t. hint_fault d.types t ≡ false) (λ t. AreEnds (hint_marks t))
      (λ t. AreEnds (hint_sizes d.types t)) (λ t. IsHintSaid (design_of d) (hint_of d.types t)) d.hints hint_said
      (all_joined (IsHeard false) hint d.hints heard) (all_mapped IsFalse (hint_fault d.types) d.hints faults) marks
      (all_flat IsEnd (hint_sizes d.types) d.hints sizes))
