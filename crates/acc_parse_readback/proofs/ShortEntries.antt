-- Entries and hints are printed at most eight times as long as they were written.
use Rattle.std.proofs.Common.{◌≡◌, ◌+◌, ◌*◌, ◌≤◌, Bool, false, ◌∷◌, ◌++◌, length, map, Option, Some, None, refl, ap, sym, ◌∙◌, subst, arith}
use Rattle.std.proofs.Common.{length-append}
use Rattle.std.specs.Prelude.{◌||◌, slice_get, codes}
use Rattle.std.specs.List.{list_any, flat_map}
use Rattle.std.proofs.lemmas.Bool.{or_parts}
use Rattle.acc_grammar.specs.Readers.{AllIn, joined}
use Rattle.acc_base.specs.Lines.{at_text, type_name, point_name}
use Rattle.acc_base.specs.Effects.{point_of as point_in}
use Rattle.acc_lex.specs.declared.words.Sign.TheVariants as sign
use Rattle.acc_parse_syntax.specs.declared.trees.PointName.{PointName}
use Rattle.acc_parse_syntax.specs.declared.trees.SideTree.{SideTree}
use Rattle.acc_parse_syntax.specs.declared.trees.SideTree.TheVariants as side_tree
use Rattle.acc_parse_syntax.specs.declared.trees.PairTree.{PairTree}
use Rattle.acc_parse_syntax.specs.declared.trees.Pairs.{Pairs}
use Rattle.acc_parse_syntax.specs.declared.trees.EntryTree.{EntryTree}
use Rattle.acc_parse_syntax.specs.declared.trees.HintTree.{HintTree}
use Rattle.acc_parse_syntax.specs.declared.trees.DesignTree.{DesignTree}
use Rattle.acc_parse_syntax.specs.Spelling.{just, variable, further, sum, side_sign, point_name as point_words, pair, pairs, entry, hint}
use Rattle.acc_parse_names.specs.Faults.{variable_fault, sum_fault, point_name_fault, locals_at, pair_fault, pairs_fault, entry_fault, hint_fault}
use Rattle.acc_parse_clauses.specs.Scopes.{variable_of}
use Rattle.acc_parse_clauses.specs.Values.{lin_of}
use Rattle.acc_parse.specs.Designs.{at_of, side_of, pair_of, all_pairs, entry_of, hint_of, design_of}
use Rattle.acc_print.specs.Lists.{spaced, listed}
use Rattle.acc_print.specs.Names.{name_at}
use Rattle.acc_print.specs.Values.{lin_text}
use Rattle.acc_print.specs.Designs.{side_text, pair_text, entry_line, hint_line}
use Rattle.acc_parse_readback.proofs.Faultless.{IsFalse}
use Rattle.acc_parse_readback.proofs.SaidParts.{all_parts, all_mapped, none_false}
use Rattle.acc_parse_readback.proofs.SaidNames.{IsHeard, AreHeard, Setting, variables_of}
use Rattle.acc_parse_readback.proofs.SaidPointNames.{IsBounded, IsTypeFound, type_found, at_point, point_there}
use Rattle.acc_parse_readback.proofs.Weights.{weight, weight-append}
use Rattle.acc_parse_readback.proofs.ShortLists.{further_short, joined_short}
use Rattle.acc_parse_readback.proofs.ShortNames.{variable_short}
use Rattle.acc_parse_readback.proofs.ShortValues.{lin_short}
use Rattle.acc_parse_readback.proofs.ShortReads.{line_long}

-- ---- pairs of variables

module _ (a b : Setting) (e : a.own ≡ false) (f : b.own ≡ false) where
  pair_short : (p : PairTree) → AreHeard false (pair p) → pair_fault a.known b.known p ≡ false →
      length (pair_text a.names b.names (pair_of (variables_of a) (variables_of b) p)) ≤ 8 * weight (pair p)
  pair_short p heard faults =
      let words = all_parts (IsHeard false) (variable p.held) (just sign.Equal ++ variable p.step) heard in
      let none = or_parts (variable_fault a.known p.held) (variable_fault b.known p.step) faults in
      let held = subst (λ (o : Bool). AreHeard o (variable p.held)) (sym e) words.0 in
      let step = subst (λ (o : Bool). AreHeard o (variable p.step)) (sym f) words.1.1 in
      let first = name_at a.names (variable_of (variables_of a) p.held) in
      let second = name_at b.names (variable_of (variables_of b) p.step) in
      omega (
        arith,
        variable_short a p.held held none.0,
        variable_short b p.step step none.1,
        length-append first (codes " = " ++ second),
        weight-append (variable p.held) (just sign.Equal ++ variable p.step),
      )

  pairs_short : (ps : Option Pairs) → AreHeard false (pairs ps) → pairs_fault a.known b.known ps ≡ false →
      length (listed (pair_text a.names b.names) (codes " : ") (map (pair_of (variables_of a) (variables_of b)) (all_pairs ps))) ≤ 8 *
      weight (pairs ps)
  pairs_short None heard faults = omega arith
  pairs_short (Some ps) heard faults =
      let words = all_parts (IsHeard false) (pair ps.first) (joined (further pair) ps.others) heard.1 in
      let none = or_parts (pair_fault a.known b.known ps.first) (list_any (pair_fault a.known b.known) ps.others) faults in
      let of = pair_of (variables_of a) (variables_of b) in
      let others = further_short false (pair_text a.names b.names) of pair (λ p. pair_fault a.known b.known p ≡ false) pair_short ps.others
      words.1 (none_false (pair_fault a.known b.known) ps.others none.1) in
      let first = pair_text a.names b.names (of ps.first) in
      let behind = listed (pair_text a.names b.names) (codes ", ") (map of ps.others) in
      let whole : length (listed (pair_text a.names b.names) (codes " : ") (map of (all_pairs (Some ps)))) ≡ 3 + length (first ++ behind) =
      length-append (codes " : ") (first ++ behind) in
      omega (
        arith,
        whole,
        pair_short ps.first words.0 none.0,
        others,
        length-append first behind,
        weight-append (pair ps.first) (joined (further pair) ps.others),
      )

side_short : (s : SideTree) → length (side_text (side_of s)) ≤ 1 + weight (just (side_sign s))
side_short side_tree.Next = omega arith
side_short side_tree.Undo = omega arith

module _ (d : DesignTree) (bounded : IsBounded d) where
  -- ---- points of types

  at_short : (p : PointName) → IsTypeFound d p → length (at_text (design_of d) (at_of d.types p)) ≤ weight (point_words p)
  at_short p f =
      let ty = type_name (slice_get (design_of d).types (at_of d.types p).ty) in
      let named = point_name (point_in (design_of d) (at_of d.types p).ty (at_of d.types p).point) in
      omega (arith, ap length (ap type_name f.there ∙ f.named), ap length (point_there d p f), length-append ty (46 ∷ named))

  -- ---- entries and hints

  entry_short : (t : EntryTree) → AreHeard false (entry t) → entry_fault d.types t ≡ false →
      length (entry_line (design_of d) (entry_of d.types t)) ≤ 8 * weight (entry t)
  entry_short t heard faults =
      let H = IsHeard false in
      let behind = pairs t.pairs ++ just sign.End in
      let held = all_parts H (point_words t.held) (just sign.By ++ (point_words t.by ++ (just (side_sign t.side) ++ behind))) heard.1 in
      let by = all_parts H (point_words t.by) (just (side_sign t.side) ++ behind) held.1.1 in
      let last = all_parts H (pairs t.pairs) (just sign.End) by.1.1 in
      let none = or_parts (point_name_fault d.types t.held)
      (point_name_fault d.types t.by || pairs_fault (locals_at d.types t.held) (locals_at d.types t.by) t.pairs) faults in
      let none_by = or_parts (point_name_fault d.types t.by) (pairs_fault (locals_at d.types t.held) (locals_at d.types t.by) t.pairs)
      none.1 in
      let f_held = type_found d t.held bounded none.0 in
      let f_by = type_found d t.by bounded none_by.0 in
      let a = at_point d t.held bounded f_held in
      let b = at_point d t.by bounded f_by in
      let at_held = at_text (design_of d) (at_of d.types t.held) in
      let at_by = at_text (design_of d) (at_of d.types t.by) in
      let side = side_text (side_of t.side) in
      let equal = listed (pair_text a.names b.names) (codes " : ") (map (pair_of (variables_of a) (variables_of b)) (all_pairs t.pairs)) in
      let text = codes "entry " ++ (at_held ++ (codes " by " ++ (at_by ++ (side ++ equal)))) in
      let whole : length (entry_line (design_of d) (entry_of d.types t)) ≡ length text + 1 = line_long text in
      omega (
        arith,
        whole,
        at_short t.held f_held,
        at_short t.by f_by,
        side_short t.side,
        pairs_short a b refl refl t.pairs last.0 none_by.1,
        length-append at_held (codes " by " ++ (at_by ++ (side ++ equal))),
        length-append at_by (side ++ equal),
        length-append side equal,
        weight-append (point_words t.held) (just sign.By ++ (point_words t.by ++ (just (side_sign t.side) ++ behind))),
        weight-append (point_words t.by) (just (side_sign t.side) ++ behind),
        weight-append (pairs t.pairs) (just sign.End),
      )

  hint_short : (t : HintTree) → AreHeard false (hint t) → hint_fault d.types t ≡ false →
      length (hint_line (design_of d) (hint_of d.types t)) ≤ 8 * weight (hint t)
  hint_short t heard faults =
      let H = IsHeard false in
      let words = all_parts H (point_words t.of) (just (side_sign t.side) ++ (sum t.value ++ just sign.End)) heard.1 in
      let last = all_parts H (sum t.value) (just sign.End) words.1.1 in
      let none = or_parts (point_name_fault d.types t.of) (sum_fault (locals_at d.types t.of) t.value) faults in
      let f = type_found d t.of bounded none.0 in
      let a = at_point d t.of bounded f in
      let at = at_text (design_of d) (at_of d.types t.of) in
      let side = side_text (side_of t.side) in
      let value = lin_text a.names (lin_of (variables_of a) t.value) in
      let text = codes "hint " ++ (at ++ (side ++ spaced value)) in
      let whole : length (hint_line (design_of d) (hint_of d.types t)) ≡ length text + 1 = line_long text in
      omega (
        arith,
        whole,
        at_short t.of f,
        side_short t.side,
        lin_short a t.value last.0 none.1,
        length-append at (side ++ spaced value),
        length-append side (spaced value),
        weight-append (point_words t.of) (just (side_sign t.side) ++ (sum t.value ++ just sign.End)),
        weight-append (sum t.value) (just sign.End),
      )

  pub entries_short : AreHeard false (joined entry d.entries) → AllIn IsFalse (map (entry_fault d.types) d.entries) →
      length (flat_map (entry_line (design_of d)) (map (entry_of d.types) d.entries)) ≤ 8 * weight (joined entry d.entries)
  entries_short heard faults =
      joined_short false (entry_line (design_of d)) (entry_of d.types) entry (λ t. entry_fault d.types t ≡ false) entry_short d.entries
      heard (all_mapped IsFalse (entry_fault d.types) d.entries faults)

  pub hints_short : AreHeard false (joined hint d.hints) → AllIn IsFalse (map (hint_fault d.types) d.hints) →
      length (flat_map (hint_line (design_of d)) (map (hint_of d.types) d.hints)) ≤ 8 * weight (joined hint d.hints)
  hints_short heard faults =
      joined_short false (hint_line (design_of d)) (hint_of d.types) hint (λ t. hint_fault d.types t ≡ false) hint_short d.hints heard
      (all_mapped IsFalse (hint_fault d.types) d.hints faults)
