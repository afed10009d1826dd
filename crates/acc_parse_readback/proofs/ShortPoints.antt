-- The points of a type are printed at most eight times as long as they were written.
use Rattle.std.proofs.Common.{◌≡◌, ℕ, ◌+◌, ◌*◌, ◌≤◌, Bool, true, false, List, [], ◌++◌, length, map, Option, Some, None, arith}
use Rattle.std.proofs.Common.{length-append}
use Rattle.std.specs.Prelude.{if◌then◌else◌, codes}
use Rattle.std.specs.List.{flat_map}
use Rattle.acc_grammar.specs.Readers.{AllIn, joined}
use Rattle.acc_base.specs.Lines.{line}
use Rattle.acc_base.specs.declared.designs.Point.{Point}
use Rattle.acc_lex.specs.declared.words.Sign.TheVariants as sign
use Rattle.acc_parse_syntax.specs.declared.trees.Sum.{Sum}
use Rattle.acc_parse_syntax.specs.declared.trees.PointTree.{PointTree}
use Rattle.acc_parse_syntax.specs.Spelling.{just, name, sum, clause_statement, variant_statement, step, side, point}
use Rattle.acc_parse_names.specs.Faults.{clause_fault, variant_faults, step_faults, point_faults}
use Rattle.acc_parse_clauses.specs.Values.{lin_of}
use Rattle.acc_parse_clauses.specs.Forms.{clause_of}
use Rattle.acc_parse.specs.Steps.{step_of}
use Rattle.acc_parse.specs.Types.{variant_of, point_of}
use Rattle.acc_print.specs.Values.{lin_text}
use Rattle.acc_print.specs.Clauses.{clause_line}
use Rattle.acc_print.specs.Steps.{step_lines}
use Rattle.acc_print.specs.Types.{is_zero, variant_lines, point_lines}
use Rattle.acc_parse_readback.specs.PrintableTypes.{IsPointSaid}
use Rattle.acc_parse_readback.proofs.Faultless.{IsFalse}
use Rattle.acc_parse_readback.proofs.SaidParts.{all_parts}
use Rattle.acc_parse_readback.proofs.SaidNames.{IsHeard, AreHeard, Setting, variables_of}
use Rattle.acc_parse_readback.proofs.SaidRows.{meant, known, shown}
use Rattle.acc_parse_readback.proofs.SaidSteps.{AreNamed}
use Rattle.acc_parse_readback.proofs.Weights.{weight, weight-append}
use Rattle.acc_parse_readback.proofs.ShortValues.{lin_short}
use Rattle.acc_parse_readback.proofs.ShortClauses.{clauses_short}
use Rattle.acc_parse_readback.proofs.ShortReads.{line_long}
use Rattle.acc_parse_readback.proofs.ShortSteps.{step_short}

-- a variant that is 0 isn't printed
variant_short : (a : Setting) (v : Option Sum) → AreHeard a.own (variant_statement v) → AllIn IsFalse (variant_faults a.known v) →
    length (variant_lines a.names (variant_of (variables_of a) v)) ≤ 8 * weight (variant_statement v)
variant_short a None heard faults = omega arith
variant_short a (Some s) heard faults =
    let words = all_parts (IsHeard a.own) (sum s) (just sign.End) heard.1 in
    let l = lin_of (variables_of a) s in
    by (is_zero l.coeffs l.constant) (omega (
      arith,
      lin_short a s words.0 faults.0,
      line_long (codes "variant " ++ lin_text a.names l),
      weight-append (sum s) (just sign.End),
    ))
  where
    by : (b : Bool) → length (line (codes "variant " ++ lin_text a.names (lin_of (variables_of a) s))) ≤ 8 * weight
        (variant_statement (Some s)) → length (if b then [] else line (codes "variant " ++ lin_text a.names (lin_of (variables_of a) s))) ≤
        8 * weight (variant_statement (Some s))
    by true h = omega arith
    by false h = h

module _ (a : Setting) (names : List (List ℕ)) (points : List Point) (n : AreNamed names points) (mine : a.mine ≡ []) where
  pub point_short : (p : PointTree) → AreHeard a.own (point p) → AllIn IsFalse (point_faults (known a) names false p) →
      IsPointSaid (shown a) points (point_of (meant a) names p) →
      length (point_lines (shown a) points (point_of (meant a) names p)) ≤ 8 * weight (point p)
  point_short p heard faults said =
      let holds_words = joined (clause_statement sign.Holds) p.holds in
      let sides_words = side sign.Next p.next ++ side sign.Undo p.undo in
      let named = all_parts (IsHeard a.own) (name p.name) (just sign.End ++ (variant_statement p.variant ++ (holds_words ++ sides_words)))
      heard.1 in
      let varied = all_parts (IsHeard a.own) (variant_statement p.variant) (holds_words ++ sides_words) named.1.1 in
      let held = all_parts (IsHeard a.own) holds_words sides_words varied.1 in
      let sides = all_parts (IsHeard a.own) (side sign.Next p.next) (side sign.Undo p.undo) held.1 in
      let varied_none = all_parts IsFalse (variant_faults a.known p.variant)
      (map (clause_fault (known a)) p.holds ++ (step_faults (known a) names p.next ++ step_faults (known a) names p.undo)) faults.1 in
      let held_none = all_parts IsFalse (map (clause_fault (known a)) p.holds)
      (step_faults (known a) names p.next ++ step_faults (known a) names p.undo) varied_none.1 in
      let sides_none = all_parts IsFalse (step_faults (known a) names p.next) (step_faults (known a) names p.undo) held_none.1 in
      let first = line (codes "point " ++ p.name) in
      let variant = variant_lines a.names (variant_of (variables_of a) p.variant) in
      let holds = flat_map (clause_line (shown a) (codes "holds ")) (map (clause_of (meant a)) p.holds) in
      let next = step_lines (shown a) points (step_of (meant a) names p.next) in
      let undo = step_lines (shown a) points (step_of (meant a) names p.undo) in
      let last = line (codes "next") ++ (next ++ (line (codes "undo") ++ undo)) in
      let whole : length (point_lines (shown a) points (point_of (meant a) names p)) ≡ length first + length (variant ++ (holds ++ last)) =
      length-append first (variant ++ (holds ++ last)) in
      let spelled : weight (point p) ≡ 5 + weight (name p.name) + 1 + weight (variant_statement p.variant) + weight holds_words +
      (4 + (1 + weight (step p.next))) + (4 + (1 + weight (step p.undo))) =
      omega (
        arith,
        weight-append (variant_statement p.variant) (holds_words ++ sides_words),
        weight-append holds_words sides_words,
        weight-append (side sign.Next p.next) (side sign.Undo p.undo),
      ) in
      omega (
        arith,
        whole,
        spelled,
        line_long (codes "point " ++ p.name),
        variant_short a p.variant varied.0 varied_none.0,
        clauses_short a mine sign.Holds (codes "holds ") (omega arith) p.holds held.0 held_none.0 said.clauses,
        step_short a names points n p.next sides.0.1.1 sides_none.0,
        step_short a names points n p.undo sides.1.1.1 sides_none.1,
        length-append variant (holds ++ last),
        length-append holds last,
        length-append next (line (codes "undo") ++ undo),
      )
