-- The points of a tree that is a design's can be spelled.
use Rattle.std.proofs.Common.{◌≡◌, ℕ, false, List, [], ◌∷◌, ◌++◌, map, Option, Some, None, refl, ap, arith}
use Rattle.std.specs.List.{flat_map}
use Rattle.std.proofs.lemmas.List.{length-map}
use Rattle.acc_grammar.specs.Readers.{AllIn, joined}
use Rattle.acc_base.specs.declared.designs.Point.{Point}
use Rattle.acc_lex.specs.declared.words.Sign.TheVariants as sign
use Rattle.acc_parse_syntax.specs.declared.trees.Sum.{Sum}
use Rattle.acc_parse_syntax.specs.declared.trees.PointTree.{PointTree}
use Rattle.acc_parse_syntax.specs.Spelling.{just, name, sum, side, variant_statement, clause_statement, point}
use Rattle.acc_parse_names.specs.Names.{stands_in, defines_again}
use Rattle.acc_parse_names.specs.Scopes.{Scope as KnownScope}
use Rattle.acc_parse_names.specs.Faults.{clause_fault, variant_faults, step_faults, point_faults, points_faults}
use Rattle.acc_base.specs.declared.limits.Limit.TheVariants as limit
use Rattle.acc_parse_limits.specs.Marks.{ending, limited}
use Rattle.acc_parse_limits.specs.Words.{name_marks, sum_marks}
use Rattle.acc_parse_limits.specs.Statements.{clause_statement_marks, variant_marks, step_marks, point_marks}
use Rattle.acc_parse_clauses.specs.Scopes.{Scope as MeantScope}
use Rattle.acc_parse_clauses.specs.Forms.{clause_of}
use Rattle.acc_parse.specs.Types.{variant_of, point_of}
use Rattle.acc_parse_clauses.specs.Sizes.{sum_sizes, clause_statement_sizes}
use Rattle.acc_parse.specs.Sizes.{variant_sizes, step_sizes, point_sizes}
use Rattle.acc_parse_readback.specs.Printable.{IsLinSaid}
use Rattle.acc_parse_readback.specs.PrintableTypes.{IsPointSaid}
use Rattle.acc_parse_readback.proofs.OnlyEnds.{AreEnds, IsEnd}
use Rattle.acc_parse_readback.proofs.Faultless.{IsFalse, neither}
use Rattle.acc_parse_readback.proofs.SaidParts.{all_parts, each_counted, at_most_counted}
use Rattle.acc_parse_readback.proofs.SaidNames.{AreHeard, IsHeard, Setting, variables_of, is_name}
use Rattle.acc_parse_readback.proofs.SaidValues.{lin_said}
use Rattle.acc_parse_readback.proofs.SaidRows.{meant, known, shown}
use Rattle.acc_parse_readback.proofs.SaidClauses.{clauses_said}
use Rattle.acc_parse_readback.proofs.SaidSteps.{AreNamed, step_said}

variant_said : (a : Setting) (v : Option Sum) → AreHeard a.own (variant_statement v) → AllIn IsFalse (variant_faults a.known v) →
    AreEnds (variant_marks v) → AreEnds (variant_sizes (variables_of a) v) → IsLinSaid a.names (variant_of (variables_of a) v)
variant_said a None heard faults marks sizes = record { terms = tt; collected = refl; constant = omega arith }
variant_said a (Some s) heard faults marks sizes =
    lin_said a s (all_parts (IsHeard a.own) (sum s) (just sign.End) heard.1).0 faults.0 (all_parts IsEnd (sum_marks s) ending marks).0
    (all_parts IsEnd (sum_sizes (variables_of a) s) ending sizes).0

-- ---- points, one after another

-- each point is free of faults, and none has the name of an earlier one
pub record ArePointsRight (s : KnownScope) (names earlier : List (List ℕ)) (ps : List PointTree) : Type 0 where
  pub each : AllIn (λ p. AllIn IsFalse (point_faults s names false p)) ps
  pub new : defines_again earlier (map (λ (p : PointTree). p.name) ps) ≡ false

pub points_right : (s : KnownScope) (names earlier : List (List ℕ)) (ps : List PointTree) →
    AllIn IsFalse (points_faults s names earlier ps) → ArePointsRight s names earlier ps
points_right s names earlier [] h = record { each = tt; new = refl }
points_right s names earlier (p ∷ ps) h =
    let parts = all_parts IsFalse (point_faults s names (stands_in p.name earlier) p)
    (points_faults s names (earlier ++ p.name ∷ []) ps)
    h in
    let rest = points_right s names (earlier ++ p.name ∷ []) ps parts.1 in
    record {
      each = ((refl, parts.0.1), rest.each);
      new =
          neither (stands_in p.name earlier) (defines_again (earlier ++ p.name ∷ []) (map (λ (q : PointTree). q.name) ps)) parts.0.0
          rest.new;
    }

-- the points that are meant have the names
pub points_named : (s : MeantScope) (names : List (List ℕ)) (ps : List PointTree) →
    map (λ (p : Point). p.name) (map (point_of s names) ps) ≡ map (λ (p : PointTree). p.name) ps
points_named s names [] = refl
points_named s names (p ∷ ps) = ap (λ (xs : List (List ℕ)). p.name ∷ xs) (points_named s names ps)

-- ---- a point

module _ (a : Setting) (names : List (List ℕ)) (points : List Point) (n : AreNamed names points) (none : a.mine ≡ []) where
  pub point_said : (p : PointTree) → AreHeard a.own (point p) → AllIn IsFalse (point_faults (known a) names false p) →
      AreEnds (point_marks p) → AreEnds (point_sizes (meant a) p) → IsPointSaid (shown a) points (point_of (meant a) names p)
  point_said p heard faults marks sizes =
      let named = all_parts (IsHeard a.own) (name p.name)
      (just sign.End ++ (variant_statement p.variant ++
      (joined (clause_statement sign.Holds) p.holds ++ (side sign.Next p.next ++ side sign.Undo p.undo)))) heard.1 in
      let varied = all_parts (IsHeard a.own) (variant_statement p.variant)
      (joined (clause_statement sign.Holds) p.holds ++ (side sign.Next p.next ++ side sign.Undo p.undo)) named.1.1 in
      let held = all_parts (IsHeard a.own) (joined (clause_statement sign.Holds) p.holds)
      (side sign.Next p.next ++ side sign.Undo p.undo)
      varied.1 in
      let sides = all_parts (IsHeard a.own) (side sign.Next p.next) (side sign.Undo p.undo) held.1 in
      let varied_none = all_parts IsFalse (variant_faults a.known p.variant)
      (map (clause_fault (known a)) p.holds ++ (step_faults (known a) names p.next ++ step_faults (known a) names p.undo)) faults.1 in
      let held_none = all_parts IsFalse (map (clause_fault (known a)) p.holds)
      (step_faults (known a) names p.next ++ step_faults (known a) names p.undo) varied_none.1 in
      let sides_none = all_parts IsFalse (step_faults (known a) names p.next) (step_faults (known a) names p.undo) held_none.1 in
      let named_ends = all_parts IsEnd (name_marks p.name)
      (ending ++ (variant_marks p.variant ++ (limited limit.Clauses 64 clause_statement_marks p.holds ++
      (step_marks p.next ++ step_marks p.undo)))) marks in
      let varied_ends = all_parts IsEnd (variant_marks p.variant)
      (limited limit.Clauses 64 clause_statement_marks p.holds ++ (step_marks p.next ++ step_marks p.undo)) named_ends.1.1 in
      let held_ends = all_parts IsEnd (limited limit.Clauses 64 clause_statement_marks p.holds)
      (step_marks p.next ++ step_marks p.undo)
      varied_ends.1 in
      let sides_ends = all_parts IsEnd (step_marks p.next) (step_marks p.undo) held_ends.1 in
      let varied_small = all_parts IsEnd (variant_sizes (variables_of a) p.variant)
      (flat_map (clause_statement_sizes (meant a)) p.holds ++ (step_sizes (meant a) p.next ++ step_sizes (meant a) p.undo)) sizes.1 in
      let held_small = all_parts IsEnd (flat_map (clause_statement_sizes (meant a)) p.holds)
      (step_sizes (meant a) p.next ++ step_sizes (meant a) p.undo) varied_small.1 in
      let sides_small = all_parts IsEnd (step_sizes (meant a) p.next) (step_sizes (meant a) p.undo) held_small.1 in
      let few = at_most_counted limit.Clauses 64 clause_statement_marks p.holds held_ends.0 in
      let same = length-map p.holds (clause_of (meant a)) in
      record {
        name = is_name a.own p.name named.0 named_ends.0;
        few_clauses = omega (arith, few, same);
        variant = variant_said a p.variant varied.0 varied_none.0 varied_ends.0 varied_small.0;
        clauses = clauses_said sign.Holds a p.holds none held.0 held_none.0
            (each_counted limit.Clauses 64 clause_statement_marks p.holds held_ends.0) held_small.0;
        next = step_said a names points n p.next sides.0.1.1 sides_none.0 sides_ends.0 sides_small.0;
        undo = step_said a names points n p.undo sides.1.1.1 sides_none.1 sides_ends.1 sides_small.1;
      }
