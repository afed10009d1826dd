-- Types are printed at most eight times as long as they were written.
use Rattle.std.proofs.Common.{◌≡◌, ℕ, ◌+◌, ◌*◌, ◌^◌, ◌≤◌, Bool, true, false, List, [], ◌∷◌, ◌++◌, length, map, take, drop, Option, Some}
use Rattle.std.proofs.Common.{None, refl, ap, ◌∙◌, arith, length-append}
use Rattle.std.specs.Prelude.{not, codes}
use Rattle.std.specs.Fmt.{decimal}
use Rattle.std.specs.List.{flat_map}
use Rattle.std.proofs.lemmas.List.{length-map}
use Rattle.std.proofs.Math.Seq.{take-append_seam, drop-append_seam}
use Rattle.acc_grammar.specs.Readers.{AllIn, joined}
use Rattle.acc_base.specs.Lines.{line}
use Rattle.acc_lex.specs.declared.words.Sign.{Sign}
use Rattle.acc_lex.specs.declared.words.Sign.TheVariants as sign
use Rattle.acc_parse_syntax.specs.declared.trees.Names.{Names}
use Rattle.acc_parse_syntax.specs.declared.trees.TableTree.{TableTree}
use Rattle.acc_parse_syntax.specs.declared.trees.PointTree.{PointTree}
use Rattle.acc_parse_syntax.specs.declared.trees.TypeTree.{TypeTree}
use Rattle.acc_parse_syntax.specs.Spelling.{just, name, names, clause_statement, names_statement, limit, point, type_words}
use Rattle.acc_parse_names.specs.Names.{stands_in, listed, listed_or_none}
use Rattle.acc_parse_names.specs.Scopes.{locals_of, points_in, point_names}
use Rattle.acc_parse_names.specs.Faults.{clause_fault, returns_faults, locals_faults, head_faults, point_faults, points_faults, type_faults}
use Rattle.acc_parse_clauses.specs.Scopes.{fitted, number_of}
use Rattle.acc_parse_clauses.specs.Forms.{clause_of}
use Rattle.acc_parse.specs.Types.{point_of, returned_of, type_of}
use Rattle.acc_parse.specs.Designs.{table_of}
use Rattle.acc_print.specs.Lists.{spaced}
use Rattle.acc_print.specs.Names.{name_at}
use Rattle.acc_print.specs.Clauses.{clause_line}
use Rattle.acc_print.specs.Types.{names_lines, head_lines, point_lines, type_lines}
use Rattle.acc_parse_readback.specs.PrintableTypes.{IsPointSaid, IsTypeSaid}
use Rattle.acc_parse_readback.proofs.Faultless.{IsFalse}
use Rattle.acc_parse_readback.proofs.SaidParts.{all_parts, all_by_two, all_mapped, none_false}
use Rattle.acc_parse_readback.proofs.SaidPlaces.{fitted_same}
use Rattle.acc_parse_readback.proofs.SaidNames.{IsHeard, AreHeard, Setting}
use Rattle.acc_parse_readback.proofs.SaidRows.{meant, known, shown}
use Rattle.acc_parse_readback.proofs.SaidSteps.{AreNamed}
use Rattle.acc_parse_readback.proofs.SaidPoints.{points_right, points_named}
use Rattle.acc_parse_readback.proofs.SaidLocals.{within_type}
use Rattle.acc_parse_readback.proofs.ShortNumbers.{decimal_short}
use Rattle.acc_parse_readback.proofs.Weights.{weight, weight-append}
use Rattle.acc_parse_readback.proofs.ShortLists.{joined_short}
use Rattle.acc_parse_readback.proofs.ShortNames.{named_same}
use Rattle.acc_parse_readback.proofs.ShortClauses.{spaced_short, clauses_short}
use Rattle.acc_parse_readback.proofs.ShortReads.{line_long}
use Rattle.acc_parse_readback.proofs.ShortSteps.{fitted_size}
use Rattle.acc_parse_readback.proofs.ShortPoints.{point_short}

-- a word and names
names_short : (s : Sign) (word : List ℕ) → length word ≤ 7 * weight (just s) → (ns : Option Names) →
    length (names_lines word (listed_or_none ns)) ≤ 8 * weight (names_statement s ns)
names_short s word short None = omega arith
names_short s word short (Some ns) =
    let xs = flat_map spaced (ns.first ∷ ns.others) in
    omega (
      arith,
      short,
      spaced_short (ns.first ∷ ns.others),
      line_long (word ++ xs),
      length-append word xs,
      weight-append (names ns) (just sign.End),
    )

-- the names of what is returned
returned_same : (locals xs : List (List ℕ)) → length locals ≤ 2 ^ 32 → AllIn (λ x. not (stands_in x locals) ≡ false) xs →
    map (name_at locals) (map (λ (x : List ℕ). number_of x locals) xs) ≡ xs
returned_same locals [] few h = refl
returned_same locals (x ∷ xs) few h = ap (λ (y : List ℕ). y ∷ map (name_at locals) (map (λ (x : List ℕ). number_of x locals) xs))
    (named_same x locals h.0 few) ∙ ap (λ (ys : List (List ℕ)). x ∷ ys) (returned_same locals xs few h.1)

returns_known : (locals : List (List ℕ)) (ns : Option Names) → AllIn IsFalse (returns_faults locals ns) →
    AllIn (λ x. not (stands_in x locals) ≡ false) (listed_or_none ns)
returns_known locals None h = tt
returns_known locals (Some ns) h = none_false (λ x. not (stands_in x locals)) (listed ns) h.0

-- the head of a type
head_short : (trees : List TableTree) (t : TypeTree) → length (locals_of t) ≤ 48 → AllIn IsFalse (returns_faults (locals_of t) t.returns) →
    length (head_lines (type_of trees t)) ≤ 8 * (4 + weight (name t.name) + weight (joined name t.params) + 1 + weight (limit t.limit) +
    weight (names_statement sign.Returns t.returns) + weight (names_statement sign.Local t.locals))
head_short trees t few none =
    let both : length (locals_of t) ≡ length t.params + length (listed_or_none t.locals) =
    length-append t.params (listed_or_none t.locals) in
    let count = fitted_same (length t.params) (omega (arith, few, both)) in
    let params = ap (λ (k : ℕ). take k (locals_of t)) count ∙ take-append_seam t.params (listed_or_none t.locals) in
    let locals = ap (λ (k : ℕ). drop k (locals_of t)) count ∙ drop-append_seam t.params (listed_or_none t.locals) in
    let returned = returned_same (locals_of t) (listed_or_none t.returns) (omega (arith, few))
    (returns_known (locals_of t) t.returns none) in
    let given = flat_map spaced (take (fitted (length t.params)) (locals_of t)) in
    let first = line (codes "type " ++ (t.name ++ given)) in
    let limited = line (codes "limit " ++ decimal (fitted t.limit)) in
    let returns = names_lines (codes "returns") (map (name_at (locals_of t)) (returned_of t)) in
    let others = names_lines (codes "local") (drop (fitted (length t.params)) (locals_of t)) in
    omega (
      arith,
      line_long (codes "type " ++ (t.name ++ given)),
      length-append t.name given,
      ap (λ (xs : List (List ℕ)). length (flat_map spaced xs)) params,
      spaced_short t.params,
      line_long (codes "limit " ++ decimal (fitted t.limit)),
      decimal_short (fitted t.limit),
      fitted_size t.limit,
      ap (λ (xs : List (List ℕ)). length (names_lines (codes "returns") xs)) returned,
      names_short sign.Returns (codes "returns") (omega arith) t.returns,
      ap (λ (xs : List (List ℕ)). length (names_lines (codes "local") xs)) locals,
      names_short sign.Local (codes "local") (omega arith) t.locals,
      length-append first (limited ++ (returns ++ others)),
      length-append limited (returns ++ others),
      length-append returns others,
    )

module _ (trees : List TableTree) (few : length trees ≤ 64) (columns : AllIn (λ (t : TableTree). length t.columns ≤ 12) trees) where
  pub type_short : (again : Bool) (t : TypeTree) → AreHeard true (type_words t) → AllIn IsFalse (type_faults trees again t) →
      IsTypeSaid (map table_of trees) (type_of trees t) →
      length (type_lines (map table_of trees) (type_of trees t)) ≤ 8 * weight (type_words t)
  type_short again t heard faults said =
      let H = IsHeard true in
      let few_here : length (locals_of t) ≤ 48 = said.few_locals in
      let a : Setting = within_type true trees (locals_of t) few columns few_here in
      let names = point_names t in
      let points = map (point_of (meant a) names) (points_in t) in
      let points_few = said.few_points in
      let names_few = length-map (points_in t) (λ (p : PointTree). p.name) in
      let points_same = length-map (points_in t) (point_of (meant a) names) in
      let n : AreNamed names points = record {
        are = points_named (meant a) names (points_in t);
        few =
            omega (arith, points_few, names_few, points_same);
      } in
      let point_words = joined point (points_in t) in
      let repaired_words = joined (clause_statement sign.Repairs) t.repaired in
      let ensured_words = joined (clause_statement sign.Ensures) t.ensured in
      let local_words = names_statement sign.Local t.locals in
      let return_words = names_statement sign.Returns t.returns in
      let behind_limit = return_words ++ (local_words ++ (ensured_words ++ (repaired_words ++ point_words))) in
      let w_params = all_parts H (joined name t.params) (just sign.End ++ (limit t.limit ++ behind_limit)) heard.1.1 in
      let w_limit = all_parts H (limit t.limit) behind_limit w_params.1.1 in
      let w_returns = all_parts H return_words (local_words ++ (ensured_words ++ (repaired_words ++ point_words))) w_limit.1 in
      let w_locals = all_parts H local_words (ensured_words ++ (repaired_words ++ point_words)) w_returns.1 in
      let w_ensured = all_parts H ensured_words (repaired_words ++ point_words) w_locals.1 in
      let w_repaired = all_parts H repaired_words point_words w_ensured.1 in
      let f_points = points_faults (known a) names [] (points_in t) in
      let f_repaired = map (clause_fault (known a)) t.repaired in
      let f_ensured = map (clause_fault (known a)) t.ensured in
      let n_head = all_parts IsFalse (head_faults again t) (f_ensured ++ (f_repaired ++ f_points)) faults in
      let n_ensured = all_parts IsFalse f_ensured (f_repaired ++ f_points) n_head.1 in
      let n_repaired = all_parts IsFalse f_repaired f_points n_ensured.1 in
      let right = points_right (known a) names [] (points_in t) n_repaired.1 in
      let n_names = all_parts IsFalse (returns_faults (locals_of t) t.returns) (locals_faults t.params t.locals) n_head.0.1.1 in
      let each = joined_short true (point_lines (shown a) points) (point_of (meant a) names) point
      (λ p. AllIn IsFalse (point_faults (known a) names false p) × IsPointSaid (shown a) points (point_of (meant a) names p))
      (λ p h q. point_short a names points n refl p h q.0 q.1) (points_in t) w_repaired.1
      (all_by_two (λ p. AllIn IsFalse (point_faults (known a) names false p))
      (λ p. IsPointSaid (shown a) points (point_of (meant a) names p)) _ (points_in t) (λ p h q. (h, q)) right.each
      (all_mapped (IsPointSaid (shown a) points) (point_of (meant a) names) (points_in t) said.points)) in
      let head = head_lines (type_of trees t) in
      let ensured = flat_map (clause_line (shown a) (codes "ensures ")) (map (clause_of (meant a)) t.ensured) in
      let repaired = flat_map (clause_line (shown a) (codes "repairs ")) (map (clause_of (meant a)) t.repaired) in
      let last = flat_map (point_lines (shown a) points) points in
      let whole : length (type_lines (map table_of trees) (type_of trees t)) ≡ length head + length (ensured ++ (repaired ++ last)) =
      length-append head (ensured ++ (repaired ++ last)) in
      omega (
        arith,
        whole,
        head_short trees t few_here n_names.0,
        clauses_short a refl sign.Ensures (codes "ensures ") (omega arith) t.ensured w_ensured.0 n_ensured.0 said.posts,
        clauses_short a refl sign.Repairs (codes "repairs ") (omega arith) t.repaired w_repaired.0 n_repaired.0 said.repairs,
        each,
        length-append ensured (repaired ++ last),
        length-append repaired last,
        weight-append (joined name t.params) (just sign.End ++ (limit t.limit ++ behind_limit)),
        weight-append (limit t.limit) behind_limit,
        weight-append return_words (local_words ++ (ensured_words ++ (repaired_words ++ point_words))),
        weight-append local_words (ensured_words ++ (repaired_words ++ point_words)),
        weight-append ensured_words (repaired_words ++ point_words),
        weight-append repaired_words point_words,
      )
