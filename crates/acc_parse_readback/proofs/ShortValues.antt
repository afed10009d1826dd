-- Linear values, rows and relations between values are printed at most six times as long as they were written, guards at most eight times.
use Rattle.std.proofs.Common.{◌≡◌, ℕ, ◌+◌, ◌*◌, ◌^◌, ◌≤◌, Bool, true, false, List, [], ◌∷◌, ◌++◌, length, map, Option, Some, None, refl, ap}
use Rattle.std.proofs.Common.{arith, length-append, ℤ, pos}
use Rattle.std.specs.Prelude.{◌==◌, max, is_none, slice_get, unsigned_abs, if◌then◌else◌, codes}
use Rattle.std.specs.List.{list_any, find}
use Rattle.std.specs.Str.{bytes_eq}
use Rattle.std.proofs.lemmas.Bool.{or_parts}
use Rattle.std.proofs.lemmas.Bool.Decides.{Decides-eqb}
use Rattle.acc_grammar.specs.Readers.{AllIn, joined}
use Rattle.acc_base.specs.Numbers.{is_small}
use Rattle.acc_lex.specs.declared.words.Sign.TheVariants as sign
use Rattle.acc_parse_syntax.specs.declared.trees.Variable.{Variable}
use Rattle.acc_parse_syntax.specs.declared.trees.Variable.TheVariants.{Named, Oneself}
use Rattle.acc_parse_syntax.specs.declared.trees.Term.{Term}
use Rattle.acc_parse_syntax.specs.declared.trees.Term.TheVariants.{Constant, Plain, Product}
use Rattle.acc_parse_syntax.specs.declared.trees.SignedTerm.{SignedTerm}
use Rattle.acc_parse_syntax.specs.declared.trees.Sum.{Sum}
use Rattle.acc_parse_syntax.specs.declared.trees.Sums.{Sums}
use Rattle.acc_parse_syntax.specs.declared.trees.Place.{Place}
use Rattle.acc_parse_syntax.specs.declared.trees.Cell.{Cell}
use Rattle.acc_parse_syntax.specs.declared.trees.TableTree.{TableTree}
use Rattle.acc_parse_syntax.specs.declared.trees.Relation.{Relation}
use Rattle.acc_parse_syntax.specs.declared.trees.Relation.TheVariants.{AtMost, AtLeast, Equal}
use Rattle.acc_parse_syntax.specs.declared.trees.LinRelTree.{LinRelTree}
use Rattle.acc_parse_syntax.specs.declared.trees.LinRels.{LinRels}
use Rattle.acc_parse_syntax.specs.Spelling.{just, name, variable, term, signed_term, sum, sums, further, place, cell, relation_sign, lin_rel}
use Rattle.acc_parse_syntax.specs.Spelling.{guard}
use Rattle.acc_parse_names.specs.Scopes.{columns_of}
use Rattle.acc_parse_names.specs.Faults.{term_fault, sum_fault, sums_fault, place_fault, column_fault, cell_fault, lin_rel_fault, guard_fault}
use Rattle.acc_terms.specs.declared.parts.Part.{Part}
use Rattle.acc_terms.specs.Parts.{constant_of}
use Rattle.acc_terms.specs.Collected.{collected}
use Rattle.acc_parse_clauses.specs.Scopes.{table_in, column_in}
use Rattle.acc_parse_clauses.specs.Values.{part_of, signed_part, parts_of, collected_by, kept, kept_term, lin_by, lin_of, lins_of, compared}
use Rattle.acc_parse_clauses.specs.Values.{is_equation, lin_rel_of, guard_of}
use Rattle.acc_parse_clauses.specs.Rows.{key_in}
use Rattle.acc_print.specs.Lists.{listed}
use Rattle.acc_print.specs.Names.{name_at, table_name, column_name}
use Rattle.acc_print.specs.Values.{lin_text, row_text, cell_text, comparison, lin_rel_text}
use Rattle.acc_parse_readback.proofs.SaidParts.{all_parts, none_false}
use Rattle.acc_parse_readback.proofs.SaidPlaces.{found_all}
use Rattle.acc_parse_readback.proofs.SaidNames.{IsHeard, AreHeard, Setting, variables_of}
use Rattle.acc_parse_readback.proofs.SaidRows.{meant, known, shown}
use Rattle.acc_parse_readback.proofs.ShortNumbers.{number_size, digit_count_le, digit_count_none}
use Rattle.acc_parse_readback.proofs.Weights.{weight, weight-append}
use Rattle.acc_parse_readback.proofs.ShortSums.{size_cost_most, constant_cost, terms_cost, part_cost, parts_cost, signed_cost, compared_cost}
use Rattle.acc_parse_readback.proofs.ShortSums.{collected_cost, sum_short}
use Rattle.acc_parse_readback.proofs.ShortLists.{further_short, further_shorter}
use Rattle.acc_parse_readback.proofs.ShortNames.{variable_short, table_same, column_same}

-- ---- numbers that are kept

pub kept_size : (n : ℤ) → number_size (unsigned_abs (kept n)) ≤ number_size (unsigned_abs n)
kept_size n = by (is_small n)
  where
    by : (b : Bool) → number_size (unsigned_abs (if b then n else pos 0)) ≤ number_size (unsigned_abs n)
    by true = omega arith
    by false = omega (arith, digit_count_none)

kept_cost : (n : ℤ) → constant_cost (kept n) ≤ constant_cost n
kept_cost n = by (is_small n)
  where
    by : (b : Bool) → constant_cost (if b then n else pos 0) ≤ constant_cost n
    by true = omega arith
    by false = omega arith

kept_terms : (size : ℕ → ℕ) (ts : List (ℕ × ℤ)) → terms_cost size (map kept_term ts) ≤ terms_cost size ts
kept_terms size [] = omega arith
kept_terms size (t ∷ ts) = omega (arith, kept_size t.1, kept_terms size ts)

pub one_size : number_size 1 ≡ 1
one_size = omega (arith, digit_count_le 1 1 (omega arith))

-- ---- values

pub lin_by_short : (names : List (List ℕ)) (parts : List (Part ℕ)) →
    length (lin_text names (lin_by (collected_by ◌==◌ parts))) ≤ max 1 (parts_cost (λ k. length (name_at names k)) parts)
lin_by_short names parts =
    let ts = collected ◌==◌ parts in
    omega (
      arith,
      sum_short (name_at names) (map kept_term ts) (kept (constant_of parts)),
      kept_terms (λ k. length (name_at names k)) ts,
      kept_cost (constant_of parts),
      collected_cost (λ k. length (name_at names k)) ◌==◌ Decides-eqb parts,
    )

pub variable_some : (x : Variable) → 1 ≤ weight (variable x)
variable_some (Named x) = omega arith
variable_some Oneself = omega arith

pub plus_or_minus : (b : Bool) → weight (if b then just sign.Minus else just sign.Plus) ≡ 1
plus_or_minus true = refl
plus_or_minus false = refl

-- what a relation compares with
pub compared_short : (r : Relation) → length (comparison (is_equation r)) ≤ 6 * weight (just (relation_sign r))
compared_short AtMost = omega arith
compared_short AtLeast = omega arith
compared_short Equal = omega arith

module _ (a : Setting) where
  abbrev long : ℕ → ℕ
  long k = length (name_at a.names k)

  term_short : (t : Term) → AreHeard a.own (term t) → term_fault a.known t ≡ false →
      (part_cost long (part_of (variables_of a) t) ≤ 6 * weight (term t)) × (1 ≤ weight (term t))
  term_short (Constant n) heard none = (omega (arith, size_cost_most n), omega arith)
  term_short (Plain x) heard none = (omega (arith, one_size, variable_short a x heard none, variable_some x), variable_some x)
  term_short (Product n x) heard none = (omega (arith, variable_short a x heard.1.1 none), omega arith)

  others_short : (ts : List SignedTerm) → AreHeard a.own (joined signed_term ts) →
      AllIn (λ (t : SignedTerm). term_fault a.known t.term ≡ false) ts →
      parts_cost long (map (signed_part (variables_of a)) ts) ≤ 6 * weight (joined signed_term ts)
  others_short [] heard none = omega arith
  others_short (t ∷ ts) heard none =
      let words = all_parts (IsHeard a.own) (signed_term t) (joined signed_term ts) heard in
      let inner = all_parts (IsHeard a.own) (if t.minus then just sign.Minus else just sign.Plus) (term t.term) words.0 in
      let here = term_short t.term inner.1 none.0 in
      omega (
        arith,
        here,
        others_short ts words.1 none.1,
        signed_cost long t.minus (part_of (variables_of a) t.term),
        plus_or_minus t.minus,
        weight-append (signed_term t) (joined signed_term ts),
        weight-append (if t.minus then just sign.Minus else just sign.Plus) (term t.term),
      )

  pub sum_parts : (s : Sum) → AreHeard a.own (sum s) → sum_fault a.known s ≡ false →
      (parts_cost long (parts_of (variables_of a) s) ≤ 6 * weight (sum s)) × (1 ≤ weight (sum s))
  sum_parts s heard none =
      let words = all_parts (IsHeard a.own) (if s.minus then just sign.Minus else []) (term s.first ++ joined signed_term s.others) heard in
      let inner = all_parts (IsHeard a.own) (term s.first) (joined signed_term s.others) words.1 in
      let faults = or_parts (term_fault a.known s.first) (list_any (λ (t : SignedTerm). term_fault a.known t.term) s.others) none in
      let first = term_short s.first inner.0 faults.0 in
      let others = others_short s.others inner.1 (none_false (λ (t : SignedTerm). term_fault a.known t.term) s.others faults.1) in
      let cost = signed_cost long s.minus (part_of (variables_of a) s.first) in
      let w = weight-append (if s.minus then just sign.Minus else []) (term s.first ++ joined signed_term s.others) in
      let v = weight-append (term s.first) (joined signed_term s.others) in
      (omega (arith, first, others, cost, w, v), omega (arith, first, w, v))

  pub lin_short : (s : Sum) → AreHeard a.own (sum s) → sum_fault a.known s ≡ false →
      length (lin_text a.names (lin_of (variables_of a) s)) ≤ 6 * weight (sum s)
  lin_short s heard none = omega (arith, lin_by_short a.names (parts_of (variables_of a) s), sum_parts s heard none)

  pub lins_short : (opening : List ℕ) (ss : Sums) → AreHeard a.own (sums ss) → sums_fault a.known ss ≡ false →
      length (listed (lin_text a.names) opening (lins_of (variables_of a) ss)) ≤ length opening + 6 * weight (sums ss)
  lins_short opening ss heard none =
      let words = all_parts (IsHeard a.own) (sum ss.first) (joined (further sum) ss.others) heard in
      let faults = or_parts (sum_fault a.known ss.first) (list_any (sum_fault a.known) ss.others) none in
      let others = further_shorter a.own (lin_text a.names) (lin_of (variables_of a)) sum (λ s. sum_fault a.known s ≡ false) lin_short
      ss.others words.1 (none_false (sum_fault a.known) ss.others faults.1) in
      let behind = listed (lin_text a.names) (codes ", ") (map (lin_of (variables_of a)) ss.others) in
      omega (
        arith,
        lin_short ss.first words.0 faults.0,
        others,
        length-append opening (lin_text a.names (lin_of (variables_of a) ss.first) ++ behind),
        length-append (lin_text a.names (lin_of (variables_of a) ss.first)) behind,
        weight-append (sum ss.first) (joined (further sum) ss.others),
      )

  -- ---- rows

  few_tables : length a.trees ≤ 2 ^ 32
  few_tables = let few = a.few_tables in omega (arith, few)

  pub row_short : (p : Place) → AreHeard a.own (place p) → place_fault (known a) p ≡ false →
      length (row_text (shown a) (table_in (meant a) p) (key_in (meant a) p)) ≤ 6 * weight (place p)
  row_short p heard none =
      let words = all_parts (IsHeard a.own) (sums p.key) (just sign.Close) heard.1.1 in
      let faults = or_parts (is_none (columns_of a.trees p.table)) (sums_fault a.known p.key) none in
      let key = listed (lin_text a.names) [] (key_in (meant a) p) in
      let table = table_name (slice_get (shown a).tables (table_in (meant a) p)) in
      omega (
        arith,
        ap length (table_same a.trees few_tables p.table faults.0),
        lins_short [] p.key words.0 faults.1,
        length-append table (91 ∷ (key ++ 93 ∷ [])),
        length-append key (93 ∷ []),
        weight-append (sums p.key) (just sign.Close),
      )

  pub cell_short : (c : Cell) → AreHeard a.own (cell c) → cell_fault (known a) c ≡ false →
      length (cell_text (shown a) (table_in (meant a) c.place) (key_in (meant a) c.place) (column_in (meant a) c)) ≤ 6 * weight (cell c)
  cell_short c heard none =
      let words = all_parts (IsHeard a.own) (place c.place) (just sign.Dot ++ name c.column) heard in
      let faults = or_parts (place_fault (known a) c.place) (column_fault (columns_of a.trees c.place.table) c.column) none in
      let found = or_parts (is_none (columns_of a.trees c.place.table)) (sums_fault a.known c.place.key) faults.0 in
      let few : (t : TableTree) → find (λ (u : TableTree). bytes_eq c.place.table u.name) a.trees ≡ Some t → length t.columns ≤ 2 ^ 32 =
      λ t e. let some = found_all (λ (u : TableTree). length u.columns ≤ 12) (λ (u : TableTree). bytes_eq c.place.table u.name) a.trees t e
      a.few_columns in omega (arith, some) in
      let row = row_text (shown a) (table_in (meant a) c.place) (key_in (meant a) c.place) in
      let column = column_name (slice_get (shown a).tables (table_in (meant a) c.place)) (column_in (meant a) c) in
      omega (
        arith,
        ap length (column_same a.trees few_tables c.place.table c.column found.0 faults.1 few),
        row_short c.place words.0 faults.0,
        length-append row (46 ∷ column),
        weight-append (place c.place) (just sign.Dot ++ name c.column),
      )

  -- ---- relations

  lin_rel_short : (r : LinRelTree) → AreHeard a.own (lin_rel r) → lin_rel_fault a.known r ≡ false →
      length (lin_rel_text a.names (lin_rel_of (variables_of a) r)) ≤ 6 * weight (lin_rel r)
  lin_rel_short r heard none =
      let words = all_parts (IsHeard a.own) (sum r.left) (just (relation_sign r.relation) ++ sum r.right) heard in
      let faults = or_parts (sum_fault a.known r.left) (sum_fault a.known r.right) none in
      let left = sum_parts r.left words.0 faults.0 in
      let right = sum_parts r.right words.1.1 faults.1 in
      let parts = compared r.relation (parts_of (variables_of a) r.left) (parts_of (variables_of a) r.right) in
      omega (
        arith,
        left,
        right,
        lin_by_short a.names parts,
        compared_cost long r.relation (parts_of (variables_of a) r.left) (parts_of (variables_of a) r.right),
        compared_short r.relation,
        length-append (lin_text a.names (lin_by (collected_by ◌==◌ parts))) (comparison (is_equation r.relation)),
        weight-append (sum r.left) (just (relation_sign r.relation) ++ sum r.right),
      )

  lin_rel_within : (r : LinRelTree) → AreHeard a.own (lin_rel r) → lin_rel_fault a.known r ≡ false →
      length (lin_rel_text a.names (lin_rel_of (variables_of a) r)) ≤ 8 * weight (lin_rel r)
  lin_rel_within r heard none = omega (arith, lin_rel_short r heard none)

  pub guard_short : (opening : List ℕ) (g : Option LinRels) → AreHeard a.own (guard g) → guard_fault a.known g ≡ false →
      length (listed (lin_rel_text a.names) opening (guard_of (variables_of a) g)) ≤ length opening + 8 * weight (guard g)
  guard_short opening None heard none = omega arith
  guard_short opening (Some rs) heard none =
      let words = all_parts (IsHeard a.own) (lin_rel rs.first) (joined (further lin_rel) rs.others) heard in
      let faults = or_parts (lin_rel_fault a.known rs.first) (list_any (lin_rel_fault a.known) rs.others) none in
      let others = further_short a.own (lin_rel_text a.names) (lin_rel_of (variables_of a)) lin_rel (λ r. lin_rel_fault a.known r ≡ false)
      lin_rel_within rs.others words.1 (none_false (lin_rel_fault a.known) rs.others faults.1) in
      let behind = listed (lin_rel_text a.names) (codes ", ") (map (lin_rel_of (variables_of a)) rs.others) in
      omega (
        arith,
        lin_rel_short rs.first words.0 faults.0,
        others,
        length-append opening (lin_rel_text a.names (lin_rel_of (variables_of a) rs.first) ++ behind),
        length-append (lin_rel_text a.names (lin_rel_of (variables_of a) rs.first)) behind,
        weight-append (lin_rel rs.first) (joined (further lin_rel) rs.others),
      )
