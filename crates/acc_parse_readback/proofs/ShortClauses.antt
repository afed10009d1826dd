-- Clauses are printed at most eight times as long as they were written.
use Rattle.std.proofs.Common.{◌≡◌, ℕ, ◌+◌, ◌*◌, ◌≤◌, false, List, [], ◌∷◌, ◌++◌, length, map, Option, Some, None, arith, length-append}
use Rattle.std.specs.Prelude.{◌||◌, codes}
use Rattle.std.specs.List.{flat_map, list_any}
use Rattle.std.proofs.lemmas.Bool.{or_parts}
use Rattle.acc_grammar.specs.Readers.{AllIn, joined}
use Rattle.acc_lex.specs.declared.words.Sign.{Sign}
use Rattle.acc_lex.specs.declared.words.Sign.TheVariants as sign
use Rattle.acc_parse_syntax.specs.declared.trees.Names.{Names}
use Rattle.acc_parse_syntax.specs.declared.trees.FormRels.{FormRels}
use Rattle.acc_parse_syntax.specs.declared.trees.ClauseTree.{ClauseTree}
use Rattle.acc_parse_syntax.specs.Spelling.{just, name, names, further, form_rel, form_rels, binder, premises, clause, clause_statement}
use Rattle.acc_parse_names.specs.Names.{defines_again, listed_or_none}
use Rattle.acc_parse_names.specs.Faults.{form_rel_fault, premises_fault, clause_fault}
use Rattle.acc_parse_clauses.specs.Forms.{rel_of, all_form_rels, clause_of}
use Rattle.acc_print.specs.Lists.{spaced, listed}
use Rattle.acc_print.specs.Clauses.{rel_text, binder_text, guards_text, clause_text, clause_line}
use Rattle.acc_parse_readback.specs.Printable.{IsClauseSaid}
use Rattle.acc_parse_readback.proofs.Faultless.{IsFalse}
use Rattle.acc_parse_readback.proofs.SaidParts.{all_parts, all_by_two, all_mapped, none_false}
use Rattle.acc_parse_readback.proofs.SaidNames.{IsHeard, AreHeard, Setting}
use Rattle.acc_parse_readback.proofs.SaidRows.{meant, known, shown}
use Rattle.acc_parse_readback.proofs.SaidClauses.{within_clause}
use Rattle.acc_parse_readback.proofs.Weights.{weight, weight-append}
use Rattle.acc_parse_readback.proofs.ShortLists.{further_short, joined_short}
use Rattle.acc_parse_readback.proofs.ShortForms.{rel_short}

-- names with a space before each
pub spaced_short : (xs : List (List ℕ)) → length (flat_map spaced xs) ≤ 2 * weight (joined name xs)
spaced_short [] = omega arith
spaced_short (x ∷ xs) = omega (arith, spaced_short xs, length-append (spaced x) (flat_map spaced xs))

binder_short : (ns : Option Names) → length (binder_text (listed_or_none ns)) ≤ 8 * weight (binder ns)
binder_short None = omega arith
binder_short (Some ns) =
    omega (
      arith,
      spaced_short (ns.first ∷ ns.others),
      length-append (flat_map spaced (ns.first ∷ ns.others)) (codes " : "),
      weight-append (names ns) (just sign.Colon),
    )

premises_short : (a : Setting) (g : Option FormRels) → AreHeard a.own (premises g) → premises_fault (known a) g ≡ false →
    length (guards_text (shown a) (map (rel_of (meant a)) (all_form_rels g))) ≤ 8 * weight (premises g)
premises_short a None heard none = omega arith
premises_short a (Some rs) heard none =
    let all_words = all_parts (IsHeard a.own) (form_rels rs) (just sign.Implies) heard in
    let words = all_parts (IsHeard a.own) (form_rel rs.first) (joined (further form_rel) rs.others) all_words.0 in
    let faults = or_parts (form_rel_fault (known a) rs.first) (list_any (form_rel_fault (known a)) rs.others) none in
    let others = further_short a.own (rel_text (shown a)) (rel_of (meant a)) form_rel (λ r. form_rel_fault (known a) r ≡ false)
    (rel_short a) rs.others words.1 (none_false (form_rel_fault (known a)) rs.others faults.1) in
    let first = rel_text (shown a) (rel_of (meant a) rs.first) in
    let behind = listed (rel_text (shown a)) (codes ", ") (map (rel_of (meant a)) rs.others) in
    omega (
      arith,
      rel_short a rs.first words.0 faults.0,
      others,
      length-append first behind,
      length-append (first ++ behind) (codes " => "),
      weight-append (form_rels rs) (just sign.Implies),
      weight-append (form_rel rs.first) (joined (further form_rel) rs.others),
    )

-- the clause has no more variables than it may
abbrev pub HasFew : ClauseTree → Type 0
HasFew c = length (listed_or_none c.variables) ≤ 8

pub clause_short : (a : Setting) (c : ClauseTree) → a.mine ≡ [] → HasFew c → AreHeard a.own (clause c) → clause_fault (known a) c ≡ false →
    length (clause_text (shown a) (clause_of (meant a) c)) ≤ 8 * weight (clause c)
clause_short a c mine few heard none =
    let xs = listed_or_none c.variables in
    let words = all_parts (IsHeard a.own) (binder c.variables) (premises c.guards ++ form_rel c.relation) heard in
    let inner = all_parts (IsHeard a.own) (premises c.guards) (form_rel c.relation) words.1 in
    let b = within_clause a xs mine few in
    let defined = or_parts (defines_again a.known xs) (premises_fault (known b) c.guards || form_rel_fault (known b) c.relation) none in
    let used = or_parts (premises_fault (known b) c.guards) (form_rel_fault (known b) c.relation) defined.1 in
    let guards = guards_text (shown b) (map (rel_of (meant b)) (all_form_rels c.guards)) in
    let relation = rel_text (shown b) (rel_of (meant b) c.relation) in
    let whole : length (clause_text (shown a) (clause_of (meant a) c)) ≡ length (binder_text xs) + length (guards ++ relation) =
    length-append (binder_text xs) (guards ++ relation) in
    omega (
      arith,
      whole,
      binder_short c.variables,
      premises_short b c.guards inner.0 used.0,
      rel_short b c.relation inner.1 used.1,
      length-append guards relation,
      weight-append (binder c.variables) (premises c.guards ++ form_rel c.relation),
      weight-append (premises c.guards) (form_rel c.relation),
    )

-- statements of a word and a clause
module _ (a : Setting) (mine : a.mine ≡ []) (s : Sign) (word : List ℕ) (short : length word ≤ 8 * weight (just s)) where
  statement_short : (c : ClauseTree) → AreHeard a.own (clause_statement s c) → (clause_fault (known a) c ≡ false) × HasFew c →
      length (clause_line (shown a) word (clause_of (meant a) c)) ≤ 8 * weight (clause_statement s c)
  statement_short c heard h =
      let words = all_parts (IsHeard a.own) (clause c) (just sign.End) heard.1 in
      let text = clause_text (shown a) (clause_of (meant a) c) in
      omega (
        arith,
        short,
        clause_short a c mine h.1 words.0 h.0,
        length-append word text,
        length-append (word ++ text) (10 ∷ []),
        weight-append (clause c) (just sign.End),
      )

  pub clauses_short : (cs : List ClauseTree) → AreHeard a.own (joined (clause_statement s) cs) →
      AllIn IsFalse (map (clause_fault (known a)) cs) → AllIn (IsClauseSaid (shown a)) (map (clause_of (meant a)) cs) →
      length (flat_map (clause_line (shown a) word) (map (clause_of (meant a)) cs)) ≤ 8 * weight (joined (clause_statement s) cs)
  clauses_short cs heard none said =
      joined_short a.own (clause_line (shown a) word) (clause_of (meant a)) (clause_statement s) (λ c. (clause_fault (known a) c ≡ false) ×
      HasFew c) statement_short cs heard
      (all_by_two (λ c. clause_fault (known a) c ≡ false) (λ c. IsClauseSaid (shown a) (clause_of (meant a) c))
      (λ c. (clause_fault (known a) c ≡ false) × HasFew c) cs (λ c p q. (p, q.few_variables))
      (all_mapped IsFalse (clause_fault (known a)) cs none) (all_mapped (IsClauseSaid (shown a)) (clause_of (meant a)) cs said))
