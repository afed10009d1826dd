-- The clauses of a tree that is a design's can be spelled.
use Rattle.std.proofs.Common.{◌≡◌, ℕ, ◌≤◌, Bool, true, false, List, [], ◌∷◌, ◌++◌, length, map, Option, Some, None, refl, ap, sym, ◌∙◌}
use Rattle.std.proofs.Common.{arith}
use Rattle.std.specs.Prelude.{◌||◌, nat_lt, codes}
use Rattle.std.specs.List.{flat_map, list_any}
use Rattle.std.specs.Str.{bytes_eq}
use Rattle.std.proofs.lemmas.Bool.{or_parts}
use Rattle.std.proofs.lemmas.Bool.Decides.{nat_tests}
use Rattle.std.proofs.lemmas.List.{length-map, append-nil}
use Rattle.std.proofs.lemmas.List.Folds.{list_any-append}
use Rattle.acc_grammar.specs.Readers.{AllIn, joined}
use Rattle.acc_lex.specs.declared.words.Sign.{Sign}
use Rattle.acc_lex.specs.declared.words.Sign.TheVariants as sign
use Rattle.acc_parse_syntax.specs.declared.trees.Names.{Names}
use Rattle.acc_parse_syntax.specs.declared.trees.FormRels.{FormRels}
use Rattle.acc_parse_syntax.specs.declared.trees.ClauseTree.{ClauseTree}
use Rattle.acc_parse_syntax.specs.Spelling.{just, name, names, further, form_rel, form_rels, binder, premises, clause, clause_statement}
use Rattle.acc_parse_names.specs.Names.{stands_in, defines_again, listed, listed_or_none}
use Rattle.acc_parse_names.specs.Faults.{form_rel_fault, premises_fault, clause_fault}
use Rattle.acc_base.specs.declared.limits.Limit.TheVariants as limit
use Rattle.acc_parse_limits.specs.Marks.{past, ending}
use Rattle.acc_parse_limits.specs.Words.{name_marks, names_marks, form_rel_marks, binder_marks, premises_marks, clause_marks}
use Rattle.acc_parse_limits.specs.Statements.{clause_statement_marks}
use Rattle.acc_parse_clauses.specs.Forms.{rel_of, all_form_rels, clause_of}
use Rattle.acc_parse_clauses.specs.Sizes.{rel_sizes, clause_sizes, clause_statement_sizes}
use Rattle.acc_print.specs.Names.{names_within}
use Rattle.acc_parse_readback.specs.Printable.{IsName, AreNew, IsRelSaid, IsClauseSaid}
use Rattle.acc_parse_readback.proofs.ValueParts.{not_self}
use Rattle.acc_parse_readback.proofs.OnlyEnds.{AreEnds, IsEnd}
use Rattle.acc_parse_readback.proofs.Faultless.{IsFalse}
use Rattle.acc_parse_readback.proofs.SaidParts.{not_past, all_parts, all_joined, all_flat, all_map, all_mapped, all_by_four, none_false}
use Rattle.acc_parse_readback.proofs.SaidNames.{AreHeard, IsHeard, Setting, names_by, are_names, is_name}
use Rattle.acc_parse_readback.proofs.SaidRows.{meant, known, shown, furthers}
use Rattle.acc_parse_readback.proofs.SaidForms.{rel_said}

-- ---- names that are defined

pub names_said : (own : Bool) (ns : Names) → AreHeard own (names ns) → AreEnds (names_marks ns) → AllIn IsName (listed ns)
names_said own ns heard marks =
    let words = all_parts (IsHeard own) (name ns.first) (joined name ns.others) heard in
    let ends = all_parts IsEnd (name_marks ns.first) (flat_map name_marks ns.others) marks in (
      is_name own ns.first words.0 ends.0,
      are_names own ns.others (all_joined (IsHeard own) name ns.others words.1)
          (all_flat IsEnd name_marks ns.others ends.1),
    )

-- two lists have the same names but for `self`
abbrev AreAlike : List (List ℕ) → List (List ℕ) → Type 0
AreAlike xs ys = (x : List ℕ) → IsName x → stands_in x xs ≡ stands_in x ys

defines_alike : (xs ys zs : List (List ℕ)) → AreAlike xs ys → AllIn IsName zs → defines_again xs zs ≡ defines_again ys zs
defines_alike xs ys [] alike h = refl
defines_alike xs ys (z ∷ zs) alike h =
    let more : AreAlike (xs ++ z ∷ []) (ys ++ z ∷ []) =
    λ x p. list_any-append (bytes_eq x) xs (z ∷ []) ∙
    (ap (λ (b : Bool). b || stands_in x (z ∷ [])) (alike x p) ∙ sym (list_any-append (bytes_eq x) ys (z ∷ []))) in
    ap (λ (b : Bool). b || defines_again (xs ++ z ∷ []) zs) (alike z h.0) ∙ ap (λ (b : Bool). stands_in z ys || b)
    (defines_alike (xs ++ z ∷ []) (ys ++ z ∷ []) zs more h.1)

or_nothing : (a b : Bool) → b ≡ false → (a || (b || false)) ≡ a
or_nothing true b h = refl
or_nothing false true h = absurd cc
or_nothing false false h = refl

alike_by : (b : Bool) (locals mine : List (List ℕ)) → (b ≡ false → locals ≡ []) → AreAlike (names_by b locals mine) (locals ++ mine)
alike_by true locals mine h x p =
    list_any-append (bytes_eq x) (names_within locals) mine
    ∙ (ap (λ (b : Bool). b || stands_in x mine) (list_any-append (bytes_eq x) locals (codes "self" ∷ []) ∙ or_nothing (stands_in x locals)
    (bytes_eq x (codes "self")) (not_self x p.1))
    ∙ sym (list_any-append (bytes_eq x) locals mine))
alike_by false locals mine h x p = ap (λ (ys : List (List ℕ)). stands_in x (ys ++ mine)) (sym (h refl))

-- what is new among the known names is new among those that are printed
pub new_said : (a : Setting) (xs : List (List ℕ)) → AllIn IsName xs → defines_again a.known xs ≡ false → AreNew a.names xs
new_said a xs h new =
    ap (λ (ys : List (List ℕ)). defines_again ys xs) a.names_are
    ∙ (defines_alike (names_by a.in_type a.locals a.mine) (a.locals ++ a.mine) xs (alike_by a.in_type a.locals a.mine a.no_locals) h
    ∙ (ap (λ (ys : List (List ℕ)). defines_again ys xs) (sym a.known_are) ∙ new))

-- ---- within a clause

pub names_more : (b : Bool) (locals mine xs : List (List ℕ)) → mine ≡ [] → names_by b locals mine ++ xs ≡ names_by b locals xs
names_more true locals mine xs e = ap (λ (ys : List (List ℕ)). (names_within locals ++ ys) ++ xs) e ∙ ap (λ (ys : List (List ℕ)). ys ++ xs)
    (append-nil (names_within locals))
names_more false locals mine xs e = ap (λ (ys : List (List ℕ)). ys ++ xs) e

-- with a clause's own variables
abbrev pub within_clause : (a : Setting) (xs : List (List ℕ)) → a.mine ≡ [] → length xs ≤ 8 → Setting
within_clause a xs none few = record {
  own = a.own;
  in_type = a.in_type;
  trees = a.trees;
  locals = a.locals;
  mine = xs;
  names = a.names ++ xs;
  known = a.known ++ xs;
  names_are = ap (λ (ys : List (List ℕ)). ys ++ xs) a.names_are ∙ names_more a.in_type a.locals a.mine xs none;
  known_are = ap (λ (ys : List (List ℕ)). ys ++ xs) a.known_are ∙
      (ap (λ (ys : List (List ℕ)). (a.locals ++ ys) ++ xs) none ∙ ap (λ (ys : List (List ℕ)). ys ++ xs) (append-nil a.locals));
  no_self = a.no_self;
  no_locals = a.no_locals;
  few_tables = a.few_tables;
  few_columns = a.few_columns;
  few_locals = a.few_locals;
  few_mine = few;
}

-- ---- clauses

-- at most 8 names, each of which can be spelled
pub record IsBinderSaid (ns : Option Names) : Type 0 where
  pub few : length (listed_or_none ns) ≤ 8
  pub each : AllIn IsName (listed_or_none ns)

binder_said : (own : Bool) (ns : Option Names) → AreHeard own (binder ns) → AreEnds (binder_marks ns) → IsBinderSaid ns
binder_said own None heard marks = record { few = omega arith; each = tt }
binder_said own (Some ns) heard marks =
    let words = all_parts (IsHeard own) (names ns) (just sign.Colon) heard.1 in
    let ends = all_parts IsEnd (past limit.Variables (nat_lt 7 (length ns.others))) (names_marks ns) marks in
    let short : nat_lt 7 (length ns.others) ≡ false = not_past limit.Variables (nat_lt 7 (length ns.others)) ends.0 in
    let fewer : length ns.others ≤ 7 = grind (arith, nat_tests) in
    record { few = omega (arith, fewer); each = names_said own ns words.0 ends.1 }

-- at most 16 relations
pub record ArePremisesSaid (a : Setting) (g : Option FormRels) : Type 0 where
  pub few : length (map (rel_of (meant a)) (all_form_rels g)) ≤ 16
  pub each : AllIn (IsRelSaid (shown a)) (map (rel_of (meant a)) (all_form_rels g))

premises_said : (a : Setting) (g : Option FormRels) → AreHeard a.own (premises g) → premises_fault (known a) g ≡ false →
    AreEnds (premises_marks g) → AreEnds (flat_map (rel_sizes (meant a)) (all_form_rels g)) → ArePremisesSaid a g
premises_said a None heard faults marks sizes = record { few = omega arith; each = tt }
premises_said a (Some rs) heard faults marks sizes =
    let all_words = all_parts (IsHeard a.own) (form_rels rs) (just sign.Implies) heard in
    let words = all_parts (IsHeard a.own) (form_rel rs.first) (joined (further form_rel) rs.others) all_words.0 in
    let none = or_parts (form_rel_fault (known a) rs.first) (list_any (form_rel_fault (known a)) rs.others) faults in
    let ends = all_parts IsEnd (past limit.GuardRelations (nat_lt 15 (length rs.others)))
    (form_rel_marks rs.first ++ flat_map form_rel_marks rs.others) marks in
    let each_end = all_parts IsEnd (form_rel_marks rs.first) (flat_map form_rel_marks rs.others) ends.1 in
    let small = all_flat IsEnd (rel_sizes (meant a)) (rs.first ∷ rs.others) sizes in
    let short : nat_lt 15 (length rs.others) ≡ false = not_past limit.GuardRelations (nat_lt 15 (length rs.others)) ends.0 in
    let fewer : length rs.others ≤ 15 = grind (arith, nat_tests) in
    let same = length-map rs.others (rel_of (meant a)) in
    record {
      few = omega (arith, fewer, same);
      each = (
        rel_said a rs.first words.0 none.0 each_end.0 small.0,
        all_map (IsRelSaid (shown a)) (rel_of (meant a)) rs.others
            (all_by_four (λ r. AreHeard a.own (form_rel r)) (λ r. form_rel_fault (known a) r ≡ false) (λ r. AreEnds (form_rel_marks r))
            (λ r. AreEnds (rel_sizes (meant a) r)) (λ r. IsRelSaid (shown a) (rel_of (meant a) r)) rs.others (rel_said a)
            (furthers a.own form_rel rs.others words.1) (none_false (form_rel_fault (known a)) rs.others none.1)
            (all_flat IsEnd form_rel_marks rs.others each_end.1) small.1),
      );
    }

-- no clause stands within a clause
pub clause_said : (a : Setting) (c : ClauseTree) → a.mine ≡ [] → AreHeard a.own (clause c) → clause_fault (known a) c ≡ false →
    AreEnds (clause_marks c) → AreEnds (clause_sizes (meant a) c) → IsClauseSaid (shown a) (clause_of (meant a) c)
clause_said a c none heard faults marks sizes =
    let xs = listed_or_none c.variables in
    let words = all_parts (IsHeard a.own) (binder c.variables) (premises c.guards ++ form_rel c.relation) heard in
    let ends = all_parts IsEnd (binder_marks c.variables) (premises_marks c.guards ++ form_rel_marks c.relation) marks in
    let bound = binder_said a.own c.variables words.0 ends.0 in
    let b = within_clause a xs none bound.few in
    let defined = or_parts (defines_again a.known xs) (premises_fault (known b) c.guards || form_rel_fault (known b) c.relation) faults in
    let used = or_parts (premises_fault (known b) c.guards) (form_rel_fault (known b) c.relation) defined.1 in
    let inner_words = all_parts (IsHeard a.own) (premises c.guards) (form_rel c.relation) words.1 in
    let inner_ends = all_parts IsEnd (premises_marks c.guards) (form_rel_marks c.relation) ends.1 in
    let small = all_parts IsEnd (flat_map (rel_sizes (meant b)) (all_form_rels c.guards)) (rel_sizes (meant b) c.relation) sizes in
    let guards = premises_said b c.guards inner_words.0 used.0 inner_ends.0 small.0 in
    record {
      variables = bound.each;
      few_variables = bound.few;
      new = new_said a xs bound.each defined.0;
      few_guards = guards.few;
      guards = guards.each;
      relation = rel_said b c.relation inner_words.1 used.1 inner_ends.1 small.1;
    }

statement_said : (s : Sign) (a : Setting) (c : ClauseTree) → a.mine ≡ [] → AreHeard a.own (clause_statement s c) →
    clause_fault (known a) c ≡ false → AreEnds (clause_statement_marks c) → AreEnds (clause_statement_sizes (meant a) c) →
    IsClauseSaid (shown a) (clause_of (meant a) c)
statement_said s a c none heard faults marks sizes =
    clause_said a c none (all_parts (IsHeard a.own) (clause c) (just sign.End) heard.1).0 faults
    (all_parts IsEnd (clause_marks c) ending marks).0 (all_parts IsEnd (clause_sizes (meant a) c) ending sizes).0

-- statements of a word and a clause
pub clauses_said : (s : Sign) (a : Setting) (cs : List ClauseTree) → a.mine ≡ [] → AreHeard a.own (joined (clause_statement s) cs) →
    AllIn IsFalse (map (clause_fault (known a)) cs) → AllIn (λ c. AreEnds (clause_statement_marks c)) cs
    → AreEnds (flat_map (clause_statement_sizes (meant a)) cs) → AllIn (IsClauseSaid (shown a)) (map (clause_of (meant a)) cs)
clauses_said s a cs none heard faults marks sizes =
    all_map (IsClauseSaid (shown a)) (clause_of (meant a)) cs
    (all_by_four (λ c. AreHeard a.own (clause_statement s c)) (λ c. clause_fault (known a) c ≡ false)
    (λ c. AreEnds (clause_statement_marks c)) (λ c. AreEnds (clause_statement_sizes (meant a) c))
    (λ c. IsClauseSaid (shown a) (clause_of (meant a) c)) cs (λ c. statement_said s a c none)
    (all_joined (IsHeard a.own) (clause_statement s) cs heard) (all_mapped IsFalse (clause_fault (known a)) cs faults) marks
    (all_flat IsEnd (clause_statement_sizes (meant a)) cs sizes))
