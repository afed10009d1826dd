-- The linear values of a tree that is a design's can be spelled.
use Rattle.std.proofs.Common.{◌≡◌, ℕ, ◌≤◌, ◌^◌, Bool, true, false, List, [], ◌∷◌, ◌++◌, map, refl, ap, sym, ◌∙◌, subst, arith, ℤ, pos}
use Rattle.std.specs.Prelude.{◌==◌, not, nat_le, IfSome, unsigned_abs, if◌then◌else◌}
use Rattle.std.specs.List.{flat_map, list_any}
use Rattle.std.proofs.lemmas.Bool.{or_parts}
use Rattle.std.proofs.lemmas.Bool.Decides.{nat_tests, Decides-eqb}
use Rattle.acc_grammar.specs.Readers.{AllIn, joined}
use Rattle.acc_grammar.proofs.Exact.{AllIn-append}
use Rattle.acc_base.specs.Numbers.{is_small, IsSmall}
use Rattle.acc_lex.specs.declared.words.Sign.TheVariants as sign
use Rattle.acc_parse_syntax.specs.declared.trees.Variable.{Variable}
use Rattle.acc_parse_syntax.specs.declared.trees.Term.{Term}
use Rattle.acc_parse_syntax.specs.declared.trees.Term.TheVariants.{Constant, Plain, Product}
use Rattle.acc_parse_syntax.specs.declared.trees.SignedTerm.{SignedTerm}
use Rattle.acc_parse_syntax.specs.declared.trees.Sum.{Sum}
use Rattle.acc_parse_syntax.specs.declared.trees.Relation.{Relation}
use Rattle.acc_parse_syntax.specs.declared.trees.Relation.TheVariants.{AtMost, AtLeast, Equal}
use Rattle.acc_parse_syntax.specs.Spelling.{just, variable, term, signed_term, sum}
use Rattle.acc_parse_names.specs.Faults.{variable_fault, term_fault, sum_fault}
use Rattle.acc_base.specs.declared.limits.Limit.TheVariants as limit
use Rattle.acc_parse_limits.specs.Words.{number_marks, variable_marks, term_marks, signed_term_marks, sum_marks}
use Rattle.acc_terms.specs.declared.parts.Part.{Part}
use Rattle.acc_terms.specs.declared.collecting.Terms.{Terms}
use Rattle.acc_terms.specs.Parts.{negated}
use Rattle.acc_parse_clauses.specs.Scopes.{variable_of}
use Rattle.acc_parse_clauses.specs.Values.{part_of, signed, signed_part, parts_of, collected_by, kept, kept_term, lin_by, terms_of, lin_of}
use Rattle.acc_parse_clauses.specs.Values.{compared}
use Rattle.acc_parse_clauses.specs.Sizes.{size_mark, term_sizes, terms_sizes, sum_sizes}
use Rattle.acc_print.specs.Names.{name_at}
use Rattle.acc_parse_readback.specs.Printable.{IsName, IsVariable, AreCollected, IsTermSaid, IsLinSaid}
use Rattle.acc_parse_readback.proofs.OnlyEnds.{AreEnds, IsEnd}
use Rattle.acc_parse_readback.proofs.SaidParts.{not_past, all_parts, all_joined, all_flat, all_map, all_by_two, all_by_three, none_false}
use Rattle.acc_parse_readback.proofs.SaidTerms.{collected_again, collected_each}
use Rattle.acc_parse_readback.proofs.SaidNames.{AreHeard, IsHeard, Setting, variables_of, variable_said, name_said}

-- ---- numbers

pub small_size : (n : ℤ) → AreEnds (size_mark n) → IsSmall n
small_size n h =
    let is : not (nat_le (unsigned_abs n) (2 ^ 45)) ≡ false = not_past limit.NumberSize (not (is_small n)) h in
    by (unsigned_abs n) is
  where
    by : (m : ℕ) → not (nat_le m (2 ^ 45)) ≡ false → m ≤ 2 ^ 45
    by m e = grind (arith, nat_tests)

small_true : (n : ℤ) → IsSmall n → is_small n ≡ true
small_true n h = by (unsigned_abs n) h
  where
    by : (m : ℕ) → m ≤ 2 ^ 45 → nat_le m (2 ^ 45) ≡ true
    by m e = grind (arith, nat_tests)

-- a small number is kept
pub kept_same : (n : ℤ) → IsSmall n → kept n ≡ n
kept_same n h = ap (λ (b : Bool). if b then n else pos 0) (small_true n h)

kept_terms : (ts : List (ℕ × ℤ)) → AllIn (λ t. IsSmall t.1) ts → map kept_term ts ≡ ts
kept_terms [] h = refl
kept_terms (t ∷ ts) h = ap (λ z. (t.0, z) ∷ map kept_term ts) (kept_same t.1 h.0) ∙ ap (λ (us : List (ℕ × ℤ)). t ∷ us) (kept_terms ts h.1)

pub small_terms : {K : Type 0} (ts : List (K × ℤ)) → AllIn (λ t. AreEnds (size_mark t.1)) ts → AllIn (λ t. IsSmall t.1) ts
small_terms [] h = tt
small_terms (t ∷ ts) h = (small_size t.1 h.0, small_terms ts h.1)

-- the collected numbers are small
pub sizes_small : {K : Type 0} (t : Terms K) → AreEnds (terms_sizes t) → AllIn (λ u. IsSmall u.1) t.terms × IsSmall t.constant
sizes_small t h =
    let parts = all_parts IsEnd (flat_map term_sizes t.terms) (size_mark t.constant) h in
    (small_terms t.terms (all_flat IsEnd term_sizes t.terms parts.0), small_size t.constant parts.1)

-- ---- parts

pub signed_has : {K : Type 0} (P : K → Type 0) (minus : Bool) (p : Part K) → IfSome p.of P → IfSome (signed minus p).of P
signed_has P true p h = h
signed_has P false p h = h

negated_have : {K : Type 0} (P : K → Type 0) (ps : List (Part K)) → AllIn (λ p. IfSome p.of P) ps →
    AllIn (λ p. IfSome p.of P) (map negated ps)
negated_have P [] h = tt
negated_have P (p ∷ ps) h = (h.0, negated_have P ps h.1)

pub compared_have : {K : Type 0} (P : K → Type 0) (r : Relation) (a b : List (Part K)) → AllIn (λ p. IfSome p.of P) a →
    AllIn (λ p. IfSome p.of P) b → AllIn (λ p. IfSome p.of P) (compared r a b)
compared_have P AtMost a b h g = AllIn-append (λ p. IfSome p.of P) a (map negated b) h (negated_have P b g)
compared_have P AtLeast a b h g = AllIn-append (λ p. IfSome p.of P) b (map negated a) g (negated_have P a h)
compared_have P Equal a b h g = AllIn-append (λ p. IfSome p.of P) a (map negated b) h (negated_have P b g)

-- what holds of the name of each variable there holds of the name of each unknown
module _ (a : Setting) (Q : List ℕ → Type 0) (each : (x : Variable) → AreHeard a.own (variable x) → variable_fault a.known x ≡ false →
    AreEnds (variable_marks x) → Q (name_at a.names (variable_of (variables_of a) x))) where
  abbrev Has : ℕ → Type 0
  Has k = Q (name_at a.names k)

  term_has : (t : Term) → AreHeard a.own (term t) → term_fault a.known t ≡ false → AreEnds (term_marks t) →
      IfSome (part_of (variables_of a) t).of Has
  term_has (Constant n) heard known marks = tt
  term_has (Plain x) heard known marks = each x heard known marks
  term_has (Product n x) heard known marks = each x heard.1.1 known (all_parts IsEnd (number_marks n) (variable_marks x) marks).1

  further_has : (t : SignedTerm) → AreHeard a.own (signed_term t) → term_fault a.known t.term ≡ false → AreEnds (signed_term_marks t) →
      IfSome (signed_part (variables_of a) t).of Has
  further_has t heard known marks =
      signed_has Has t.minus (part_of (variables_of a) t.term)
      (term_has t.term (all_parts (IsHeard a.own) (if t.minus then just sign.Minus else just sign.Plus) (term t.term) heard).1 known
      marks)

  pub parts_have : (s : Sum) → AreHeard a.own (sum s) → sum_fault a.known s ≡ false → AreEnds (sum_marks s) →
      AllIn (λ p. IfSome p.of Has) (parts_of (variables_of a) s)
  parts_have s heard known marks =
      let words = (all_parts (IsHeard a.own) (if s.minus then just sign.Minus else []) (term s.first ++ joined signed_term s.others)
      heard).1 in
      let both = all_parts (IsHeard a.own) (term s.first) (joined signed_term s.others) words in
      let faults = or_parts (term_fault a.known s.first) (list_any (λ (t : SignedTerm). term_fault a.known t.term) s.others) known in
      let ends = all_parts IsEnd (term_marks s.first) (flat_map signed_term_marks s.others) marks in (
        signed_has Has s.minus (part_of (variables_of a) s.first) (term_has s.first both.0 faults.0 ends.0),
        all_map (λ (p : Part ℕ). IfSome p.of Has) (signed_part (variables_of a)) s.others
            (all_by_three (λ t. AreHeard a.own (signed_term t)) (λ (t : SignedTerm). term_fault a.known t.term ≡ false)
            (λ t. AreEnds (signed_term_marks t)) (λ t. IfSome (signed_part (variables_of a) t).of Has) s.others further_has
            (all_joined (IsHeard a.own) signed_term s.others both.1)
            (none_false (λ (t : SignedTerm). term_fault a.known t.term) s.others faults.1)
            (all_flat IsEnd signed_term_marks s.others ends.1)),
      )

-- ---- values

-- collected terms with small numbers, of variables that can be spelled
pub lin_by_said : (names : List (List ℕ)) (parts : List (Part ℕ)) → AllIn (λ p. IfSome p.of (λ k. IsVariable (name_at names k))) parts →
    AreEnds (terms_sizes (collected_by ◌==◌ parts)) → IsLinSaid names (lin_by (collected_by ◌==◌ parts))
lin_by_said names parts h sizes =
    let t : Terms ℕ = collected_by ◌==◌ parts in
    let small = sizes_small t sizes in
    let same = sym (kept_terms t.terms small.0) in
    record {
      terms = subst (AllIn (IsTermSaid names)) same
          (all_by_two (λ (u : ℕ × ℤ). IsVariable (name_at names u.0)) (λ (u : ℕ × ℤ). IsSmall u.1) (IsTermSaid names) t.terms
          (λ u p q. (p, q)) (collected_each ◌==◌ (λ k. IsVariable (name_at names k)) parts h) small.0);
      collected = subst (AreCollected ◌==◌) same (collected_again ◌==◌ Decides-eqb parts);
      constant = subst IsSmall (sym (kept_same t.constant small.1)) small.1;
    }

pub lin_said : (a : Setting) (s : Sum) → AreHeard a.own (sum s) → sum_fault a.known s ≡ false → AreEnds (sum_marks s) →
    AreEnds (sum_sizes (variables_of a) s) → IsLinSaid a.names (lin_of (variables_of a) s)
lin_said a s heard known marks sizes = lin_by_said a.names (parts_of (variables_of a) s)
    (parts_have a IsVariable (variable_said a) s heard known marks) sizes

-- where `self` may not stand, each variable of a value has a name
pub lin_named : (a : Setting) (s : Sum) → a.own ≡ false → AreHeard a.own (sum s) → sum_fault a.known s ≡ false → AreEnds (sum_marks s) →
    AreEnds (sum_sizes (variables_of a) s) → AllIn (λ (t : ℕ × ℤ). IsName (name_at a.names t.0)) (lin_of (variables_of a) s).coeffs
lin_named a s e heard known marks sizes =
    let t : Terms ℕ = terms_of (variables_of a) s in
    let same = sym (kept_terms t.terms (sizes_small t sizes).0) in
    subst (AllIn (λ (u : ℕ × ℤ). IsName (name_at a.names u.0))) same
    (collected_each ◌==◌ (λ k. IsName (name_at a.names k)) (parts_of (variables_of a) s)
    (parts_have a IsName (λ x. name_said a x e) s heard known marks))
