-- Printed linear values, lists of them and guards stand for themselves, and pass no limit.
use Rattle.std.proofs.Common.{◌≡◌, ℕ, Bool, true, List, [], ◌∷◌, ◌++◌, map, Option, Some, None, refl, sym, ap, ◌∙◌, inl, inr, arith, zero}
use Rattle.std.proofs.Common.{suc, ℤ, pos, negsuc, ◌-ℤ◌, if◌then◌else◌}
use Rattle.std.specs.Prelude.{◌==◌, unsigned_abs}
use Rattle.std.specs.List.{flat_map}
use Rattle.std.proofs.lemmas.Int.{ints}
use Rattle.std.proofs.lemmas.Bool.Decides.{nat_tests}
use Rattle.acc_grammar.specs.Readers.{AllIn}
use Rattle.acc_grammar.proofs.RunReaders.{flag}
use Rattle.acc_base.specs.Numbers.{IsSmall}
use Rattle.acc_base.specs.declared.forms.Lin.{Lin}
use Rattle.acc_base.specs.declared.forms.LinRel.{LinRel}
use Rattle.acc_terms.specs.declared.parts.Part.{Part}
use Rattle.acc_parse_syntax.specs.declared.trees.Variable.{Variable}
use Rattle.acc_parse_syntax.specs.declared.trees.Term.TheVariants.{Plain, Product}
use Rattle.acc_parse_clauses.specs.Scopes.{Variables, variable_of}
use Rattle.acc_parse_clauses.specs.Values.{multiple, alone, part_of, signed, signed_part, parts_of, collected_by, kept, kept_term, lin_by}
use Rattle.acc_parse_clauses.specs.Values.{terms_of, lin_of, lins_of, values_of, compared, lin_rel_terms, lin_rel_of, guard_of}
use Rattle.acc_parse_clauses.specs.Sizes.{sum_sizes, sums_sizes, values_sizes, lin_rel_sizes, guard_sizes}
use Rattle.acc_print.specs.Sums.{is_negative}
use Rattle.acc_parse_readback.specs.Trees.{variable_tree, term_tree, signed_tree, constant_trees, sum_tree, lin_tree, sums_tree, relation_tree}
use Rattle.acc_parse_readback.specs.Trees.{lin_rel_tree, guard_tree}
use Rattle.acc_parse_readback.specs.TypeTrees.{values_tree}
use Rattle.acc_parse_readback.specs.Printable.{IsTermSaid, IsLinSaid, IsLinRelSaid}
use Rattle.acc_parse_readback.proofs.VariableNumbers.{Fits, variable_back}
use Rattle.acc_parse_readback.proofs.MeantTerms.{known, behind, written, terms_and, written_back, compared_back, relation_back}
use Rattle.acc_parse_readback.proofs.OnlyEnds.{AreEnds, ends_behind, ends_mapped}
use Rattle.acc_parse_readback.proofs.SmallNumbers.{AreSmall, small_test, small_terms_end}

-- items whose trees stand for them
pub all_back : {X Y : Type 0} (P : X → Type 0) (meant : Y → X) (tree : X → Y) (xs : List X) → ((x : X) → P x → meant (tree x) ≡ x) →
    AllIn P xs → map meant (map tree xs) ≡ xs
all_back P meant tree [] f h = refl
all_back P meant tree (x ∷ xs) f h = λ i. f x h.0 i ∷ all_back P meant tree xs f h.1 i

-- ---- terms

-- a number by its sign and its size
pub signed_back : {K : Type 0} (o : Option K) (n : ℤ) →
    signed (is_negative n) (record { of = o; number = pos (unsigned_abs n) }) ≡ record { of = o; number = n }
signed_back o (pos n) = refl
signed_back o (negsuc n) = let e : pos 0 -ℤ pos (suc n) ≡ negsuc n = omega (arith, ints) in λ i. record { of = o; number = e i }

pub is_one : (n : ℕ) → (n == 1) ≡ true → n ≡ 1
is_one n h = grind (arith, nat_tests)

term_back : (v : Variables) (n : ℕ) (x : Variable) → part_of v (term_tree n x) ≡ multiple n (variable_of v x)
term_back v n x = elim (flag (n == 1)) [
  | inl e ↦ ap (λ (b : Bool). part_of v (if b then Plain x else Product n x)) e ∙ ap (λ (k : ℕ). multiple k (variable_of v x))
      (sym (is_one n e))
  | inr e ↦ ap (λ (b : Bool). part_of v (if b then Plain x else Product n x)) e
]

constant_back : (v : Variables) (n : ℤ) → map (signed_part v) (constant_trees n) ≡ behind n
constant_back v (pos zero) = refl
constant_back v (pos (suc n)) = refl
constant_back v (negsuc n) = ap (λ (p : Part ℕ). p ∷ []) (signed_back None (negsuc n))

-- ---- small numbers

pub number_kept : (n : ℤ) → IsSmall n → kept n ≡ n
number_kept n h = rw (small_test n h) refl

terms_kept : (ts : List (ℕ × ℤ)) → AreSmall ts → map kept_term ts ≡ ts
terms_kept [] h = refl
terms_kept (t ∷ ts) h = λ i. (t.0, number_kept t.1 h.0 i) ∷ terms_kept ts h.1 i

module _ (names : List (List ℕ)) (v : Variables) (f : Fits names v) where
  known_back : (t : ℕ × ℤ) → IsTermSaid names t →
      signed (is_negative t.1) (part_of v (term_tree (unsigned_abs t.1) (variable_tree names t.0))) ≡ known t
  known_back t h =
      ap (signed (is_negative t.1)) (term_back v (unsigned_abs t.1) (variable_tree names t.0))
      ∙ (ap (λ (k : ℕ). signed (is_negative t.1) (multiple (unsigned_abs t.1) k)) (variable_back names v f t.0 h.0) ∙ signed_back (Some t.0)
      t.1)

  others_back : (ts : List (ℕ × ℤ)) (n : ℤ) → AllIn (IsTermSaid names) ts →
      map (signed_part v) (map (signed_tree names) ts ++ constant_trees n) ≡ map known ts ++ behind n
  others_back [] n h = constant_back v n
  others_back (t ∷ ts) n h = λ i. known_back t h.0 i ∷ others_back ts n h.1 i

  parts_back : (ts : List (ℕ × ℤ)) (n : ℤ) → AllIn (IsTermSaid names) ts → parts_of v (sum_tree names ts n) ≡ written ts n
  parts_back [] n h = ap (λ (p : Part ℕ). p ∷ []) (signed_back None n)
  parts_back (t ∷ ts) n h = λ i. known_back t h.0 i ∷ others_back ts n h.1 i

  -- ---- linear values

  terms_back : (l : Lin) → IsLinSaid names l → terms_of v (lin_tree names l) ≡ terms_and l.coeffs l.constant
  terms_back l h = ap (collected_by ◌==◌) (parts_back l.coeffs l.constant h.terms) ∙ written_back ◌==◌ l.coeffs l.constant h.collected

  small_terms : (ts : List (ℕ × ℤ)) → AllIn (IsTermSaid names) ts → AreSmall ts
  small_terms [] h = tt
  small_terms (t ∷ ts) h = (h.0.1, small_terms ts h.1)

  kept_back : (ts : List (ℕ × ℤ)) (n : ℤ) → AllIn (IsTermSaid names) ts → IsSmall n →
      lin_by (terms_and ts n) ≡ record { coeffs = ts; constant = n }
  kept_back ts n h k = λ i. record { coeffs = terms_kept ts (small_terms ts h) i; constant = number_kept n k i }

  pub lin_back : (l : Lin) → IsLinSaid names l → lin_of v (lin_tree names l) ≡ l
  lin_back l h = ap lin_by (terms_back l h) ∙ kept_back l.coeffs l.constant h.terms h.constant

  pub lin_ends : (l : Lin) → IsLinSaid names l → AreEnds (sum_sizes v (lin_tree names l))
  lin_ends l h = small_terms_end (terms_of v (lin_tree names l)) l.coeffs l.constant (terms_back l h) (small_terms l.coeffs h.terms)
      h.constant

  pub lins_back : (l : Lin) (ls : List Lin) → AllIn (IsLinSaid names) (l ∷ ls) → lins_of v (sums_tree names (l ∷ ls)) ≡ l ∷ ls
  lins_back l ls h = λ i. lin_back l h.0 i ∷ all_back (IsLinSaid names) (lin_of v) (lin_tree names) ls lin_back h.1 i

  pub lins_end : (l : Lin) (ls : List Lin) → AllIn (IsLinSaid names) (l ∷ ls) → AreEnds (sums_sizes v (sums_tree names (l ∷ ls)))
  lins_end l ls h = ends_behind (sum_sizes v (lin_tree names l)) (flat_map (sum_sizes v) (map (lin_tree names) ls)) (lin_ends l h.0)
      (ends_mapped (IsLinSaid names) (sum_sizes v) (lin_tree names) ls lin_ends h.1)

  pub values_back : (ls : List Lin) → AllIn (IsLinSaid names) ls → values_of v (values_tree names ls) ≡ ls
  values_back [] h = refl
  values_back (l ∷ ls) h = lins_back l ls h

  pub values_end : (ls : List Lin) → AllIn (IsLinSaid names) ls → AreEnds (values_sizes v (values_tree names ls))
  values_end [] h = tt
  values_end (l ∷ ls) h = lins_end l ls h

  -- ---- relations

  rel_terms_back : (r : LinRel) → IsLinRelSaid names r → lin_rel_terms v (lin_rel_tree names r) ≡ terms_and r.lin.coeffs r.lin.constant
  rel_terms_back r h =
      ap (λ (ps : List (Part ℕ)). collected_by ◌==◌ (compared (relation_tree r.equal) ps (alone 0 ∷ [])))
      (parts_back r.lin.coeffs r.lin.constant h.terms)
      ∙ compared_back ◌==◌ r.equal r.lin.coeffs r.lin.constant h.collected

  lin_rel_back : (r : LinRel) → IsLinRelSaid names r → lin_rel_of v (lin_rel_tree names r) ≡ r
  lin_rel_back r h =
      let lin = ap lin_by (rel_terms_back r h) ∙ kept_back r.lin.coeffs r.lin.constant h.terms h.constant in
      λ i. record { lin = lin i; equal = relation_back r.equal i }

  lin_rel_ends : (r : LinRel) → IsLinRelSaid names r → AreEnds (lin_rel_sizes v (lin_rel_tree names r))
  lin_rel_ends r h = small_terms_end (lin_rel_terms v (lin_rel_tree names r)) r.lin.coeffs r.lin.constant (rel_terms_back r h)
      (small_terms r.lin.coeffs h.terms) h.constant

  pub guard_back : (rs : List LinRel) → AllIn (IsLinRelSaid names) rs → guard_of v (guard_tree names rs) ≡ rs
  guard_back [] h = refl
  guard_back (r ∷ rs) h = λ i. lin_rel_back r h.0 i ∷ all_back (IsLinRelSaid names) (lin_rel_of v) (lin_rel_tree names) rs lin_rel_back h.1
      i

  pub guard_ends : (rs : List LinRel) → AllIn (IsLinRelSaid names) rs → AreEnds (guard_sizes v (guard_tree names rs))
  guard_ends [] h = tt
  guard_ends (r ∷ rs) h = ends_behind (lin_rel_sizes v (lin_rel_tree names r)) (flat_map (lin_rel_sizes v) (map (lin_rel_tree names) rs))
      (lin_rel_ends r h.0) (ends_mapped (IsLinRelSaid names) (lin_rel_sizes v) (lin_rel_tree names) rs lin_rel_ends h.1)
