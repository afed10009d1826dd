-- Collected numbers that are small pass no limit.
use Rattle.std.proofs.Common.{◌≡◌, Bool, true, List, [], ◌∷◌, sym, subst, arith}
use Rattle.std.specs.Prelude.{not, ℤ}
use Rattle.std.specs.List.{flat_map}
use Rattle.std.proofs.lemmas.Bool.Decides.{nat_tests}
use Rattle.acc_grammar.specs.Readers.{AllIn}
use Rattle.acc_base.specs.Numbers.{is_small, IsSmall}
use Rattle.acc_parse_limits.specs.Marks.{past}
use Rattle.acc_base.specs.declared.limits.Limit.TheVariants as limit
use Rattle.acc_terms.specs.declared.collecting.Terms.{Terms}
use Rattle.acc_parse_clauses.specs.Sizes.{size_mark, term_sizes, terms_sizes}
use Rattle.acc_parse_readback.proofs.MeantTerms.{terms_and}
use Rattle.acc_parse_readback.proofs.OnlyEnds.{AreEnds, ends_behind}

pub small_test : (n : ℤ) → IsSmall n → is_small n ≡ true
small_test n h = grind (arith, nat_tests)

small_ends : (n : ℤ) → IsSmall n → AreEnds (size_mark n)
small_ends n h = subst (λ (b : Bool). AreEnds (past limit.NumberSize (not b))) (sym (small_test n h)) tt

-- each number is small
abbrev pub AreSmall : {K : Type 0} → List (K × ℤ) → Type 0
AreSmall ts = AllIn (λ t. IsSmall t.1) ts

terms_end : {K : Type 0} (ts : List (K × ℤ)) → AreSmall ts → AreEnds (flat_map term_sizes ts)
terms_end [] h = tt
terms_end (t ∷ ts) h = ends_behind (size_mark t.1) (flat_map term_sizes ts) (small_ends t.1 h.0) (terms_end ts h.1)

pub small_terms_end : {K : Type 0} (all : Terms K) (ts : List (K × ℤ)) (n : ℤ) → all ≡ terms_and ts n → AreSmall ts → IsSmall n →
    AreEnds (terms_sizes all)
small_terms_end all ts n is h k = subst (λ us. AreEnds (terms_sizes us)) (sym is)
    (ends_behind (flat_map term_sizes ts) (size_mark n) (terms_end ts h) (small_ends n k))
