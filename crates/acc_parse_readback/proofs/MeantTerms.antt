-- Terms that are collected already, written one after the other with the constant behind them, collect to themselves.
use Rattle.std.proofs.Common.{◌≡◌, Bool, true, false, List, [], ◌∷◌, ◌++◌, map, Some, None, refl, ap, ◌∙◌, arith, zero, suc, ℤ, pos, negsuc}
use Rattle.std.proofs.Common.{◌+ℤ◌, append-nil}
use Rattle.std.specs.Prelude.{filter}
use Rattle.std.specs.List.{filter_map}
use Rattle.std.proofs.lemmas.Int.{ints}
use Rattle.std.proofs.lemmas.List.{map-append}
use Rattle.std.proofs.lemmas.List.Elements.{filter_map-append}
use Rattle.acc_base.specs.Numbers.{total}
use Rattle.acc_terms.specs.declared.parts.Part.{Part}
use Rattle.acc_terms.specs.declared.collecting.Terms.{Terms}
use Rattle.acc_terms.specs.Parts.{constant_in, constant_of, negated, difference}
use Rattle.acc_terms.specs.Collected.{with_unknown, is_left, totals}
use Rattle.acc_terms.proofs.Totals.{total-append}
use Rattle.acc_parse_clauses.specs.Values.{alone, collected_by, compared, is_equation}
use Rattle.acc_parse_readback.specs.Trees.{relation_tree}
use Rattle.acc_parse_readback.specs.Printable.{AreCollected}

-- a term of an unknown; one of none
abbrev pub known : {K : Type 0} → K × ℤ → Part K
known t = record { of = Some t.0; number = t.1 }

abbrev pub lone : {K : Type 0} → ℤ → Part K
lone n = record { of = None; number = n }

-- the constant behind terms; 0 is left out
abbrev pub behind : {K : Type 0} → ℤ → List (Part K)
behind (pos zero) = []
behind n = lone n ∷ []

-- a constant alone, or terms and the constant
abbrev pub written : {K : Type 0} → List (K × ℤ) → ℤ → List (Part K)
written [] n = lone n ∷ []
written (t ∷ ts) n = known t ∷ (map known ts ++ behind n)

-- ---- the terms of unknowns

known_alone : {K : Type 0} (ts : List (K × ℤ)) → filter_map with_unknown (map known ts) ≡ ts
known_alone [] = refl
known_alone (t ∷ ts) = ap (λ us. t ∷ us) (known_alone ts)

none_behind : (K : Type 0) (n : ℤ) → filter_map with_unknown (behind {K = K} n) ≡ []
none_behind K (pos zero) = refl
none_behind K (pos (suc n)) = refl
none_behind K (negsuc n) = refl

unknowns_written : {K : Type 0} (ts : List (K × ℤ)) (n : ℤ) → filter_map with_unknown (written ts n) ≡ ts
unknowns_written [] n = refl
unknowns_written {K} (t ∷ ts) n =
    ap (λ us. t ∷ us) (filter_map-append with_unknown (map known ts) (behind n) ∙
    ((λ i. known_alone ts i ++ none_behind K n i) ∙ append-nil ts))

-- ---- the constant

no_constant : {K : Type 0} (ts : List (K × ℤ)) → constant_of (map known ts) ≡ pos 0
no_constant [] = refl
no_constant (t ∷ ts) = let h = no_constant ts in omega (arith, ints, h)

constant_behind : (K : Type 0) (n : ℤ) → constant_of (behind {K = K} n) ≡ n
constant_behind K (pos zero) = refl
constant_behind K (pos (suc n)) = omega (arith, ints)
constant_behind K (negsuc n) = omega (arith, ints)

constants : {K : Type 0} (a b : List (Part K)) → constant_of (a ++ b) ≡ constant_of a +ℤ constant_of b
constants a b = ap total (map-append constant_in a b) ∙ total-append (map constant_in a) (map constant_in b)

constant_written : {K : Type 0} (ts : List (K × ℤ)) (n : ℤ) → constant_of (written ts n) ≡ n
constant_written [] n = omega (arith, ints)
constant_written {K} (t ∷ ts) n =
    let a = constants (map known ts) (behind n) in
    let b = no_constant ts in
    let c = constant_behind K n in omega (arith, ints, a, b, c)

-- ---- both

abbrev pub terms_and : {K : Type 0} → List (K × ℤ) → ℤ → Terms K
terms_and ts n = record { terms = ts; constant = n }

pub written_back : {K : Type 0} (E : K → K → Bool) (ts : List (K × ℤ)) (n : ℤ) → AreCollected E ts →
    collected_by E (written ts n) ≡ terms_and ts n
written_back E ts n h = λ i. record {
  terms = (ap (λ us. filter is_left (totals E us)) (unknowns_written ts n) ∙ h) i;
  constant =
      constant_written ts n i;
}

-- less 0 they are the same
less_zero : {K : Type 0} (E : K → K → Bool) (ts : List (K × ℤ)) (n : ℤ) → AreCollected E ts →
    collected_by E (difference (written ts n) (alone 0 ∷ [])) ≡ terms_and ts n
less_zero E ts n h =
    let zero_part = map negated (alone 0 ∷ []) in
    let unknowns = filter_map-append with_unknown (written ts n) zero_part ∙
    (append-nil (filter_map with_unknown (written ts n)) ∙ unknowns_written ts n) in
    let constant : constant_of (written ts n ++ zero_part) ≡ n =
    (let a = constants (written ts n) zero_part in let b = constant_written ts n in omega (arith, ints, a, b)) in
    λ i. record { terms = (ap (λ us. filter is_left (totals E us)) unknowns ∙ h) i; constant = constant i }

pub compared_back : {K : Type 0} (E : K → K → Bool) (equal : Bool) (ts : List (K × ℤ)) (n : ℤ) → AreCollected E ts →
    collected_by E (compared (relation_tree equal) (written ts n) (alone 0 ∷ [])) ≡ terms_and ts n
compared_back E true ts n h = less_zero E ts n h
compared_back E false ts n h = less_zero E ts n h

pub relation_back : (equal : Bool) → is_equation (relation_tree equal) ≡ equal
relation_back true = refl
relation_back false = refl
