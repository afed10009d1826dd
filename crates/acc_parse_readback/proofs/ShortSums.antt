-- Collected terms are printed at most as long as the terms that they were collected from, with a sign and a factor each.
use Rattle.std.proofs.Common.{◌≡◌, ℕ, zero, suc, ◌+◌, ◌≤◌, Bool, true, false, List, [], ◌∷◌, ◌++◌, length, map, Option, Some, None, refl}
use Rattle.std.proofs.Common.{ap, sym, subst, arith, append_assoc, length-append, ℤ, pos, negsuc, ◌+ℤ◌, if◌then◌else◌, not, cond}
use Rattle.std.specs.Prelude.{◌==◌, ◌-ℤ◌, Decides, filter, unsigned_abs, max}
use Rattle.std.specs.List.{filter_map}
use Rattle.std.specs.Fmt.{decimal}
use Rattle.std.specs.Ordering.{int_eq}
use Rattle.std.proofs.lemmas.Int.{ints}
use Rattle.std.proofs.lemmas.List.{map-append, append-nil}
use Rattle.acc_base.specs.Numbers.{total}
use Rattle.acc_terms.specs.declared.parts.Part.{Part}
use Rattle.acc_terms.specs.Parts.{constant_in, constant_of, negated, difference}
use Rattle.acc_terms.specs.Collected.{with_unknown, totals, is_left, collected}
use Rattle.acc_terms.specs.Sums.{with_term, with_part}
use Rattle.acc_terms.proofs.Totals.{total-append, one_part}
use Rattle.acc_parse_syntax.specs.declared.trees.Relation.{Relation}
use Rattle.acc_parse_syntax.specs.declared.trees.Relation.TheVariants.{AtMost, AtLeast, Equal}
use Rattle.acc_parse_clauses.specs.Values.{signed, compared}
use Rattle.acc_print.specs.Sums.{sign, factor, term, terms, constant_alone, constant_behind, sum_text}
use Rattle.acc_parse_readback.proofs.ShortNumbers.{digit_count, digit_count_none, number_size, digit_count_some, digit_count_total, decimal_short}

-- the sum over a list
abbrev pub summed : {X : Type 0} → (X → ℕ) → List X → ℕ
summed f [] = 0
summed f (x ∷ xs) = f x + summed f xs

pub summed-append : {X : Type 0} (f : X → ℕ) (xs ys : List X) → summed f (xs ++ ys) ≡ summed f xs + summed f ys
summed-append f [] ys = omega arith
summed-append f (x ∷ xs) ys = omega (arith, summed-append f xs ys)

-- ---- constants

-- a constant takes a sign between spaces, and its digits; 0 is left out
abbrev pub size_cost : ℕ → ℕ
size_cost zero = 0
size_cost (suc n) = 3 + digit_count (suc n)

abbrev pub constant_cost : ℤ → ℕ
constant_cost n = size_cost (unsigned_abs n)

pub size_cost_most : (n : ℕ) → size_cost n ≤ 3 + number_size n
size_cost_most zero = omega arith
size_cost_most (suc n) = omega arith

sum_cost : (a b c : ℕ) → digit_count c ≤ digit_count a + digit_count b → c ≤ a + b → size_cost c ≤ size_cost a + size_cost b
sum_cost a b zero h g = omega arith
sum_cost zero zero (suc c) h g = absurd (omega arith)
sum_cost zero (suc b) (suc c) h g = omega (arith, digit_count_none)
sum_cost (suc a) zero (suc c) h g = omega (arith, digit_count_none)
sum_cost (suc a) (suc b) (suc c) h g = omega arith

constant_sum : (a b : ℤ) → constant_cost (a +ℤ b) ≤ constant_cost a + constant_cost b
constant_sum a b =
    let le : unsigned_abs (a +ℤ b) ≤ unsigned_abs a + unsigned_abs b = omega (arith, ints) in
    sum_cost (unsigned_abs a) (unsigned_abs b) (unsigned_abs (a +ℤ b)) (digit_count_total a b) le

-- ---- terms

module _ {K : Type 0} (size : K → ℕ) where
  -- a term takes a sign between spaces, its digits, a `*` and the unknown
  abbrev pub term_cost : K × ℤ → ℕ
  term_cost t = 4 + number_size (unsigned_abs t.1) + size t.0

  abbrev pub terms_cost : List (K × ℤ) → ℕ
  terms_cost ts = summed term_cost ts

  abbrev of_cost : Option K → ℤ → ℕ
  of_cost None n = constant_cost n
  of_cost (Some x) n = term_cost (x, n)

  abbrev pub part_cost : Part K → ℕ
  part_cost p = of_cost p.of p.number

  abbrev pub parts_cost : List (Part K) → ℕ
  parts_cost ps = summed part_cost ps

  negated_cost : (p : Part K) → part_cost (negated p) ≡ part_cost p
  negated_cost p = by p.of p.number (omega (arith, ints))
    where
      by : (o : Option K) (n : ℤ) → unsigned_abs (pos 0 -ℤ n) ≡ unsigned_abs n → of_cost o (pos 0 -ℤ n) ≡ of_cost o n
      by None n e = ap size_cost e
      by (Some x) n e = ap (λ (m : ℕ). 4 + number_size m + size x) e

  pub signed_cost : (minus : Bool) (p : Part K) → part_cost (signed minus p) ≡ part_cost p
  signed_cost true p = negated_cost p
  signed_cost false p = refl

  all_negated : (ps : List (Part K)) → parts_cost (map negated ps) ≡ parts_cost ps
  all_negated [] = refl
  all_negated (p ∷ ps) = omega (arith, negated_cost p, all_negated ps)

  difference_cost : (ps qs : List (Part K)) → parts_cost (difference ps qs) ≡ parts_cost ps + parts_cost qs
  difference_cost ps qs = omega (arith, summed-append part_cost ps (map negated qs), all_negated qs)

  pub compared_cost : (r : Relation) (ps qs : List (Part K)) → parts_cost (compared r ps qs) ≡ parts_cost ps + parts_cost qs
  compared_cost AtMost ps qs = difference_cost ps qs
  compared_cost AtLeast ps qs = omega (arith, difference_cost qs ps)
  compared_cost Equal ps qs = difference_cost ps qs

  module _ (E : K → K → Bool) (decides : (x y : K) → Decides (E x y) (x ≡ y)) where
    term_step : (x : K) (n : ℤ) (t : K × ℤ) (ts : List (K × ℤ)) (b : Bool) →
        terms_cost (with_term E x n ts) ≤ terms_cost ts + term_cost (x, n) →
        terms_cost (if b then ((t.0, t.1 +ℤ n) ∷ ts) else (t ∷ with_term E x n ts)) ≤ terms_cost (t ∷ ts) + term_cost (x, n)
    term_step x n t ts true h = omega (arith, digit_count_total t.1 n)
    term_step x n t ts false h = omega (arith, h)

    cost-with_term : (x : K) (n : ℤ) (ts : List (K × ℤ)) → terms_cost (with_term E x n ts) ≤ terms_cost ts + term_cost (x, n)
    cost-with_term x n [] = omega arith
    cost-with_term x n (t ∷ ts) = term_step x n t ts (E t.0 x) (cost-with_term x n ts)

    cost-with_part : (o : Option K) (n : ℤ) (ts : List (K × ℤ)) (c : ℤ) →
        terms_cost (with_part E (record { of = o; number = n }) ts) + constant_cost (c +ℤ constant_in (record { of = o; number = n })) ≤
        terms_cost ts + constant_cost c + of_cost o n
    cost-with_part None n ts c = omega (arith, constant_sum c n)
    cost-with_part (Some x) n ts c = omega (arith, cost-with_term x n ts, constant_sum c (pos 0))

    abbrev AreShort : List (Part K) → Type 0
    AreShort parts = terms_cost (totals E (filter_map with_unknown parts)) + constant_cost (constant_of parts) ≤ parts_cost parts

    pushed : (parts : List (Part K)) (p : Part K) → AreShort parts → AreShort (parts ++ p ∷ [])
    pushed parts p h =
        let a = ap terms_cost (one_part E decides parts p) in
        let b = cost-with_part p.of p.number (totals E (filter_map with_unknown parts)) (constant_of parts) in
        let c : constant_of (parts ++ p ∷ []) ≡ constant_of parts +ℤ constant_in p =
        let e = ap total (map-append constant_in parts (p ∷ [])) in
        let t = total-append (map constant_in parts) (constant_in p ∷ []) in omega (arith, ints, e, t) in
        omega (arith, a, b, ap constant_cost c, summed-append part_cost parts (p ∷ []), h)

    grown : (parts more : List (Part K)) → AreShort parts → AreShort (parts ++ more)
    grown parts [] h = subst AreShort (sym (append-nil parts)) h
    grown parts (p ∷ more) h = subst AreShort (append_assoc parts (p ∷ []) more) (grown (parts ++ p ∷ []) more (pushed parts p h))

    left_step : (t : K × ℤ) (ts : List (K × ℤ)) (b : Bool) → terms_cost (filter is_left ts) ≤ terms_cost ts →
        terms_cost (cond b (t ∷ filter is_left ts) (filter is_left ts)) ≤ terms_cost (t ∷ ts)
    left_step t ts true h = omega (arith, h)
    left_step t ts false h = omega (arith, h)

    cost-left : (ts : List (K × ℤ)) → terms_cost (filter is_left ts) ≤ terms_cost ts
    cost-left [] = omega arith
    cost-left (t ∷ ts) = left_step t ts (not (int_eq t.1 (pos 0))) (cost-left ts)

    pub collected_cost : (parts : List (Part K)) → terms_cost (collected E parts) + constant_cost (constant_of parts) ≤ parts_cost parts
    collected_cost parts = omega (arith, cost-left (totals E (filter_map with_unknown parts)), grown [] parts (omega arith))

-- ---- what is printed

sign_short : (first : Bool) (n : ℤ) → length (sign first n) ≤ 3
sign_short true (pos n) = omega arith
sign_short true (negsuc n) = omega arith
sign_short false (pos n) = omega arith
sign_short false (negsuc n) = omega arith

factor_short : (n : ℕ) → length (factor n) ≤ 1 + number_size n
factor_short n = by (n == 1)
  where
    by : (b : Bool) → length (if b then [] else (decimal n ++ 42 ∷ [])) ≤ 1 + number_size n
    by true = omega arith
    by false = omega (arith, length-append (decimal n) (42 ∷ []), decimal_short n)

module _ {K : Type 0} (name : K → List ℕ) where
  abbrev long : K → ℕ
  long k = length (name k)

  term_short : (first : Bool) (t : K × ℤ) → length (term first t.1 (name t.0)) ≤ term_cost long t
  term_short first t =
      omega (
        arith,
        sign_short first t.1,
        factor_short (unsigned_abs t.1),
        length-append (sign first t.1) (factor (unsigned_abs t.1) ++ name t.0),
        length-append (factor (unsigned_abs t.1)) (name t.0),
      )

  terms_short : (first : Bool) (ts : List (K × ℤ)) → length (terms name first ts) ≤ terms_cost long ts
  terms_short first [] = omega arith
  terms_short first (t ∷ ts) = omega (
    arith,
    term_short first t,
    terms_short false ts,
    length-append (term first t.1 (name t.0)) (terms name false ts),
  )

  behind_short : (n : ℤ) → length (constant_behind n) ≤ constant_cost n
  behind_short (pos zero) = omega arith
  behind_short (pos (suc n)) = omega (arith, decimal_short (suc n), digit_count_some n)
  behind_short (negsuc n) = omega (arith, decimal_short (suc n), digit_count_some n)

  alone_short : (n : ℤ) → length (constant_alone n) ≤ max 1 (constant_cost n)
  alone_short (pos zero) = omega (arith, decimal_short zero, digit_count_none)
  alone_short (pos (suc n)) = omega (arith, decimal_short (suc n), digit_count_some n)
  alone_short (negsuc n) = omega (arith, decimal_short (suc n), digit_count_some n)

  pub sum_short : (ts : List (K × ℤ)) (n : ℤ) → length (sum_text name ts n) ≤ max 1 (terms_cost long ts + constant_cost n)
  sum_short [] n = omega (arith, alone_short n)
  sum_short (t ∷ ts) n = omega (
    arith,
    terms_short true (t ∷ ts),
    behind_short n,
    length-append (terms name true (t ∷ ts)) (constant_behind n),
  )
