-- How many tuples there are.
use Rattle.std.proofs.Common.{◌≡◌, ℕ, zero, suc, ◌+◌, ◌*◌, ◌^◌, ◌≤◌, ◌<◌, List, [], ◌∷◌, length, map, drop, sym, ap}
use Rattle.std.proofs.Common.{◌∙◌, ℤ, arith, get_or, length-append, ◌⊎◌, inl, inr}
use Rattle.std.specs.Prelude.{nat_le}
use Rattle.std.specs.List.{flat_map}
use Rattle.std.proofs.lemmas.Bool.Decides.{nat_tests}
use Rattle.std.proofs.lemmas.List.{length-map, drop_all}
use Rattle.acc_audit_complaints.specs.Tuples.{tuples, capped}
use Rattle.acc_audit_trial.proofs.Loops.{one_more}

abbrev pub cons_all : List (List ℤ) → ℤ → List (List ℤ)
cons_all rest x = map (λ own. x ∷ own) rest

zero_times : (n : ℕ) → 0 ≡ 0 * n
zero_times n = grind arith

length_flat : (rest : List (List ℤ)) (r : List ℤ) → length (flat_map (cons_all rest) r) ≡ length r * length rest
length_flat rest [] = zero_times (length rest)
length_flat rest (x ∷ r) =
    let ih = length_flat rest r in
    let a = length-append (cons_all rest x) (flat_map (cons_all rest) r) in
    let b = length-map rest (λ own. x ∷ own) in
    grind (arith, ih, a, b)

pub length_tuples : (r : List ℤ) (rs : List (List ℤ)) → length (tuples (r ∷ rs)) ≡ length r * length (tuples rs)
length_tuples r rs = length_flat (tuples rs) r

-- ---- products that are cut

below_or_above : (n m : ℕ) → (n ≤ m) ⊎ (m ≤ n)
below_or_above zero m = inl (omega arith)
below_or_above (suc n) zero = inr (omega arith)
below_or_above (suc n) (suc m) = by (below_or_above n m)
  where
    by : (n ≤ m) ⊎ (m ≤ n) → (suc n ≤ suc m) ⊎ (suc m ≤ suc n)
    by (inl h) = inl (omega (arith, h))
    by (inr h) = inr (omega (arith, h))

cut_small : (n : ℕ) → n ≤ 2 ^ 20 + 1 → capped n ≡ n
cut_small n h = omega arith

cut_large : (n : ℕ) → 2 ^ 20 + 1 ≤ n → capped n ≡ 2 ^ 20 + 1
cut_large n h = omega arith

grows : (n m : ℕ) → n ≤ n * suc m
grows n m = grind arith

cut_times : (n m : ℕ) → capped (capped n * m) ≡ capped (n * m)
cut_times n zero = grind arith
cut_times n (suc m) = by (below_or_above n (2 ^ 20 + 1))
  where
    by : (n ≤ 2 ^ 20 + 1) ⊎ (2 ^ 20 + 1 ≤ n) → capped (capped n * suc m) ≡ capped (n * suc m)
    by (inl h) = ap (λ k. capped (k * suc m)) (cut_small n h)
    by (inr h) =
        let a = grows n m in
        let b = grows (2 ^ 20 + 1) m in
        ap (λ k. capped (k * suc m)) (cut_large n h)
        ∙ cut_large ((2 ^ 20 + 1) * suc m) b
        ∙ sym (cut_large (n * suc m) (omega (arith, a, h)))

assoc : (a b c : ℕ) → (a * b) * c ≡ a * (b * c)
assoc a b c = grind arith

-- one more range
pub counted_more : (ranges : List (List ℤ)) (i : ℕ) (r : List ℤ) → i < length ranges → r ≡ get_or ranges i r → (n m : ℕ) →
    m ≡ capped (n * length r) → capped (m * length (tuples (drop (i + 1) ranges))) ≡ capped (n * length (tuples (drop i ranges)))
counted_more ranges i r within here n m is =
    ap (λ k. capped (k * length (tuples (drop (i + 1) ranges)))) is
    ∙ cut_times (n * length r) (length (tuples (drop (i + 1) ranges)))
    ∙ ap capped (assoc n (length r) (length (tuples (drop (i + 1) ranges))))
    ∙ ap (λ k. capped (n * k)) (sym (length_tuples r (drop (i + 1) ranges)))
    ∙ ap (λ rs. capped (n * length (tuples rs))) (sym (one_more ranges i r r within here))

-- what the number that is cut tells
pub few_told : (n total : ℕ) → n ≡ capped total → nat_le n (2 ^ 20) ≡ nat_le total (2 ^ 20)
few_told n total is = by (below_or_above total (2 ^ 20 + 1))
  where
    by : (total ≤ 2 ^ 20 + 1) ⊎ (2 ^ 20 + 1 ≤ total) → nat_le n (2 ^ 20) ≡ nat_le total (2 ^ 20)
    by (inl h) = ap (λ k. nat_le k (2 ^ 20)) (is ∙ cut_small total h)
    by (inr h) = let e = is ∙ cut_large total h in grind (arith, nat_tests, e, h)

one_time : (n : ℕ) → n * 1 ≡ n
one_time n = grind arith

pub few_counted : (ranges : List (List ℤ)) (i : ℕ) → length ranges ≤ i → (n : ℕ) → n ≤ 2 ^ 20 + 1 →
    capped (n * length (tuples (drop i ranges))) ≡ capped (length (tuples ranges)) → nat_le n (2 ^ 20) ≡ nat_le (length (tuples ranges)) (2 ^ 20)
few_counted ranges i past n few whole =
    few_told n (length (tuples ranges))
    (sym (cut_small n few)
    ∙ ap capped (sym (one_time n))
    ∙ ap (λ rs. capped (n * length (tuples rs))) (sym (drop_all i ranges past))
    ∙ whole)
