-- Numbers that are put behind others, one by one.
use Rattle.std.proofs.Common.{◌≡◌, ℕ, ◌+◌, ◌<◌, ◌≤◌, Bool, true, false, List, [], ◌∷◌, ◌++◌, length, get_or, drop, take, length-drop, ◌-◌}
use Rattle.std.proofs.Common.{Ok, Err, refl, ap, sym, ◌∙◌, append_assoc, append-nil, ℤ, pos, nat_lt, if◌then◌else◌, arith}
use Rattle.std.specs.Ordering.{int_eq}
use Rattle.std.proofs.lemmas.Bool.Decides.{nat_tests}
use Rattle.std.proofs.lemmas.List.{drop_all, take_all}
use Rattle.acc_rows.specs.declared.stops.Stop.{Stop}
use Rattle.acc_rows.specs.declared.stops.Stop.TheVariants.{Refuted, Wide, Many, Memory}
use Rattle.acc_base.specs.Computing.{chain}
use Rattle.acc_rows.specs.Answers.{Computation, behind, StoppedBy}
use Rattle.acc_rows.specs.Numbers.{product}
use Rattle.acc_rows.specs.Sparse.{Sparse, put, put_left, scaled, mixture, mixed}
use Rattle.acc_rows.proofs.Chains.{drop_more, stopped_along}

abbrev the_outcome : {A : Type 0} → A → Computation A
the_outcome x = Ok x

ok_same : {A : Type 0} (x y : A) → the_outcome x ≡ the_outcome y → x ≡ y
ok_same x y h = cc

-- what is put behind, in one go or one by one
behind_one : (xs ys : Sparse) (t : ℕ × ℤ) (r : Computation Sparse) → xs ++ t ∷ [] ≡ ys
    → behind ys r ≡ behind xs (chain r (λ rest. Ok (t ∷ rest)))
behind_one xs ys t (Ok rest) e = ap (λ (zs : Sparse). Ok (zs ++ rest)) (sym e) ∙ ap Ok (append_assoc xs (t ∷ []) rest)
behind_one xs ys t (Err d) e = refl

pub behind_put : (xs ys : Sparse) (u : ℕ) (n : Computation ℤ) (r : Computation Sparse) → behind xs (put u n (Ok [])) ≡ Ok ys
    → behind ys r ≡ behind xs (put u n r)
behind_put xs ys u (Ok n) r h = behind_one xs ys (u, n) r (ok_same _ _ h)
behind_put xs ys u (Err e) r h = absurd (cc)

pub stopped_put : (e : Stop) (xs : Sparse) (u : ℕ) (n : Computation ℤ) (r : Computation Sparse) → StoppedBy e (behind xs (put u n (Ok [])))
    → StoppedBy e (behind xs (put u n r))
stopped_put (Refuted x) xs u (Ok n) r h = absurd (cc)
stopped_put Wide xs u (Ok n) r h = absurd (cc)
stopped_put Many xs u (Ok n) r h = absurd (cc)
stopped_put Memory xs u (Ok n) r h = tt
stopped_put e xs u (Err d) r h = h

pub behind_left : (xs ys : Sparse) (u : ℕ) (n : Computation ℤ) (r : Computation Sparse) → behind xs (put_left u n (Ok [])) ≡ Ok ys
    → behind ys r ≡ behind xs (put_left u n r)
behind_left xs ys u (Ok n) r h = left_cases xs ys u n (int_eq n (pos 0)) r h
  where
    left_cases : (xs ys : Sparse) (u : ℕ) (n : ℤ) (b : Bool) (r : Computation Sparse)
        → the_outcome (xs ++ (if b then [] else ((u, n) ∷ []))) ≡ Ok ys
        → behind ys r ≡ behind xs (chain r (λ rest. Ok (if b then rest else ((u, n) ∷ rest))))
    left_cases xs ys u n true (Ok rest) h = ap (λ (zs : Sparse). the_outcome (zs ++ rest)) (sym (ok_same _ _ h) ∙ append-nil xs)
    left_cases xs ys u n true (Err d) h = refl
    left_cases xs ys u n false r h = behind_one xs ys (u, n) r (ok_same _ _ h)
behind_left xs ys u (Err e) r h = absurd (cc)

pub stopped_left : (e : Stop) (xs : Sparse) (u : ℕ) (n : Computation ℤ) (r : Computation Sparse) →
    StoppedBy e (behind xs (put_left u n (Ok [])))
    → StoppedBy e (behind xs (put_left u n r))
stopped_left (Refuted x) xs u (Ok n) r h = absurd (cc)
stopped_left Wide xs u (Ok n) r h = absurd (cc)
stopped_left Many xs u (Ok n) r h = absurd (cc)
stopped_left Memory xs u (Ok n) r h = tt
stopped_left e xs u (Err d) r h = h

-- ---- multiples of a list

module _ (p : ℤ) (ns : Sparse) (i : ℕ) (d t : ℕ × ℤ) (within : i < length ns) (here : t ≡ get_or ns i d) (out : Sparse)
    (whole : Computation Sparse) (so_far : behind out (scaled p (drop i ns)) ≡ whole) where
  scaled_is : behind out (put t.0 (product p t.1) (scaled p (drop (i + 1) ns))) ≡ whole
  scaled_is = ap (λ zs. behind out (scaled p zs)) (sym (drop_more ns i d t within here)) ∙ so_far

  pub scaled_on : (new : Sparse) → behind out (scaled p (t ∷ [])) ≡ Ok new → behind new (scaled p (drop (i + 1) ns)) ≡ whole
  scaled_on new done = behind_put out new t.0 (product p t.1) _ done ∙ scaled_is

  pub scaled_stopped : (e : Stop) → StoppedBy e (behind out (scaled p (t ∷ []))) → StoppedBy e whole
  scaled_stopped e h = stopped_along e _ _ scaled_is (stopped_put e out t.0 (product p t.1) _ h)

-- ---- the places of two lists that are mixed

before : (a b : ℕ) → a < b → nat_lt a b ≡ true
before a b h = grind (arith, nat_tests)

not_before : (a b : ℕ) → b ≤ a → nat_lt a b ≡ false
not_before a b h = grind (arith, nat_tests)

module _ (p q : ℤ) (xs ys : Sparse) (i j : ℕ) (d e : ℕ × ℤ) (in_xs : i < length xs) (in_ys : j < length ys) where
  abbrev x : ℕ × ℤ
  x = get_or xs i d

  abbrev y : ℕ × ℤ
  y = get_or ys j e

  abbrev opened : Bool → Bool → Computation Sparse
  opened b c =
      if b then put x.0 (product p x.1) (mixed p q (drop (i + 1) xs) (drop j ys))
      else (if c then put y.0 (product q y.1) (mixed p q (drop i xs) (drop (j + 1) ys))
      else put_left x.0 (mixture p x.1 q y.1) (mixed p q (drop (i + 1) xs) (drop (j + 1) ys)))

  in_cases : mixed p q (drop i xs) (drop j ys) ≡ opened (nat_lt x.0 y.0) (nat_lt y.0 x.0)
  in_cases =
      let first = drop_more xs i d x in_xs refl in
      let second = drop_more ys j e y in_ys refl in
      (λ k. mixed p q (first k) (second k)) ∙ (λ k. if nat_lt x.0 y.0
      then put x.0 (product p x.1) (mixed p q (drop (i + 1) xs) (sym second k))
      else (if nat_lt y.0 x.0 then put y.0 (product q y.1) (mixed p q (sym first k) (drop (j + 1) ys))
      else put_left x.0 (mixture p x.1 q y.1) (mixed p q (drop (i + 1) xs) (drop (j + 1) ys))))

  first_lower : x.0 < y.0 → mixed p q (drop i xs) (drop j ys) ≡ put x.0 (product p x.1) (mixed p q (drop (i + 1) xs) (drop j ys))
  first_lower h = in_cases ∙ ap (λ b. opened b (nat_lt y.0 x.0)) (before x.0 y.0 h)

  second_lower : y.0 ≤ x.0 → y.0 < x.0 → mixed p q (drop i xs) (drop j ys)
      ≡ put y.0 (product q y.1) (mixed p q (drop i xs) (drop (j + 1) ys))
  second_lower g h = in_cases ∙ (λ k. opened (not_before x.0 y.0 g k) (before y.0 x.0 h k))

  both_here : y.0 ≤ x.0 → x.0 ≤ y.0 → mixed p q (drop i xs) (drop j ys)
      ≡ put_left x.0 (mixture p x.1 q y.1) (mixed p q (drop (i + 1) xs) (drop (j + 1) ys))
  both_here g h = in_cases ∙ (λ k. opened (not_before x.0 y.0 g k) (not_before y.0 x.0 h k))

  module _ (m n : ℤ) (m_is : m ≡ x.1) (n_is : n ≡ y.1) (out : Sparse) (whole : Computation Sparse)
      (so_far : behind out (mixed p q (drop i xs) (drop j ys)) ≡ whole) where
    first_is : x.0 < y.0 → behind out (put x.0 (product p m) (mixed p q (drop (i + 1) xs) (drop j ys))) ≡ whole
    first_is h = ap (λ z. behind out (put x.0 (product p z) (mixed p q (drop (i + 1) xs) (drop j ys)))) m_is
        ∙ (ap (behind out) (sym (first_lower h)) ∙ so_far)

    second_is : y.0 ≤ x.0 → y.0 < x.0 → behind out (put y.0 (product q n) (mixed p q (drop i xs) (drop (j + 1) ys))) ≡ whole
    second_is g h = ap (λ z. behind out (put y.0 (product q z) (mixed p q (drop i xs) (drop (j + 1) ys)))) n_is
        ∙ (ap (behind out) (sym (second_lower g h)) ∙ so_far)

    both_is : y.0 ≤ x.0 → x.0 ≤ y.0 → behind out (put_left x.0 (mixture p m q n) (mixed p q (drop (i + 1) xs) (drop (j + 1) ys))) ≡ whole
    both_is g h = (λ k. behind out (put_left x.0 (mixture p (m_is k) q (n_is k)) (mixed p q (drop (i + 1) xs) (drop (j + 1) ys))))
        ∙ (ap (behind out) (sym (both_here g h)) ∙ so_far)

    pub on_first : (new : Sparse) → x.0 < y.0 → behind out (scaled p ((x.0, m) ∷ [])) ≡ Ok new
        → behind new (mixed p q (drop (i + 1) xs) (drop j ys)) ≡ whole
    on_first new h done = behind_put out new x.0 (product p m) _ done ∙ first_is h

    pub on_second : (new : Sparse) → y.0 ≤ x.0 → y.0 < x.0 → behind out (scaled q ((y.0, n) ∷ [])) ≡ Ok new
        → behind new (mixed p q (drop i xs) (drop (j + 1) ys)) ≡ whole
    on_second new g h done = behind_put out new y.0 (product q n) _ done ∙ second_is g h

    pub on_both : (new : Sparse) → y.0 ≤ x.0 → x.0 ≤ y.0 → behind out (put_left x.0 (mixture p m q n) (Ok [])) ≡ Ok new
        → behind new (mixed p q (drop (i + 1) xs) (drop (j + 1) ys)) ≡ whole
    on_both new g h done = behind_left out new x.0 (mixture p m q n) _ done ∙ both_is g h

    pub stopped_first : (s : Stop) → x.0 < y.0 → StoppedBy s (behind out (scaled p ((x.0, m) ∷ []))) → StoppedBy s whole
    stopped_first s h stopped = stopped_along s _ _ (first_is h) (stopped_put s out x.0 (product p m) _ stopped)

    pub stopped_second : (s : Stop) → y.0 ≤ x.0 → y.0 < x.0 → StoppedBy s (behind out (scaled q ((y.0, n) ∷ []))) → StoppedBy s whole
    stopped_second s g h stopped = stopped_along s _ _ (second_is g h) (stopped_put s out y.0 (product q n) _ stopped)

    pub stopped_both : (s : Stop) → y.0 ≤ x.0 → x.0 ≤ y.0 → StoppedBy s (behind out (put_left x.0 (mixture p m q n) (Ok [])))
        → StoppedBy s whole
    stopped_both s g h stopped = stopped_along s _ _ (both_is g h) (stopped_left s out x.0 (mixture p m q n) _ stopped)

pub mixed_nil : (p q : ℤ) (xs : Sparse) → mixed p q xs [] ≡ scaled p xs
mixed_nil p q [] = refl
mixed_nil p q (x ∷ xs) = ap (put x.0 (product p x.1)) (mixed_nil p q xs)

-- where one list is at its end, the other's numbers are left
module _ (p q : ℤ) (xs ys : Sparse) (out : Sparse) (i j : ℕ) (whole : Computation Sparse)
    (so_far : behind out (mixed p q (drop i xs) (drop j ys)) ≡ whole) where
  pub first_over : length xs ≤ i → behind out (scaled q (drop j ys)) ≡ whole
  first_over past =
      ap (λ zs. behind out (mixed p q zs (drop j ys))) (sym (drop_all i xs past)) ∙ so_far

  pub second_over : length ys ≤ j → behind out (scaled p (drop i xs)) ≡ whole
  second_over past =
      ap (behind out) (sym (mixed_nil p q (drop i xs)))
      ∙ (ap (λ zs. behind out (mixed p q (drop i xs) zs)) (sym (drop_all j ys past)) ∙ so_far)

pub take_rest : {X : Type 0} (i : ℕ) (xs : List X) → take (length xs - i) (drop i xs) ≡ drop i xs
take_rest i xs = take_all (length xs - i) (drop i xs) (omega (arith, length-drop i xs))
