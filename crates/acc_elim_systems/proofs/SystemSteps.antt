-- The first equation that has an unknown, and the numbers of the unknowns.
use Rattle.std.proofs.Common.{◌≡◌, ℕ, zero, suc, ◌+◌, ◌-◌, ◌<◌, ◌≤◌, Bool, true, false, cond, List, [], ◌∷◌, ◌++◌, length, get_or, not, pos}
use Rattle.std.proofs.Common.{Some, None, Ok, refl, ap, sym, ◌∙◌, arith, if◌then◌else◌, nat_lt}
use Rattle.std.specs.Prelude.{position, option_map, filter, int_lt}
use Rattle.std.specs.Ordering.{int_eq}
use Rattle.std.specs.List.{position_or_len, remove}
use Rattle.std.proofs.lemmas.Bool.Decides.{nat_tests}
use Rattle.std.proofs.lemmas.List.Quantifiers.{position-Some}
use Rattle.std.proofs.lemmas.List.Sums.{fails_before_first}
use Rattle.acc_rows.specs.declared.rows.Row.{Row}
use Rattle.acc_rows.specs.Sparse.{at}
use Rattle.acc_rows.specs.declared.stops.Stop.{Stop}
use Rattle.acc_elim_systems.specs.declared.systems.Parted.{Parted}
use Rattle.acc_elim_systems.specs.declared.systems.Bounded.{Bounded}
use Rattle.acc_base.specs.Computing.{chain, steps}
use Rattle.acc_rows.specs.Answers.{Computation, StoppedBy}
use Rattle.acc_base.specs.Items.{numbers_from}
use Rattle.acc_elim_systems.specs.Systems.{is_equation_with, taken, is_without, is_lower, is_upper, IsParted, parted_with}
use Rattle.acc_elim_systems.specs.Systems.{crossed_with, crossed, bounds_of, or_else}
use Rattle.acc_rows.proofs.Chains.{stopped_along, stopped_chain}

module _ (u : ℕ) where
  taken_cases : (r : Row) (rs : List Row) (b : Bool) → is_equation_with u r ≡ b
      → taken u (r ∷ rs) ≡ (if b then Some (r, rs) else option_map (λ t. (t.0, r ∷ t.1)) (taken u rs))
  taken_cases r rs b e = ap (λ x. if x then Some (r, rs) else option_map (λ t. (t.0, r ∷ t.1)) (taken u rs)) e

  taken_at : (rows : List Row) (i : ℕ) (d : Row) → i < length rows → is_equation_with u (get_or rows i d) ≡ true
      → ((k : ℕ) → k < i → is_equation_with u (get_or rows k d) ≡ false) → taken u rows ≡ Some (get_or rows i d, remove rows i)
  taken_at [] i d l e f = absurd (omega (arith, l))
  taken_at (r ∷ rs) zero d l e f = taken_cases r rs true e
  taken_at (r ∷ rs) (suc i) d l e f =
      taken_cases r rs false (f zero (omega arith))
      ∙ ap (λ x. option_map (λ t. (t.0, r ∷ t.1)) x) (taken_at rs i d (omega (arith, l)) e (λ k h. f (suc k) (omega (arith, h))))

  pub taken_found : (rows : List Row) (i : ℕ) (d : Row) (rest : List Row) → position (is_equation_with u) rows ≡ Some i
      → d ≡ get_or rows i d → rest ≡ remove rows i → taken u rows ≡ Some (d, rest)
  taken_found rows i d rest p here left =
      let q = position-Some (is_equation_with u) rows i d p in
      taken_at rows i d q.0 q.1 q.2 ∙ (λ k. Some (sym here k, sym left k))

  taken_never : (rows : List Row) → ((k : ℕ) (d : Row) → k < length rows → is_equation_with u (get_or rows k d) ≡ false)
      → taken u rows ≡ None
  taken_never [] f = refl
  taken_never (r ∷ rs) f =
      taken_cases r rs false (f zero r (omega arith))
      ∙ ap (λ x. option_map (λ t. (t.0, r ∷ t.1)) x) (taken_never rs (λ k d h. f (suc k) d (omega (arith, h))))

  all_fail : (rows : List Row) (b : Bool) → nat_lt (position_or_len (is_equation_with u) rows) (length rows) ≡ b
      → cond b (Some (position_or_len (is_equation_with u) rows)) None ≡ None → (k : ℕ) (d : Row) → k < length rows
      → is_equation_with u (get_or rows k d) ≡ false
  all_fail rows true e h k d l = absurd (cc)
  all_fail rows false e h k d l =
      let past : length rows ≤ position_or_len (is_equation_with u) rows = grind (arith, nat_tests) in
      fails_before_first (is_equation_with u) rows k d (omega arith)

  pub taken_none : (rows : List Row) → position (is_equation_with u) rows ≡ None → taken u rows ≡ None
  taken_none rows p = taken_never rows (all_fail rows (nat_lt (position_or_len (is_equation_with u) rows) (length rows)) refl p)

-- ---- the numbers of the unknowns

pub numbers_suc : (i n : ℕ) → numbers_from i (suc n) ≡ i ∷ numbers_from (suc i) n
numbers_suc i n = let e : i + 1 ≡ suc i = omega arith in ap (λ j. i ∷ numbers_from j n) e

pub numbers_more : (i n : ℕ) → i < n → numbers_from i (n - i) ≡ i ∷ numbers_from (i + 1) (n - (i + 1))
numbers_more i n l =
    let e : n - i ≡ suc (n - (i + 1)) = omega (arith, l) in
    ap (numbers_from i) e

pub numbers_none : (i n : ℕ) → n ≤ i → numbers_from i (n - i) ≡ []
numbers_none i n l = let e : n - i ≡ zero = omega (arith, l) in ap (numbers_from i) e

-- ---- relations that are parted by the sign of a coefficient

module _ {X : Type 0} (p : X → Bool) (x : X) where
  pub filter_put : (xs : List X) → p x ≡ true → filter p (xs ++ x ∷ []) ≡ filter p xs ++ x ∷ []
  filter_put [] e = ap (λ b. if b then (x ∷ []) else []) e
  filter_put (y ∷ ys) e = by (p y) (filter_put ys e)
    where
      by : (b : Bool) → filter p (ys ++ x ∷ []) ≡ filter p ys ++ x ∷ []
          → (if b then (y ∷ filter p (ys ++ x ∷ [])) else filter p (ys ++ x ∷ []))
          ≡ (if b then (y ∷ filter p ys) else filter p ys) ++ x ∷ []
      by true h = ap (λ zs. y ∷ zs) h
      by false h = h

  pub filter_skip : (xs : List X) → p x ≡ false → filter p (xs ++ x ∷ []) ≡ filter p xs
  filter_skip [] e = ap (λ b. if b then (x ∷ []) else []) e
  filter_skip (y ∷ ys) e = ap (λ zs. if p y then (y ∷ zs) else zs) (filter_skip ys e)

  filter_more : (xs : List X) → filter p (xs ++ x ∷ []) ≡ (if p x then filter p xs ++ x ∷ [] else filter p xs)
  filter_more xs = by (p x) refl
    where
      by : (b : Bool) → p x ≡ b → filter p (xs ++ x ∷ []) ≡ (if b then filter p xs ++ x ∷ [] else filter p xs)
      by true e = filter_put xs e
      by false e = filter_skip xs e

pub parted_more : (u : ℕ) (rows : List Row) (p : Parted) (r : Row) → IsParted u rows p → IsParted u (rows ++ r ∷ []) (parted_with u p r)
parted_more u rows p r is = (
  ap (λ rs. if is_without u r then rs ++ r ∷ [] else rs) is.0 ∙ sym (filter_more (is_without u) r rows),
  ap (λ rs. if is_lower u r then rs ++ r ∷ [] else rs) is.1 ∙ sym (filter_more (is_lower u) r rows),
  ap (λ rs. if is_upper u r then rs ++ r ∷ [] else rs) is.2 ∙ sym (filter_more (is_upper u) r rows),
)

pub is_zero_without : (u : ℕ) (r : Row) → at u r.terms ≡ pos 0 → is_without u r ≡ true
is_zero_without u r e = ap (λ z. not (not (int_eq z (pos 0)))) e

pub is_zero_lower : (u : ℕ) (r : Row) → at u r.terms ≡ pos 0 → is_lower u r ≡ false
is_zero_lower u r e = ap (λ z. int_lt z (pos 0)) e

pub is_zero_upper : (u : ℕ) (r : Row) → at u r.terms ≡ pos 0 → is_upper u r ≡ false
is_zero_upper u r e = ap (λ z. int_lt (pos 0) z) e

-- the relations of a system, parted, are crossed
module _ (u : ℕ) (s : Bounded) (p : Parted) (is : IsParted u s.rows p) (without lows ups : List Row) (without_is : without ≡ p.without)
    (lows_is : lows ≡ p.lows) (ups_is : ups ≡ p.ups) where
  abbrev all_crossed : Computation (List Row)
  all_crossed =
      steps (crossed_with u (filter (is_lower u) s.rows)) (filter (is_without u) s.rows) (filter (is_upper u) s.rows)

  crossed_is : steps (crossed_with u lows) without ups ≡ all_crossed
  crossed_is = λ k. steps (crossed_with u ((lows_is ∙ is.1) k)) ((without_is ∙ is.0) k) ((ups_is ∙ is.2) k)

  abbrev next : List Row → Computation Bounded
  next rows = Ok (record { rows = rows; bounds = s.bounds ++ (u, bounds_of u s.rows) ∷ [] })

  pub crossed_stopped : (e : Stop) → StoppedBy e (steps (crossed_with u lows) without ups) → StoppedBy e (crossed s u)
  crossed_stopped e h = stopped_chain e all_crossed next (stopped_along e _ _ crossed_is h)

  pub crossed_to : (rows : List Row) (bounds : List (ℕ × List Row)) → steps (crossed_with u lows) without ups ≡ Ok rows
      → bounds ≡ s.bounds ++ (u, or_else p.lows p.ups) ∷ [] → crossed s u ≡ Ok (record { rows = rows; bounds = bounds })
  crossed_to rows bounds done more =
      ap (λ o. chain o next) (sym crossed_is ∙ done)
      ∙ (λ k. Ok (record {
        rows = rows;
        bounds = (sym (more ∙ (λ i. s.bounds ++ (u, or_else (is.1 i) (is.2 i)) ∷ []))) k;
      }))
