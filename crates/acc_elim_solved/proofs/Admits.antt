-- Where all relations of a system are met, so are those that it dropped.
use Rattle.std.proofs.Common.{◌≡◌, ◌==◌, ℕ, Bool, true, false, List, [], ◌∷◌, ◌++◌, length, Ok, Err, refl, ap, sym, ◌∙◌, subst, arith, ℤ}
use Rattle.std.proofs.Common.{pos, ◌+ℤ◌, ◌*ℤ◌, if◌then◌else◌, not, ◌&&◌}
use Rattle.std.specs.Prelude.{◌||◌}
use Rattle.std.specs.Prelude.{All, int_lt, nat_le}
use Rattle.std.specs.List.{list_any}
use Rattle.std.specs.Ordering.{int_eq}
use Rattle.std.specs.Cmp.{first_so, second_so}
use lib.Signed.{◌<ℤ◌, ◌≤ℤ◌}
use lib.IntN.{*ℤ_comm, zero-*ℤ}
use Rattle.std.proofs.lemmas.Int.{ints}
use Rattle.std.proofs.lemmas.Bool.Decides.{Decides-int_eq}
use Rattle.std.proofs.lemmas.List.Elements.{All-nil, All-head, All-tail, All-cons, All-push}
use Rattle.acc_rows.specs.declared.stops.Stop.TheVariants.{Refuted, Many}
use Rattle.acc_rows.specs.declared.rows.Row.{Row}
use Rattle.acc_base.specs.Computing.{steps}
use Rattle.acc_rows.specs.Answers.{Computation}
use Rattle.acc_base.specs.Collecting.{worth}
use Rattle.acc_rows.specs.Sparse.{Sparse, same_numbers, no_numbers}
use Rattle.acc_elim_systems.specs.declared.systems.TheConstants.{MOST_RELATIONS}
use Rattle.acc_elim_systems.specs.Systems.{is_false, same_bool, repeats, is_constant, admitted}
use Rattle.acc_elim_solved.proofs.Ints.{below_times}
use Rattle.acc_elim_solved.proofs.Values.{Holds, holds_chain, holds_weaker}
use Rattle.acc_elim_solved.proofs.Points.{row_worth, is_same}

-- a relation whose form is worth this is met
abbrev pub MetBy : Bool → ℤ → Type 0
MetBy true z = z ≡ pos 0
MetBy false z = z ≤ℤ pos 0

-- it is met where each unknown is worth f / D
abbrev pub Met : (ℕ → ℤ) → ℤ → Row → Type 0
Met f D r = MetBy r.equal (row_worth f D r)

-- ---- repetitions

same_list : (xs ys : Sparse) → same_numbers xs ys ≡ true → xs ≡ ys
same_list [] [] e = refl
same_list [] (y ∷ ys) e = absurd (cc)
same_list (x ∷ xs) [] e = absurd (cc)
same_list (x ∷ xs) (y ∷ ys) e =
    let here = first_so ((x.0 == y.0) && int_eq x.1 y.1) (same_numbers xs ys) e in
    let place = is_same x.0 y.0 (first_so (x.0 == y.0) (int_eq x.1 y.1) here) in
    let number = (Decides-int_eq x.1 y.1).0 (second_so (x.0 == y.0) (int_eq x.1 y.1) here) in
    let rest = same_list xs ys (second_so ((x.0 == y.0) && int_eq x.1 y.1) (same_numbers xs ys) e) in
    λ k. (place k, number k) ∷ rest k

same_flag : (a b : Bool) → same_bool a b ≡ true → a ≡ b
same_flag true b e = sym e
same_flag false true e = absurd (cc)
same_flag false false e = refl

and_all : (a b c : Bool) → (a && b && c) ≡ true → (a ≡ true) × (b ≡ true) × (c ≡ true)
and_all true true true e = (refl, refl, refl)
and_all true true false e = absurd (cc)
and_all true false c e = absurd (cc)
and_all false b c e = absurd (cc)

repeats_met : (f : ℕ → ℤ) (D : ℤ) (r k : Row) → repeats r k ≡ true → Met f D k → Met f D r
repeats_met f D r k e met =
    let parts = and_all (int_eq k.constant r.constant) (same_bool k.equal r.equal) (same_numbers k.terms r.terms) e in
    let constant = (Decides-int_eq k.constant r.constant).0 parts.0 in
    let equal = same_flag k.equal r.equal parts.1 in
    let terms = same_list k.terms r.terms parts.2 in
    subst (λ z. z) (λ i. MetBy (equal i) (constant i *ℤ D +ℤ worth f (terms i))) met

any_met : (f : ℕ → ℤ) (D : ℤ) (r : Row) (rows : List Row) → list_any (repeats r) rows ≡ true → All (Met f D) rows → Met f D r
any_met f D r [] e all = absurd (cc)
any_met f D r (k ∷ rows) e all = by (any_met f D r rows) (repeats r k) refl e
  where
    by : (list_any (repeats r) rows ≡ true → All (Met f D) rows → Met f D r) → (b : Bool) → repeats r k ≡ b
        → (b || list_any (repeats r) rows) ≡ true → Met f D r
    by rest true is e = repeats_met f D r k is (All-head (Met f D) k rows all)
    by rest false is e = rest e (All-tail (Met f D) k rows all)

-- ---- true constants

constant_form : (f : ℕ → ℤ) (D : ℤ) (r : Row) → is_constant r ≡ true → row_worth f D r ≡ r.constant *ℤ D
constant_form f D r e = by r.terms e
  where
    by : (xs : Sparse) → no_numbers xs ≡ true → r.constant *ℤ D +ℤ worth f xs ≡ r.constant *ℤ D
    by [] e = omega (arith, ints)
    by (x ∷ xs) e = absurd (cc)

true_met : (f : ℕ → ℤ) (D : ℤ) (r : Row) → pos 0 <ℤ D → is_constant r ≡ true → is_false r ≡ false → Met f D r
true_met f D r above constant is = by r.equal is
  where
    known : row_worth f D r ≡ r.constant *ℤ D
    known = constant_form f D r constant

    not_true : (b : Bool) → not b ≡ false → b ≡ true
    not_true true e = refl
    not_true false e = absurd (cc)

    by : (b : Bool) → (if b then not (int_eq r.constant (pos 0)) else int_lt (pos 0) r.constant) ≡ false → MetBy b (row_worth f D r)
    by true e =
        let zero_is = (Decides-int_eq r.constant (pos 0)).0 (not_true (int_eq r.constant (pos 0)) e) in
        known ∙ (ap (λ z. z *ℤ D) zero_is ∙ zero-*ℤ D)
    by false e =
        let low : r.constant ≤ℤ pos 0 = grind (arith, ints) in
        let turned = *ℤ_comm r.constant D in
        let k = below_times D r.constant (omega (arith, ints, above)) low in
        let n = known in
        omega (arith, ints, turned, k, n)

-- ---- one more relation

all_front : (P : Row → Type 0) (xs ys : List Row) → All P (xs ++ ys) → All P xs × All P ys
all_front P [] ys all = (All-nil P, all)
all_front P (x ∷ xs) ys all =
    let rest = all_front P xs ys (All-tail P x (xs ++ ys) all) in
    (All-cons P x xs (All-head P x (xs ++ ys) all) rest.0, rest.1)

-- the system keeps what holds of all, and where it is met, so are those before and the relation
abbrev pub Back : List Row → Row → List Row → Type 0
Back rows r new = (f : ℕ → ℤ) (D : ℤ) → pos 0 <ℤ D → All (Met f D) new → All (Met f D) rows × Met f D r

abbrev pub Admits : (Row → Type 0) → List Row → Row → List Row → Type 0
Admits P rows r new = All P new × Back rows r new

admitted_by : (P : Row → Type 0) (rows : List Row) (r : Row) → All P rows → (is_constant r ≡ false → P r) → (b c d e : Bool)
    → is_constant r ≡ b → is_false r ≡ c → list_any (repeats r) rows ≡ d
    → Holds (if b then (if c then Err (Refuted r) else Ok rows)
    else (if d then Ok rows else (if e then Err Many else Ok (rows ++ r ∷ [])))) (Admits P rows r)
admitted_by P rows r all p true true d e constant wrong any = tt
admitted_by P rows r all p true false d e constant wrong any = (all, λ f D above met. (met, true_met f D r above constant wrong))
admitted_by P rows r all p false c true e constant wrong any = (all, λ f D above met. (met, any_met f D r rows any met))
admitted_by P rows r all p false c false true constant wrong any = tt
admitted_by P rows r all p false c false false constant wrong any = (
  All-push P rows r all (p constant),
  λ f D above met. let parts = all_front (Met f D) rows (r ∷ []) met in
      (parts.0, All-head (Met f D) r [] parts.1),
)

pub admitted_holds : (P : Row → Type 0) (rows : List Row) (r : Row) → All P rows → (is_constant r ≡ false → P r)
    → Holds (admitted rows r) (Admits P rows r)
admitted_holds P rows r all p =
    admitted_by P rows r all p (is_constant r) (is_false r) (list_any (repeats r) rows) (nat_le MOST_RELATIONS (length rows)) refl refl refl

-- ---- steps that each add a relation for an item

-- where the new system is met, so are those before, and what each item means is so
abbrev pub Adds : {X : Type 0} → (Row → Type 0) → ((ℕ → ℤ) → ℤ → X → Type 0) → List Row → List X → List Row → Type 0
Adds P So rows xs new = All P new × ((f : ℕ → ℤ) (D : ℤ) → pos 0 <ℤ D → All (Met f D) new → All (Met f D) rows × All (So f D) xs)

pub adds_steps : {X : Type 0} (P : Row → Type 0) (So : (ℕ → ℤ) → ℤ → X → Type 0) (R : X → Type 0)
    (step : List Row → X → Computation (List Row)) → ((rows : List Row) (x : X) → All P rows → R x
    → Holds (step rows x) (λ new. All P new × ((f : ℕ → ℤ) (D : ℤ) → pos 0 <ℤ D → All (Met f D) new → All (Met f D) rows × So f D x)))
    → (xs : List X) (rows : List Row) → All R xs → All P rows → Holds (steps step rows xs) (Adds P So rows xs)
adds_steps P So R step h [] rows rs all = (all, λ f D above met. (met, All-nil (So f D)))
adds_steps P So R step h (x ∷ xs) rows rs all =
    holds_chain (step rows x) (λ t. steps step t xs)
    (λ new. All P new × ((f : ℕ → ℤ) (D : ℤ) → pos 0 <ℤ D → All (Met f D) new → All (Met f D) rows × So f D x))
    (Adds P So rows (x ∷ xs)) (h rows x all (All-head R x xs rs)) (λ new k.
    holds_weaker (steps step new xs) (Adds P So new xs) (Adds P So rows (x ∷ xs))
    (λ last m. (
      m.0,
      λ f D above met. let back = m.1 f D above met in let first = k.1 f D above back.0 in
          (first.0, All-cons (So f D) x xs first.1 back.1),
    )) (adds_steps P So R step h xs new (All-tail R x xs rs) k.0))
