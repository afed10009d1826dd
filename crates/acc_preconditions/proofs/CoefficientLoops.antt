-- Coefficients that are collected in two parts.
use Rattle.std.proofs.Common.{◌≡◌, Bool, true, false, List, [], ◌∷◌, ◌++◌, map, refl, ap, sym, ◌∙◌, ◌||◌}
use Rattle.std.specs.List.{list_any}
use Rattle.std.proofs.lemmas.List.Folds.{list_any-append}
use Rattle.acc_base.specs.declared.forms.Lin.{Lin}
use Rattle.acc_instanced.specs.Coefficients.{Coefficient, with_coefficient, enlarged, with_coefficients, is_long}
use Rattle.acc_preconditions.specs.Differences.{all_enlarged, negated, coefficients}

pub with_coefficients-append : (sums xs ys : List Coefficient) →
    with_coefficients sums (xs ++ ys) ≡ with_coefficients (with_coefficients sums xs) ys
with_coefficients-append sums [] ys = refl
with_coefficients-append sums (x ∷ xs) ys = with_coefficients-append (with_coefficient x sums) xs ys

all_enlarged-append : (sums xs ys : List Coefficient) →
    all_enlarged sums (xs ++ ys) ≡ all_enlarged sums xs ++ all_enlarged (with_coefficients sums xs) ys
all_enlarged-append sums [] ys = refl
all_enlarged-append sums (x ∷ xs) ys = ap (λ ns. enlarged x sums ∷ ns) (all_enlarged-append (with_coefficient x sums) xs ys)

abbrev any_long : List Coefficient → List Coefficient → Bool
any_long sums xs = list_any is_long (all_enlarged sums xs)

in_two : (sums xs ys : List Coefficient) → any_long sums (xs ++ ys) ≡ (any_long sums xs || any_long (with_coefficients sums xs) ys)
in_two sums xs ys =
    ap (list_any is_long) (all_enlarged-append sums xs ys) ∙ list_any-append is_long (all_enlarged sums xs)
    (all_enlarged (with_coefficients sums xs) ys)

-- a's coefficients are added to none, and then b's are taken away
module _ (a b : Lin) (start xs : List Coefficient) (none : start ≡ []) (first : xs ≡ a.coeffs) where
  begun : any_long start xs ≡ any_long [] a.coeffs
  begun = ap (λ (ts : List Coefficient). any_long ts xs) none ∙ ap (any_long []) first

  pub first_long : list_any is_long (all_enlarged start xs) ≡ true → list_any is_long (all_enlarged [] (coefficients a b)) ≡ true
  first_long e =
      in_two [] a.coeffs (map negated b.coeffs) ∙ ap (λ x. x || any_long (with_coefficients [] a.coeffs) (map negated b.coeffs))
      (sym begun ∙ e)

  module _ (middle ys : List Coefficient) (added : middle ≡ with_coefficients start xs) (second : ys ≡ b.coeffs) where
    is_middle : middle ≡ with_coefficients [] a.coeffs
    is_middle = added ∙ (ap (λ (ts : List Coefficient). with_coefficients ts xs) none ∙ ap (with_coefficients []) first)

    pub collected_is : (last : List Coefficient) → last ≡ with_coefficients middle (map negated ys) →
        last ≡ with_coefficients [] (coefficients a b)
    collected_is last e =
        e ∙ (ap (λ (ts : List Coefficient). with_coefficients ts (map negated ys)) is_middle ∙
        (ap (λ (ts : List Coefficient). with_coefficients (with_coefficients [] a.coeffs) (map negated ts)) second ∙ sym
        (with_coefficients-append [] a.coeffs (map negated b.coeffs))))

    pub second_long : list_any is_long (all_enlarged start xs) ≡ false →
        list_any is_long (all_enlarged [] (coefficients a b)) ≡ list_any is_long (all_enlarged middle (map negated ys))
    second_long e =
        in_two [] a.coeffs (map negated b.coeffs) ∙ (ap (λ x. x || any_long (with_coefficients [] a.coeffs) (map negated b.coeffs))
        (sym begun ∙ e) ∙ (ap (λ (ts : List Coefficient). any_long ts (map negated b.coeffs)) (sym is_middle) ∙ ap
        (λ (ts : List Coefficient). any_long middle (map negated ts)) (sym second)))
