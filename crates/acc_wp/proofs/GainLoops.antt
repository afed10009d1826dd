-- What a form gains term by term.
use Rattle.std.proofs.Common.{◌≡◌, ℕ, ◌+◌, ◌<◌, Bool, true, false, List, [], ◌∷◌, ◌++◌, length, get_or, drop, refl, ap, sym, ◌∙◌, ◌||◌}
use Rattle.std.specs.List.{list_any}
use Rattle.std.proofs.lemmas.List.{drop_more}
use Rattle.acc_base.specs.declared.forms.Form.{Form}
use Rattle.acc_base.specs.declared.steps.Action.{Action}
use Rattle.acc_base.specs.Sums.{Term}
use Rattle.acc_instanced.specs.Summands.{with_summand, with_summands, is_summand_wide, are_summands_wide}
use Rattle.acc_preconditions.specs.Gains.{term_summands, summands, is_term_long}

with_summands-append : (xs ys : List Term) (g : Form) → with_summands (xs ++ ys) g ≡ with_summands ys (with_summands xs g)
with_summands-append [] ys g = refl
with_summands-append (x ∷ xs) ys g = with_summands-append xs ys (with_summand x g)

pub or_assoc : (a b c : Bool) → ((a || b) || c) ≡ (a || (b || c))
or_assoc true b c = refl
or_assoc false b c = refl

summands_wide-append : (xs ys : List Term) (g : Form) →
    are_summands_wide (xs ++ ys) g ≡ (are_summands_wide xs g || are_summands_wide ys (with_summands xs g))
summands_wide-append [] ys g = refl
summands_wide-append (x ∷ xs) ys g =
    ap (λ b. is_summand_wide x g || b) (summands_wide-append xs ys (with_summand x g)) ∙ sym
    (or_assoc (is_summand_wide x g) (are_summands_wide xs (with_summand x g))
    (are_summands_wide ys (with_summands xs (with_summand x g))))

either : (p P g G : Bool) → ((p || P) || (g || G)) ≡ ((p || g) || (P || G))
either true P g G = refl
either false true true G = refl
either false true false G = refl
either false false g G = refl

-- a number of what terms gain is too large
abbrev pub gains_wide : Action → List Term → Form → Bool
gains_wide a ts g = list_any (is_term_long a) ts || are_summands_wide (summands a ts) g

module _ (a : Action) (terms : List Term) (i : ℕ) (d : Term) (within : i < length terms) (here : d ≡ get_or terms i d) (g : Form) where
  one_more : drop i terms ≡ d ∷ drop (i + 1) terms
  one_more = drop_more terms i d within ∙ ap (λ (x : Term). x ∷ drop (i + 1) terms) (sym here)

  abbrev next : Form
  next = with_summands (term_summands a d) g

  pub gains_step : (new : Form) → new ≡ next → with_summands (summands a (drop (i + 1) terms)) new ≡ with_summands
      (summands a (drop i terms)) g
  gains_step new e =
      ap (with_summands (summands a (drop (i + 1) terms))) e ∙
      (sym (with_summands-append (term_summands a d) (summands a (drop (i + 1) terms)) g) ∙ ap
      (λ (ts : List Term). with_summands (summands a ts) g) (sym one_more))

  split : gains_wide a (drop i terms) g ≡ ((is_term_long a d || are_summands_wide (term_summands a d) g) || gains_wide a
      (drop (i + 1) terms) next)
  split =
      ap (λ (ts : List Term). gains_wide a ts g) one_more ∙
      (ap (λ b. list_any (is_term_long a) (d ∷ drop (i + 1) terms) || b)
      (summands_wide-append (term_summands a d) (summands a (drop (i + 1) terms)) g) ∙ either (is_term_long a d)
      (list_any (is_term_long a) (drop (i + 1) terms)) (are_summands_wide (term_summands a d) g)
      (are_summands_wide (summands a (drop (i + 1) terms)) next))

  pub gains_here : (is_term_long a d || are_summands_wide (term_summands a d) g) ≡ true → gains_wide a (drop i terms) g ≡ true
  gains_here e = split ∙ ap (λ b. b || gains_wide a (drop (i + 1) terms) next) e

  pub gains_wide_step : (is_term_long a d || are_summands_wide (term_summands a d) g) ≡ false → (new : Form) → new ≡ next →
      gains_wide a (drop (i + 1) terms) new ≡ gains_wide a (drop i terms) g
  gains_wide_step e new s =
      ap (gains_wide a (drop (i + 1) terms)) s ∙ (ap (λ b. b || gains_wide a (drop (i + 1) terms) next) (sym e) ∙ sym split)
