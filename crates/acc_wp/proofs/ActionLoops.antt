-- Actions that are taken from the last to the first.
use Rattle.std.proofs.Common.{◌≡◌, ℕ, ◌+◌, ◌-◌, ◌<◌, Bool, true, false, List, [], ◌∷◌, ◌++◌, length, get_or, take, refl, ap, sym, ◌∙◌}
use Rattle.std.proofs.Common.{arith, ◌||◌}
use Rattle.std.proofs.lemmas.List.{take_more}
use Rattle.acc_base.specs.declared.forms.Form.{Form}
use Rattle.acc_base.specs.declared.steps.Action.{Action}
use Rattle.acc_preconditions.specs.Preconditions.{before_action, before_actions, is_action_wide, are_actions_wide}
use Rattle.acc_wp.proofs.GainLoops.{or_assoc}

before_last : (xs : List Action) (a : Action) (f : Form) → before_actions (xs ++ a ∷ []) f ≡ before_actions xs (before_action a f)
before_last [] a f = refl
before_last (x ∷ xs) a f = ap (before_action x) (before_last xs a f)

wide_last : (xs : List Action) (a : Action) (f : Form) →
    are_actions_wide (xs ++ a ∷ []) f ≡ (is_action_wide a f || are_actions_wide xs (before_action a f))
wide_last [] a f = by (is_action_wide a f)
  where
    by : (b : Bool) → b ≡ (b || false)
    by true = refl
    by false = refl
wide_last (x ∷ xs) a f =
    ap (λ b. b || is_action_wide x (before_actions (xs ++ a ∷ []) f)) (wide_last xs a f) ∙
    (ap (λ g. (is_action_wide a f || are_actions_wide xs (before_action a f)) || is_action_wide x g) (before_last xs a f) ∙ or_assoc
    (is_action_wide a f) (are_actions_wide xs (before_action a f)) (is_action_wide x (before_actions xs (before_action a f))))

-- n actions from the end are done, and the next one is a
module _ (acts : List Action) (n m : ℕ) (a : Action) (many : m ≡ n + 1) (within : n < length acts)
    (here : a ≡ get_or acts (length acts - 1 - n) a) (f : Form) where
  front : take (length acts - n) acts ≡ take (length acts - m) acts ++ a ∷ []
  front =
      let one : length acts - n ≡ (length acts - m) + 1 = omega arith in
      let place : length acts - 1 - n ≡ length acts - m = omega arith in
      let left : length acts - m < length acts = omega arith in
      ap (λ (k : ℕ). take k acts) one ∙ (take_more acts (length acts - m) a left ∙
      (ap (λ (k : ℕ). take (length acts - m) acts ++ get_or acts k a ∷ []) (sym place) ∙ ap
      (λ (x : Action). take (length acts - m) acts ++ x ∷ []) (sym here)))

  pub before_step : (new : Form) → new ≡ before_action a f →
      before_actions (take (length acts - m) acts) new ≡ before_actions (take (length acts - n) acts) f
  before_step new e =
      ap (before_actions (take (length acts - m) acts)) e ∙
      (sym (before_last (take (length acts - m) acts) a f) ∙ ap (λ (xs : List Action). before_actions xs f) (sym front))

  split : are_actions_wide (take (length acts - n) acts) f ≡
      (is_action_wide a f || are_actions_wide (take (length acts - m) acts) (before_action a f))
  split = ap (λ (xs : List Action). are_actions_wide xs f) front ∙ wide_last (take (length acts - m) acts) a f

  pub wide_here : is_action_wide a f ≡ true → are_actions_wide (take (length acts - n) acts) f ≡ true
  wide_here e = split ∙ ap (λ b. b || are_actions_wide (take (length acts - m) acts) (before_action a f)) e

  pub wide_step : is_action_wide a f ≡ false → (new : Form) → new ≡ before_action a f →
      are_actions_wide (take (length acts - m) acts) new ≡ are_actions_wide (take (length acts - n) acts) f
  wide_step e new s =
      ap (are_actions_wide (take (length acts - m) acts)) s ∙
      (ap (λ b. b || are_actions_wide (take (length acts - m) acts) (before_action a f)) (sym e) ∙ sym split)
