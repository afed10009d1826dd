-- The weakest precondition of actions: the relation that is true before them exactly where a relation is true after them.
use Rattle.std.specs.Prelude.{Bool, false, ◌||◌, List, [], ◌∷◌, pos}
use Rattle.acc_base.specs.declared.forms.Form.{Form}
use Rattle.acc_base.specs.declared.forms.Rel.{Rel}
use Rattle.acc_base.specs.declared.steps.Action.{Action}
use Rattle.acc_base.specs.Sums.{form_sum, is_sum_wide}
use Rattle.acc_preconditions.specs.Gains.{gained, is_gained_wide}

abbrev pub without_constant : Form → Form
without_constant f = record f { constant = pos 0 }

-- the form before an action: its terms stay, and behind them comes what it gains, all collected
abbrev pub before_action : Action → Form → Form
before_action a f = form_sum (without_constant f) (pos 1) (gained a f)

-- the form before actions, from the last one to the first
abbrev pub before_actions : List Action → Form → Form
before_actions [] f = f
before_actions (a ∷ rest) f = before_action a (before_actions rest f)

abbrev pub wp_of : List Action → Rel → Rel
wp_of actions r = record { form = before_actions actions r.form; equal = r.equal }

-- ---- whether a number that this computes is too large

abbrev pub is_action_wide : Action → Form → Bool
is_action_wide a f = is_gained_wide a f || is_sum_wide (without_constant f) (pos 1) (gained a f)

abbrev pub are_actions_wide : List Action → Form → Bool
are_actions_wide [] f = false
are_actions_wide (a ∷ rest) f = are_actions_wide rest f || is_action_wide a (before_actions rest f)

abbrev pub is_wp_wide : List Action → Rel → Bool
is_wp_wide actions r = are_actions_wide actions r.form
