-- A script and an order: which line is refused, or what is said of the calls and the places that they give.
use Rattle.std.specs.Prelude.{◌⊎◌, ℕ, List, ◌++◌, length, codes}
use Rattle.std.specs.Fmt.{decimal}
use Rattle.acc_base.specs.declared.designs.Design.{Design}
use Rattle.acc_base.specs.declared.machines.Call.{Call}
use Rattle.acc_base.specs.Lines.{line}
use Rattle.acc_script.specs.CallLines.{IsScript, RefusesLine}
use Rattle.acc_script.specs.OrderLines.{IsOrder, RefusesOrderLine}
use Rattle.acc_journalled.specs.declared.answers.Ending.TheVariants.{ScriptRefused}
use Rattle.acc_commands_inputs.specs.Text.{Said, Says}

-- the order is refused, and the first line by which it is none is said
pub record RefusesOrder (calls : List Call) (order : List ℕ) (said : Said) : Type 0 where
  pub none : (numbers : List ℕ) → ¬ IsOrder (length calls) order numbers
  pub at : ℕ
  pub first : RefusesOrderLine (length calls) order at
  pub says : Says ScriptRefused (line (codes "refused order " ++ decimal at)) said

-- the order has these numbers, and this is said of the calls in that order
pub record RunsOrder (SaysRun : List Call → List ℕ → Said → Type 0) (calls : List Call) (order : List ℕ) (said : Said) : Type 0 where
  pub numbers : List ℕ
  pub is_order : IsOrder (length calls) order numbers
  pub says : SaysRun calls numbers said

abbrev pub SaysOfOrder : (List Call → List ℕ → Said → Type 0) → List Call → List ℕ → Said → Type 0
SaysOfOrder SaysRun calls order said = RefusesOrder calls order said ⊎ RunsOrder SaysRun calls order said

-- the script is refused, and the first line by which it is none is said
pub record RefusesScript (d : Design) (script : List ℕ) (said : Said) : Type 0 where
  pub none : (calls : List Call) → ¬ IsScript d script calls
  pub at : ℕ
  pub first : RefusesLine d script at
  pub says : Says ScriptRefused (line (codes "refused script " ++ decimal at)) said

-- the script has these calls, and then the order decides
pub record RunsScript (SaysRun : List Call → List ℕ → Said → Type 0) (d : Design) (script order : List ℕ) (said : Said) : Type 0 where
  pub calls : List Call
  pub is_script : IsScript d script calls
  pub says : SaysOfOrder SaysRun calls order said

-- the order of the refusals: the script, the order; then what is said of the calls in that order
abbrev pub SaysOfScript : (List Call → List ℕ → Said → Type 0) → Design → List ℕ → List ℕ → Said → Type 0
SaysOfScript SaysRun d script order said = RefusesScript d script said ⊎ RunsScript SaysRun d script order said
