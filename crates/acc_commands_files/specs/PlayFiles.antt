-- The command play: a script's calls, in the order that is given, on the plain machine of a design.
use Rattle.std.specs.Prelude.{◌≡◌, ◌⊎◌, ℕ, List}
use Rattle.acc_base.specs.declared.designs.Design.{Design}
use Rattle.acc_base.specs.declared.machines.Call.{Call}
use Rattle.acc_commands_inputs.specs.Texts.{IsDesignText}
use Rattle.acc_formed.specs.WellFormed.{IsWellFormed}
use Rattle.acc_play.specs.Tells.{Tells}
use Rattle.acc_journalled.specs.declared.answers.Ending.TheVariants.{Done}
use Rattle.acc_commands_inputs.specs.Refusals.{RefusesDesign}
use Rattle.acc_commands_inputs.specs.Scripts.{SaysOfScript}
use Rattle.acc_commands_inputs.specs.Text.{Said}

-- the play of these calls in this order is told
abbrev pub SaysPlay : Design → List Call → List ℕ → Said → Type 0
SaysPlay d calls order said = (said.ending ≡ Done) × Tells d calls order said.text said.history

-- the text is that of this design, which is well-formed, and then the script decides
pub record PlaysDesign (design script order : List ℕ) (said : Said) : Type 0 where
  pub d : Design
  pub is_text : IsDesignText design d
  pub formed : IsWellFormed d
  pub says : SaysOfScript (SaysPlay d) d script order said

-- the order of the refusals: the design, the script, the order
abbrev pub PlaysFiles : List ℕ → List ℕ → List ℕ → Said → Type 0
PlaysFiles design script order said = RefusesDesign design said ⊎ PlaysDesign design script order said
