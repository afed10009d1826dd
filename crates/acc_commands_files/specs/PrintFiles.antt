-- The commands print and draw: a design in its one printed spelling, and its picture.
use Rattle.std.specs.Prelude.{◌⊎◌, ◌*◌, ◌≤◌, ℕ, List, length}
use Rattle.acc_base.specs.declared.designs.Design.{Design}
use Rattle.acc_formed.specs.WellFormed.{IsWellFormed}
use Rattle.acc_commands_inputs.specs.Texts.{IsDesignText}
use Rattle.acc_print.specs.Designs.{printed}
use Rattle.acc_draw.specs.Pictures.{drawn}
use Rattle.acc_journalled.specs.declared.answers.Ending.TheVariants.{Done}
use Rattle.acc_commands_inputs.specs.Text.{Said, Says}
use Rattle.acc_commands_inputs.specs.Refusals.{RefusesDesign}

-- The text is that of this design, which is well-formed. Its printed spelling is said, which is a text of the same design, and has
-- at most 16 bytes for each byte that was read.
pub record PrintsDesign (design : List ℕ) (said : Said) : Type 0 where
  pub d : Design
  pub is_text : IsDesignText design d
  pub formed : IsWellFormed d
  pub says : Says Done (printed d) said
  pub same : IsDesignText (printed d) d
  pub short : length (printed d) ≤ 16 * length design

abbrev pub PrintsFile : List ℕ → Said → Type 0
PrintsFile design said = RefusesDesign design said ⊎ PrintsDesign design said

-- the text is that of this design, which is well-formed, and its picture is said
pub record DrawsDesign (design : List ℕ) (said : Said) : Type 0 where
  pub d : Design
  pub is_text : IsDesignText design d
  pub formed : IsWellFormed d
  pub says : Says Done (drawn d) said

abbrev pub DrawsFile : List ℕ → Said → Type 0
DrawsFile design said = RefusesDesign design said ⊎ DrawsDesign design said
