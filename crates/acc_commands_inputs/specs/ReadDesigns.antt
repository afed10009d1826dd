-- What comes of reading a design.
use Rattle.std.specs.Prelude.{List, ℕ}
use Rattle.acc_base.specs.declared.designs.Design.{Design}
use Rattle.acc_parse_readback.specs.Texts.{IsDesignText}
use Rattle.acc_formed.specs.WellFormed.{IsWellFormed}
use Rattle.acc_commands_inputs.specs.declared.designs.ReadDesign.{ReadDesign}
use Rattle.acc_commands_inputs.specs.declared.designs.ReadDesign.TheVariants.{Read, Refused}
use Rattle.acc_commands_inputs.specs.Answers.{said_alone}
use Rattle.acc_commands_inputs.specs.Refusals.{RefusesDesign}

-- the text is that of the design, which is well-formed
pub record IsRead (text : List ℕ) (d : Design) : Type 0 where
  pub is_text : IsDesignText text d
  pub formed : IsWellFormed d

abbrev pub Reads : List ℕ → ReadDesign → Type 0
Reads text (Read d) = IsRead text d
Reads text (Refused a) = RefusesDesign text (said_alone a)
