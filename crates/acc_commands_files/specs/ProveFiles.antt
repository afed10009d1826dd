-- The command prove: the obligations of a design are proved, by a search for each, or it is told which aren't.
use Rattle.std.specs.Prelude.{◌≡◌, ◌⊎◌, ℕ, List, []}
use Rattle.acc_base.specs.declared.designs.Design.{Design}
use Rattle.acc_formed.specs.WellFormed.{IsWellFormed}
use Rattle.acc_commands_inputs.specs.Texts.{IsDesignText}
use Rattle.acc_cert_prove.specs.Provings.{IsCertified, IsOpen, IsWide}
use Rattle.acc_journalled.specs.declared.answers.Ending.{Ending}
use Rattle.acc_journalled.specs.declared.answers.Ending.TheVariants.{Done, DesignRefused, Open}
use Rattle.acc_commands_inputs.specs.Text.{Said}
use Rattle.acc_commands_inputs.specs.Refusals.{RefusesDesign}

-- Each search closes, and a certificate with which the design is accepted is said; or not each does, and the obligations that stay open are
-- said, each with what ended its search; or a number of one is too large, and the first such is said.
abbrev pub EndsProving : Design → Ending → List ℕ → Type 0
EndsProving d ending text =
    ((ending ≡ Done) × IsCertified d text) ⊎ (((ending ≡ Open) × IsOpen d text) ⊎ ((ending ≡ DesignRefused) × IsWide d text))

-- this is said, and no machine ran
abbrev pub SaysProving : Design → Said → Type 0
SaysProving d said = (said.history ≡ []) × EndsProving d said.ending said.text

-- the text is that of this design, which is well-formed, and then the searches decide
pub record ProvesDesign (design : List ℕ) (said : Said) : Type 0 where
  pub d : Design
  pub is_text : IsDesignText design d
  pub formed : IsWellFormed d
  pub says : SaysProving d said

-- the text is that of this design, which is well-formed, and obligations of it stay open: what is said has a line for each
pub record StaysOpen (design text : List ℕ) : Type 0 where
  pub d : Design
  pub is_text : IsDesignText design d
  pub formed : IsWellFormed d
  pub is_open : IsOpen d text

-- the order of the refusals: the design, its obligations
abbrev pub ProvesFile : List ℕ → Said → Type 0
ProvesFile design said = RefusesDesign design said ⊎ ProvesDesign design said
