-- The command check: whether a design is accepted with a certificate.
use Rattle.std.specs.Prelude.{◌≡◌, ◌⊎◌, ℕ, Bool, if◌then◌else◌, List, []}
use Rattle.acc_base.specs.declared.designs.Design.{Design}
use Rattle.acc_formed.specs.WellFormed.{IsWellFormed}
use Rattle.acc_commands_inputs.specs.Texts.{IsDesignText}
use Rattle.acc_commands_inputs.specs.Reports.{Reports}
use Rattle.acc_journalled.specs.declared.answers.Ending.{Ending}
use Rattle.acc_journalled.specs.declared.answers.Ending.TheVariants.{Done, DesignRefused}
use Rattle.acc_commands_inputs.specs.Text.{Said}
use Rattle.acc_commands_inputs.specs.Refusals.{RefusesDesign}

abbrev pub ending_by : Bool → Ending
ending_by accepted = if accepted then Done else DesignRefused

-- the text is that of this design, which is well-formed, and whether it is accepted with the certificate is reported
pub record ChecksDesign (design certificate : List ℕ) (said : Said) : Type 0 where
  pub d : Design
  pub is_text : IsDesignText design d
  pub formed : IsWellFormed d
  pub accepted : Bool
  pub reports : Reports d certificate accepted said.text
  pub ending : said.ending ≡ ending_by accepted
  pub history : said.history ≡ []

-- the order of the refusals: the design, the certificate
abbrev pub ChecksFiles : List ℕ → List ℕ → Said → Type 0
ChecksFiles design certificate said = RefusesDesign design said ⊎ ChecksDesign design certificate said
