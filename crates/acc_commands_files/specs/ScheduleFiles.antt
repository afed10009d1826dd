-- The command rehearse: a script's calls, in the order that is given and then to their end, by the rules of locks, for a design that is
-- accepted with its certificate.
use Rattle.std.specs.Prelude.{◌≡◌, ◌⊎◌, ℕ, Bool, if◌then◌else◌, List}
use Rattle.acc_base.specs.declared.designs.Design.{Design}
use Rattle.acc_base.specs.declared.machines.Call.{Call}
use Rattle.acc_commands_inputs.specs.Admissions.{IsAcceptedWith}
use Rattle.acc_formed.specs.WellFormed.{IsWellFormed}
use Rattle.acc_commands_inputs.specs.Texts.{IsDesignText}
use Rattle.acc_schedule.specs.Schedules.{TellsSchedule}
use Rattle.acc_journalled.specs.declared.answers.Ending.{Ending}
use Rattle.acc_journalled.specs.declared.answers.Ending.TheVariants.{Done, Unbegun}
use Rattle.acc_commands_inputs.specs.Refusals.{RefusesDesign, RefusesCertificate}
use Rattle.acc_commands_inputs.specs.Scripts.{SaysOfScript}
use Rattle.acc_commands_inputs.specs.Text.{Said}

-- all is done where each place has begun; else one couldn't, since the history is full
abbrev pub ending_at : Bool → Ending
ending_at all_begun = if all_begun then Done else Unbegun

-- The schedule of these calls in this order is told. Its history ends well: in whatever order the turns come, each step begins with its
-- assertion true and each end keeps its promise, and what is asserted for all times is true whenever nothing is unfinished.
pub record SaysSchedule (d : Design) (calls : List Call) (order : List ℕ) (said : Said) : Type 0 where
  pub all_begun : Bool
  pub tells : TellsSchedule d calls order said.text said.history all_begun
  pub ending : said.ending ≡ ending_at all_begun

-- the design is accepted with the certificate, and so it is sound, and then the script decides
pub record SchedulesAccepted (d : Design) (certificate script order : List ℕ) (said : Said) : Type 0 where
  pub accepted : IsAcceptedWith d certificate
  pub says : SaysOfScript (SaysSchedule d) d script order said

abbrev pub SaysOfCertificate : Design → List ℕ → List ℕ → List ℕ → Said → Type 0
SaysOfCertificate d certificate script order said =
    RefusesCertificate d certificate said ⊎ SchedulesAccepted d certificate script order said

-- the text is that of this design, which is well-formed, and then the certificate decides
pub record SchedulesDesign (design certificate script order : List ℕ) (said : Said) : Type 0 where
  pub d : Design
  pub is_text : IsDesignText design d
  pub formed : IsWellFormed d
  pub says : SaysOfCertificate d certificate script order said

-- the order of the refusals: the design, the certificate, the script, the order
abbrev pub SchedulesFiles : List ℕ → List ℕ → List ℕ → List ℕ → Said → Type 0
SchedulesFiles design certificate script order said = RefusesDesign design said ⊎ SchedulesDesign design certificate script order said
