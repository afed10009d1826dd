-- The command audit: a journal's bytes are judged by the design of a text, without a certificate.
use Rattle.std.specs.Prelude.{◌⊎◌, ℕ, List, Result, Ok, Err}
use Rattle.acc_base.specs.declared.designs.Design.{Design}
use Rattle.acc_formed.specs.WellFormed.{IsWellFormed}
use Rattle.acc_commands_inputs.specs.Refusals.{RefusesDesign}
use Rattle.acc_commands_inputs.specs.Text.{Said, Says}
use Rattle.acc_commands_inputs.specs.Texts.{IsDesignText}
use Rattle.acc_journalled.specs.declared.answers.Ending.{Ending}
use Rattle.acc_journalled.specs.declared.answers.Ending.TheVariants.{Done, ConditionFalse}
use Rattle.acc_journalled.specs.Recovering.{SaysNotRecovered}
use Rattle.acc_journalled.specs.Tellings.{Telling}
use Rattle.acc_audit_journal.specs.Judging.{Judges}
use Rattle.acc_audit_journal.specs.JudgementLines.{judgement_line}
use Rattle.acc_audit_journal.specs.declared.journals.Judgement.{Judgement}
use Rattle.acc_audit_journal.specs.declared.journals.Judgement.TheVariants.{Clean, False, Large}
use Rattle.acc_audit_journal.specs.declared.journals.JudgeError.{JudgeError}
use Rattle.acc_audit_journal.specs.declared.journals.JudgeError.TheVariants as unjudged
use Rattle.acc_recover.specs.declared.errors.RecoverError.{RecoverError}
use Rattle.acc_recover.specs.declared.errors.RecoverError.TheVariants as unrecovered

-- how it ends by a judgement
abbrev pub ending_of : Judgement → Ending
ending_of (Clean n) = Done
ending_of (False place t clause own) = ConditionFalse
ending_of (Large place t clause) = ConditionFalse

-- why nothing would be recovered of a journal that isn't judged for this cause
abbrev pub refusal_of : JudgeError → RecoverError
refusal_of (unjudged.Journal why) = unrecovered.Journal why
refusal_of unjudged.OtherDesign = unrecovered.OtherDesign
refusal_of (unjudged.NotRun at) = unrecovered.Unlawful at
refusal_of unjudged.Memory = unrecovered.Memory

-- the same as of a disk, none of whose events is durable
abbrev pub telling_alone : Said → Telling
telling_alone said = record { ending = said.ending; text = said.text; history = said.history; settled = 0 }

-- the line of the judgement; or, where there is none, what is said of a journal that isn't recovered
abbrev pub SaysJudged : Result Judgement JudgeError → Said → Type 0
SaysJudged (Ok judgement) said = Says (ending_of judgement) (judgement_line judgement) said
SaysJudged (Err error) said = SaysNotRecovered (refusal_of error) (telling_alone said)

-- this is told of the journal's bytes by the design, and so it is said
pub record SaysAudit (d : Design) (journal : List ℕ) (said : Said) : Type 0 where
  pub told : Result Judgement JudgeError
  pub judges : Judges d journal told
  pub says : SaysJudged told said

-- the text is that of this design, which is well-formed
pub record AuditsDesign (design journal : List ℕ) (said : Said) : Type 0 where
  pub d : Design
  pub is_text : IsDesignText design d
  pub formed : IsWellFormed d
  pub audit : SaysAudit d journal said

-- the order of the refusals: the design, the journal
abbrev pub AuditsFiles : List ℕ → List ℕ → Said → Type 0
AuditsFiles design journal said = RefusesDesign design said ⊎ AuditsDesign design journal said
