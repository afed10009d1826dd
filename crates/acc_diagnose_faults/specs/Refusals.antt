-- On which line of its text a design is refused.
use Rattle.std.specs.Prelude.{◌-◌, ℕ, List}
use Rattle.acc_base.specs.declared.designs.Design.{Design}
use Rattle.acc_base.specs.declared.rules.FormRule.{FormRule}
use Rattle.acc_parse_statements.specs.Lines.{IsLineOf}
use Rattle.acc_form.specs.declared.rules.FormError.TheVariants.{Bad}
use Rattle.acc_form.specs.Judged.{IsFaultInPrint}
use Rattle.acc_formed.specs.WellFormed.{IsWellFormed}
use Rattle.acc_parse.specs.Texts.{IsDesignText}
use Rattle.acc_parse.specs.Syntax.{IsWrongAt}
use Rattle.acc_parse.specs.Faults.{IsNameFaultAt, IsLimitAt}
use Rattle.acc_diagnose_sources.specs.Sources.{IsPrintedBehind}
use Rattle.acc_diagnose_faults.specs.declared.designs.DesignRefusal.{DesignRefusal}
use Rattle.acc_diagnose_faults.specs.declared.designs.DesignRefusal.TheVariants as refusal
use Rattle.acc_diagnose_faults.specs.declared.designs.Diagnosed.{Diagnosed}
use Rattle.acc_diagnose_faults.specs.declared.designs.Diagnosed.TheVariants as diagnosed

-- The text's design breaks the rule on this line of its print, and the statement that is printed there ends on that line of the text.
pub record IsFormFaultAt (text : List ℕ) (rule : FormRule) (printed line : ℕ) : Type 0 where
  pub design : Design
  pub stands : IsDesignText text design
  pub broken : IsFaultInPrint design (Bad rule printed)
  pub statement : ℕ
  pub is_printed : IsPrintedBehind stands.of.tree design (printed - 1) statement
  pub on_line : IsLineOf text statement line

-- what a refusal says of a line of a text
abbrev pub IsRefused : List ℕ → DesignRefusal → ℕ → Type 0
IsRefused text refusal.Syntax line = IsWrongAt text line
IsRefused text refusal.Name line = IsNameFaultAt text line
IsRefused text (refusal.Limit limit) line = IsLimitAt text line limit
IsRefused text (refusal.Form rule printed) line = IsFormFaultAt text rule printed line

-- the design of the text, which can be played; or the line on which it is refused
abbrev pub IsDiagnosed : List ℕ → Diagnosed → Type 0
IsDiagnosed text (diagnosed.Read d) = IsDesignText text d × IsWellFormed d
IsDiagnosed text (diagnosed.Refused d) = IsRefused text d.refusal d.line
