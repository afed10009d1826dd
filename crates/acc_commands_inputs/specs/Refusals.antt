-- A design that is refused: by its text, by the form rules, or with a certificate.
use Rattle.std.specs.Prelude.{◌≡◌, ◌⊎◌, ℕ, ◌-◌, false, List, [], ◌++◌, codes}
use Rattle.std.specs.Fmt.{decimal}
use Rattle.acc_base.specs.declared.rules.FormRule.{FormRule}
use Rattle.acc_base.specs.declared.designs.Design.{Design}
use Rattle.acc_base.specs.Numbering.{form_rule_number, limit_number}
use Rattle.acc_base.specs.Lines.{line}
use Rattle.acc_parse_statements.specs.Lines.{IsLineOf, first_lines}
use Rattle.acc_print.specs.Designs.{printed}
use Rattle.acc_parse_readback.specs.ParseError.{ParseError}
use Rattle.acc_parse_readback.specs.ParseError.TheVariants as errors
use Rattle.acc_parse_readback.specs.Texts.{IsDesignText}
use Rattle.acc_parse_readback.specs.Faults.{Refuses}
use Rattle.acc_cert_check.specs.Reports.{Reports}
use Rattle.acc_form.specs.Faults.{form_faults, is_before}
use Rattle.acc_base.specs.Leasts.{IsLeast}
use Rattle.acc_form.specs.Judged.{IsJudgedOn}
use Rattle.acc_journalled.specs.declared.answers.Ending.TheVariants.{DesignRefused}
use Rattle.acc_commands_inputs.specs.Text.{Said, Says}

-- what is said of a text that is no design's
abbrev pub SaysError : ParseError → Said → Type 0
SaysError (errors.Syntax at) said = Says DesignRefused (line (codes "refused syntax " ++ decimal at)) said
SaysError (errors.Name at) said = Says DesignRefused (line (codes "refused name " ++ decimal at)) said
SaysError (errors.Limit at limit) said =
    Says DesignRefused (line (codes "refused limit " ++ (decimal at ++ (codes " " ++ decimal (limit_number limit))))) said
SaysError errors.Memory said = ⊥

-- the text isn't of the grammar, or has a fault of names, or passes a limit
pub record RefusesText (design : List ℕ) (said : Said) : Type 0 where
  pub error : ParseError
  pub refused : Refuses design error
  pub says : SaysError error said

-- what is said of a rule and the line that breaks it
abbrev pub SaysRule : FormRule → ℕ → Said → Type 0
SaysRule rule at said =
    Says DesignRefused (line (codes "refused form " ++ (decimal (form_rule_number rule) ++ (codes " " ++ decimal at)))) said

-- The text is that of this design, which breaks form rules: the lowest one, and the first line that breaks it. In the design's
-- print a statement ends on that line, and it is the one that breaks the rule: its text is the whole of the line.
pub record RefusesForm (design : List ℕ) (said : Said) : Type 0 where
  pub d : Design
  pub is_text : IsDesignText design d
  pub rule : FormRule
  pub at : ℕ
  pub first : IsLeast is_before (form_faults d) (rule, at)
  pub on_line : IsLineOf (printed d) (at - 1) at
  pub breaks : IsJudgedOn d rule at
  pub own_line : first_lines at (printed d) ≡ first_lines (at - 1) (printed d) ++ breaks.broken.statement.text
  pub says : SaysRule rule at said

abbrev pub RefusesDesign : List ℕ → Said → Type 0
RefusesDesign design said = RefusesText design said ⊎ RefusesForm design said

-- the design is refused with the certificate, and why
pub record RefusesCertificate (d : Design) (certificate : List ℕ) (said : Said) : Type 0 where
  pub reports : Reports d certificate false said.text
  pub ending : said.ending ≡ DesignRefused
  pub history : said.history ≡ []
