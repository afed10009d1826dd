-- The numbers of rules and limits, as they are told.
use Rattle.std.specs.Prelude.{ℕ}
use Rattle.acc_base.specs.declared.sequents.Rule.{Rule}
use Rattle.acc_base.specs.declared.sequents.Rule.TheVariants as rule
use Rattle.acc_base.specs.declared.rules.FormRule.{FormRule}
use Rattle.acc_base.specs.declared.rules.FormRule.TheVariants as form_rule
use Rattle.acc_base.specs.declared.limits.Limit.{Limit}
use Rattle.acc_base.specs.declared.limits.Limit.TheVariants as limit

-- of a rule of obligations, from 0
abbrev pub rule_number : Rule → ℕ
rule_number rule.Begins = 0
rule_number rule.Promises = 1
rule_number rule.Always = 2
rule_number rule.Spares = 3
rule_number rule.There = 4
rule_number rule.Ranges = 5
rule_number rule.Variants = 6
rule_number rule.Clears = 7
rule_number rule.Empty = 8

-- of a rule of forms, from 1
abbrev pub form_rule_number : FormRule → ℕ
form_rule_number form_rule.Ranges = 1
form_rule_number form_rule.Widths = 2
form_rule_number form_rule.ShortPrefixes = 3
form_rule_number form_rule.Limits = 4
form_rule_number form_rule.Numbers = 5
form_rule_number form_rule.Names = 6
form_rule_number form_rule.LastPaths = 7
form_rule_number form_rule.Ends = 8
form_rule_number form_rule.Refusals = 9
form_rule_number form_rule.PrivateKeys = 10
form_rule_number form_rule.Assigned = 11
form_rule_number form_rule.UndoReads = 12
form_rule_number form_rule.StartUndos = 13
form_rule_number form_rule.Starts = 14
form_rule_number form_rule.Entries = 15
form_rule_number form_rule.Pairs = 16

-- of a limit on a design's text, from 1
abbrev pub limit_number : Limit → ℕ
limit_number limit.Tables = 1
limit_number limit.KeyWidth = 2
limit_number limit.Columns = 3
limit_number limit.Types = 4
limit_number limit.Points = 5
limit_number limit.Locals = 6
limit_number limit.Clauses = 7
limit_number limit.Variables = 8
limit_number limit.AlwaysClauses = 9
limit_number limit.Paths = 10
limit_number limit.GuardRelations = 11
limit_number limit.Actions = 12
limit_number limit.Reads = 13
limit_number limit.EntriesAndHints = 14
limit_number limit.NameLength = 15
limit_number limit.NumberSize = 16
