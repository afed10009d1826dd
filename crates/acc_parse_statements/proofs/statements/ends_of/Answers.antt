use Rattle.std.proofs.Common.{ap, ◌∙◌}
use Rattle.acc_parse_statements.specs.Ends.{ends}
use Rattle.acc_parse_statements.proofs.statements.ends_of.Goals as goal

pub returns-in-Ok : goal.returns-in-Ok
returns-in-Ok c words lexed = c.ends.ensures ∙ ap ends (c.as_slice.ensures ∙ c.in-Ok.ensures.only words lexed)
