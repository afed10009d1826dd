use Rattle.acc_parse_readback.proofs.RuleLines.{statement_line}
use Rattle.acc_parse_readback.proofs.laws.statements_are_lines.Goals as goal

pub returns : goal.returns
returns c = statement_line
