use Rattle.acc_parse_statements.proofs.OneLine.{one_line_of}
use Rattle.acc_parse_statements.proofs.laws.one_line_each.Goals as goal

pub returns : goal.returns
returns c = one_line_of
