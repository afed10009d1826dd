use Rattle.acc_parse_statements.proofs.Counted.{spelled_ends}
use Rattle.acc_parse_statements.proofs.laws.each_statement_ends.Goals as goal

pub returns : goal.returns
returns c = spelled_ends
