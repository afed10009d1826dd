use Rattle.std.proofs.Common.{sym}
use Rattle.acc_parse_statements.proofs.FirstLines.{first_cut, one_line}
use Rattle.acc_parse_statements.proofs.lines.split_line.Goals as goal

pub returns-in-Some : goal.returns-in-Some
returns-in-Some c = first_cut c.args.text.now c.in-Some.end (sym c.in-Some.ensures)

pub returns-in-None : goal.returns-in-None
returns-in-None c = one_line c.args.text.now (sym c.in-None.ensures)
