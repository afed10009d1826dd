use Rattle.acc_parse.proofs.Statements.{has_statement}
use Rattle.acc_parse.proofs.parsers.line_in.Goals as goal

pub line_of-requires : goal.line_of-requires
line_of-requires c = has_statement c.args.text.now c.args.tree.now c.args.n c.requires.grammatical c.requires.few c.requires.there
