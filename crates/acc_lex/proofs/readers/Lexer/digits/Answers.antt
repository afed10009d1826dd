use Rattle.std.proofs.Common.{arith}
use Rattle.std.proofs.lemmas.List.Sums.{prefix_len-le-length}
use Rattle.acc_grammar.proofs.RunReaders.{run_read}
use Rattle.acc_lex.specs.ByteKinds.{is_leading, is_digit}
use Rattle.acc_lex.proofs.readers.Lexer.digits.Goals as goal

pub front-requires : goal.front-requires
front-requires c = omega (arith, prefix_len-le-length is_digit c.args.self.now.rest.now, c.digits_len-len.ensures)

pub returns-clause-given : goal.returns-clause-given
returns-clause-given c = run_read is_digit c.args.self.now.rest.now c.front.result.now c.front.new.self.rest.now c.digits_len-len.result
    c.digits_len-len.ensures c.front.ensures.taken c.front.ensures.rest is_leading c.requires
