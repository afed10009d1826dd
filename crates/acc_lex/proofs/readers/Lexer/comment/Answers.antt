use Rattle.std.proofs.Common.{arith}
use Rattle.std.proofs.lemmas.List.Sums.{prefix_len-le-length}
use Rattle.acc_grammar.proofs.RunReaders.{front_read}
use Rattle.acc_lex.specs.ByteKinds.{is_plain}
use Rattle.acc_lex.proofs.readers.Lexer.comment.Goals as goal

pub front-requires : goal.front-requires
front-requires c = omega (arith, prefix_len-le-length is_plain c.args.self.now.rest.now, c.plain_len-len.ensures)

pub returns-clause-given : goal.returns-clause-given
returns-clause-given c = front_read is_plain c.args.self.now.rest.now c.front.result.now c.front.new.self.rest.now c.plain_len-len.result
    c.plain_len-len.ensures c.front.ensures.taken c.front.ensures.rest
