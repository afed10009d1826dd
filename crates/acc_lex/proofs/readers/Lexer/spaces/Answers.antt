use Rattle.std.proofs.Common.{arith, Ok}
use Rattle.std.proofs.lemmas.List.Sums.{prefix_len-le-length}
use Rattle.acc_grammar.proofs.RunReaders.{front_read, cut_len}
use Rattle.acc_lex.specs.ByteKinds.{is_space}
use Rattle.acc_lex.specs.Readings.{spaces_at}
use Rattle.acc_lex.proofs.readers.Lexer.spaces.Goals as goal

pub front-requires : goal.front-requires
front-requires c = omega (arith, prefix_len-le-length is_space c.args.self.now.rest.now, c.spaces_len-len.ensures)

pub returns-clause-given : goal.returns-clause-given
unfolding spaces_at
returns-clause-given c =
    let len = cut_len is_space c.args.self.now.rest.now c.front.result.now c.front.new.self.rest.now c.spaces_len-len.result
    c.spaces_len-len.ensures c.front.ensures.taken c.front.ensures.rest in
    rw (front_read is_space c.args.self.now.rest.now c.front.result.now c.front.new.self.rest.now c.spaces_len-len.result
    c.spaces_len-len.ensures c.front.ensures.taken c.front.ensures.rest) (λ i. Ok (len i, c.front.new.self.rest.now))
