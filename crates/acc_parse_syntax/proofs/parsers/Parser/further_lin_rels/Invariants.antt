use Rattle.std.proofs.Common.{◌≡◌, length}
use Rattle.acc_grammar.specs.Readers.{many}
use Rattle.acc_grammar.proofs.Many.{with_front}
use Rattle.acc_lex.specs.declared.words.Sign.TheVariants as sign
use Rattle.acc_parse_syntax.specs.WordReaders.{comes, further_at}
use Rattle.acc_parse_syntax.specs.ValueReaders.{lin_rel_at}
use Rattle.acc_parse_syntax.proofs.parsers.Parser.further_lin_rels.Given as goal

abbrev pub invariant-loop-self : goal.invariant-loop-self
invariant-loop-self l = with_front l.rels (many (comes sign.Comma) (further_at lin_rel_at) l.self.words.now) ≡ many (comes sign.Comma)
    (further_at lin_rel_at) l.fn.self.words.now

abbrev pub decreases-loop-self : goal.decreases-loop-self
decreases-loop-self l = length l.self.words.now
