use Rattle.std.proofs.Common.{◌≡◌, length}
use Rattle.acc_grammar.specs.Readers.{many}
use Rattle.acc_grammar.proofs.Many.{with_front}
use Rattle.acc_lex.specs.declared.words.Sign.TheVariants as sign
use Rattle.acc_parse_syntax.specs.WordReaders.{comes}
use Rattle.acc_parse_designs.specs.EntryReaders.{hint_at}
use Rattle.acc_parse_designs.proofs.entries.hints.Given as goal

abbrev pub invariant-loop-parser : goal.invariant-loop-parser
invariant-loop-parser l = with_front l.hints (many (comes sign.Hint) hint_at l.parser.words.now) ≡ many (comes sign.Hint) hint_at
    l.fn.parser.words.now

abbrev pub decreases-loop-parser : goal.decreases-loop-parser
decreases-loop-parser l = length l.parser.words.now
