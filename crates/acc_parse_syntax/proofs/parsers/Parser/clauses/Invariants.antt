use Rattle.std.proofs.Common.{◌≡◌, length}
use Rattle.acc_grammar.specs.Readers.{many}
use Rattle.acc_grammar.proofs.Many.{with_front}
use Rattle.acc_parse_syntax.specs.WordReaders.{comes}
use Rattle.acc_parse_syntax.specs.ClauseReaders.{clause_statement_at}
use Rattle.acc_parse_syntax.proofs.parsers.Parser.clauses.Given as goal

abbrev pub invariant-loop-sign : goal.invariant-loop-sign
invariant-loop-sign l = with_front l.clauses (many (comes l.fn.sign) (clause_statement_at l.fn.sign) l.self.words.now) ≡ many
    (comes l.fn.sign) (clause_statement_at l.fn.sign) l.fn.self.words.now

abbrev pub decreases-loop-sign : goal.decreases-loop-sign
decreases-loop-sign l = length l.self.words.now
