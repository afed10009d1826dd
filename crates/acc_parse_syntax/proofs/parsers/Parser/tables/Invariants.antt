use Rattle.std.proofs.Common.{◌≡◌, length}
use Rattle.acc_grammar.specs.Readers.{many}
use Rattle.acc_grammar.proofs.Many.{with_front}
use Rattle.acc_parse_syntax.specs.TableReaders.{starts_table, table_at}
use Rattle.acc_parse_syntax.proofs.parsers.Parser.tables.Given as goal

abbrev pub invariant-loop-self : goal.invariant-loop-self
invariant-loop-self l = with_front l.tables (many starts_table table_at l.self.words.now) ≡ many starts_table table_at l.fn.self.words.now

abbrev pub decreases-loop-self : goal.decreases-loop-self
decreases-loop-self l = length l.self.words.now
