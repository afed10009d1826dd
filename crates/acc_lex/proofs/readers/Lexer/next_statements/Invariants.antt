use Rattle.std.proofs.Common.{◌≡◌, length}
use Rattle.acc_grammar.specs.Readers.{many}
use Rattle.acc_grammar.specs.Runs.{next_is}
use Rattle.acc_grammar.proofs.Adding.{with_items}
use Rattle.acc_lex.specs.ByteKinds.{is_byte}
use Rattle.acc_lex.specs.LineTokens.{next_statement_parts}
use Rattle.acc_lex.specs.Readings.{next_statement_at}
use Rattle.acc_lex.proofs.readers.Lexer.next_statements.Given as goal

abbrev pub invariant-loop-self : goal.invariant-loop-self
invariant-loop-self l = with_items next_statement_parts l.self.parts (many (next_is (is_byte 59)) next_statement_at l.self.rest.now) ≡
    with_items next_statement_parts l.fn.self.parts (many (next_is (is_byte 59)) next_statement_at l.fn.self.rest.now)

abbrev pub decreases-loop-self : goal.decreases-loop-self
decreases-loop-self l = length l.self.rest.now
