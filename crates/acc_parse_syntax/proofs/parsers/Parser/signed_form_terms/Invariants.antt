use Rattle.std.proofs.Common.{◌≡◌, length}
use Rattle.acc_grammar.specs.Readers.{many}
use Rattle.acc_grammar.proofs.Many.{with_front}
use Rattle.acc_parse_syntax.specs.ValueReaders.{starts_signed_term}
use Rattle.acc_parse_syntax.specs.FormReaders.{signed_form_term_at}
use Rattle.acc_parse_syntax.proofs.parsers.Parser.signed_form_terms.Given as goal

abbrev pub invariant-loop-self : goal.invariant-loop-self
invariant-loop-self l = with_front l.terms (many starts_signed_term signed_form_term_at l.self.words.now) ≡ many starts_signed_term
    signed_form_term_at l.fn.self.words.now

abbrev pub decreases-loop-self : goal.decreases-loop-self
decreases-loop-self l = length l.self.words.now
