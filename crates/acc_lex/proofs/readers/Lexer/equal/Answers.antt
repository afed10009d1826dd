use Rattle.std.proofs.Common.{refl}
use Rattle.acc_lex.specs.Spellings.{Mark}
use Rattle.acc_lex.specs.Readings.{equal_or, equal_at}
use Rattle.acc_lex.proofs.readers.Lexer.equal.Goals as goal

pub returns-clause-given : goal.returns-clause-given
unfolding equal_at
returns-clause-given c = (Mark (equal_or c.in_ok-arrow.field-0), rw (c.in_ok-byte.ensures.given, c.in_ok-arrow.ensures.given) refl, refl)
