use Rattle.std.proofs.Common.{refl}
use Rattle.acc_lex.specs.Spellings.{Digits}
use Rattle.acc_lex.specs.Readings.{whole_at}
use Rattle.acc_lex.proofs.readers.Lexer.whole.Goals as goal

pub returns-clause-given : goal.returns-clause-given
unfolding whole_at
returns-clause-given c = (Digits c.digits.result.now, rw (c.digits.ensures.given, c.in_ok-ends_here.ensures) refl, refl)
