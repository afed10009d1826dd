use Rattle.std.proofs.Common.{refl}
use Rattle.acc_lex.specs.Spellings.{Mark}
use Rattle.acc_lex.specs.Readings.{pair_at}
use Rattle.acc_lex.proofs.readers.Lexer.pair.Goals as goal

pub returns-clause-given : goal.returns-clause-given
unfolding pair_at
returns-clause-given c = λ sign. (Mark sign, rw (c.in_ok-byte.ensures.given, c.in_ok-byte-2.ensures.given) refl, refl)
