use Rattle.std.proofs.Common.{refl, ◌∷◌, []}
use Rattle.acc_lex.specs.Spellings.{Digits}
use Rattle.acc_lex.specs.Readings.{zero_at}
use Rattle.acc_lex.proofs.readers.Lexer.zero.Goals as goal

pub returns-clause-given : goal.returns-clause-given
unfolding zero_at
returns-clause-given c = (Digits (c.in_ok-byte.field-0 ∷ []), rw (c.in_ok-byte.ensures.given, c.in_ok-ends_here.ensures) refl, refl)
