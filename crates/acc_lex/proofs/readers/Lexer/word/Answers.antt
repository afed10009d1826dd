use Rattle.std.proofs.Common.{refl}
use Rattle.acc_lex.specs.Spellings.{Letters}
use Rattle.acc_lex.specs.Readings.{letters_at}
use Rattle.acc_lex.proofs.readers.Lexer.word.Goals as goal

pub returns-clause-given : goal.returns-clause-given
unfolding letters_at
returns-clause-given c = (Letters c.letters.result.now, rw c.letters.ensures.given refl, refl)
