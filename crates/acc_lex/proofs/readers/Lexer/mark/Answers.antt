use Rattle.std.proofs.Common.{◌≡◌, ℕ, true, List, ◌∷◌, Ok, refl, sym, ◌∙◌}
use Rattle.std.specs.Prelude.{unwrap_or}
use Rattle.acc_grammar.proofs.RunReaders.{one_exact}
use Rattle.acc_lex.specs.declared.words.Sign.TheVariants as sign
use Rattle.acc_lex.specs.Spellings.{Mark}
use Rattle.acc_lex.specs.Readings.{mark_of, is_mark, mark_at}
use Rattle.acc_lex.proofs.ByteFacts.{Byte}
use Rattle.acc_lex.proofs.readers.Lexer.mark.Goals as goal

mark_read : (bs : List ℕ) (b : ℕ) (rest : List ℕ) → bs ≡ b ∷ rest → is_mark b ≡ true →
    mark_at bs ≡ Ok (Mark (unwrap_or (mark_of b) sign.End), rest)
unfolding mark_at
mark_read bs b rest is m = rw (is, (one_exact Byte is_mark 43 refl tt).again b rest m tt) refl

pub returns-in-Some-clause-given : goal.returns-in-Some-clause-given
returns-in-Some-clause-given c = (
  Mark (unwrap_or (mark_of c.in-Some.b.now) sign.End),
  mark_read c.args.self.now.rest.now c.in-Some.b.now c.in-Some.rest.now c.in-Some.ensures.cases.0
      (sym c.is_mark.ensures ∙ c.if-is_mark.true),
  refl,
)
