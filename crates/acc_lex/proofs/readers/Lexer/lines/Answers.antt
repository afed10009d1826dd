use Rattle.std.proofs.Common.{◌≡◌, List, ◌++◌, Ok, sym, ◌∙◌, append_assoc}
use Rattle.acc_grammar.specs.Readers.{joined}
use Rattle.acc_lex.specs.declared.parts.Part.{Part}
use Rattle.acc_lex.specs.declared.parts.Shape.TheVariants as shape
use Rattle.acc_lex.specs.LineTokens.{part, line_parts, next_line_parts}
use Rattle.acc_lex.specs.Readings.{lines_at}
use Rattle.acc_lex.proofs.readers.Lexer.lines.Goals as goal

regroup : (held a b last : List Part) → ((held ++ a) ++ b) ++ last ≡ held ++ ((a ++ b) ++ last)
regroup held a b last = simp append_assoc

pub returns : goal.returns
unfolding lines_at
returns c =
    let l = c.in_ok-line.ensures in
    let ls = c.in_ok-next_lines.ensures in (
      (l.0, ls.0),
      rw (l.1, ls.1, c.in_ok-end.ensures) (λ i. Ok ((l.0, ls.0), sym c.in_ok-add.ensures.rest i)),
      c.in_ok-add.ensures.added ∙ (λ i. ls.2 i ++ part shape.Last 0) ∙ (λ i. (l.2 i ++ joined next_line_parts ls.0) ++ part shape.Last 0)
          ∙ regroup c.args.self.now.parts (line_parts l.0) (joined next_line_parts ls.0) (part shape.Last 0),
    )
