use Rattle.std.proofs.Common.{◌≡◌, ◌-◌, ◌^◌, ◌<◌, ◌++◌, length, sym, ap, subst, ◌∙◌, arith, rules}
use Rattle.acc_lex.specs.LineTokens.{parts_len, tokens_from, lines_parts, lines_tokens}
use Rattle.acc_lex.specs.Texts.{HasTokens}
use Rattle.acc_lex.proofs.WholeTexts.{read_lines, fewer, stops_at}
use Rattle.acc_lex.proofs.TextTokens.{found_tokens, no_tokens, same_tokens, tokens_slices, tokens_order, tokens_words, one_list}
use Rattle.acc_lex.proofs.Pieces.{parts_len_is}
use Rattle.acc_lex.proofs.lexers.lex.Goals.{After-drop-lexer-in-Ok}
use Rattle.acc_lex.proofs.lexers.lex.Goals as goal

pub tokens_of-requires : goal.tokens_of-requires
tokens_of-requires c =
    let read = c.in-Ok.ensures in
    let parts : c.as_slice.result.now ≡ lines_parts read.0 = c.as_slice.ensures ∙ read.2 ∙ (λ i. c.new.ensures i ++ lines_parts read.0) in
    let short : length c.args.text.now < 2 ^ 64 = search rules in
    omega (
      arith,
      ap parts_len parts,
      parts_len_is read.0,
      ap length (read_lines c.args.text.now read.0 c.lines.new.self.rest.now read.1).1,
      short,
    )

-- the tokens that are answered are those of the lines that were read
tokens_are : (c : After-drop-lexer-in-Ok) → c.in_ok-tokens_of-in-Ok.field-0 ≡ lines_tokens c.in-Ok.ensures.0
tokens_are c = c.in_ok-tokens_of-in-Ok.ensures ∙ ap (tokens_from 1 0)
    (c.as_slice.ensures ∙ c.in-Ok.ensures.2 ∙ (λ i. c.new.ensures i ++ lines_parts c.in-Ok.ensures.0))

has : (c : After-drop-lexer-in-Ok) → HasTokens c.args.text.now c.in_ok-tokens_of-in-Ok.field-0
has c = subst (HasTokens c.args.text.now) (sym (tokens_are c))
    (found_tokens c.args.text.now c.in-Ok.ensures.0 c.lines.new.self.rest.now c.in-Ok.ensures.1)

pub returns-in-Ok-clause-exact : goal.returns-in-Ok-clause-exact
returns-in-Ok-clause-exact c = has c

pub returns-in-Ok-clause-only : goal.returns-in-Ok-clause-only
returns-in-Ok-clause-only c tokens k = tokens_are c ∙ same_tokens c.args.text.now tokens c.in-Ok.ensures.0 c.lines.new.self.rest.now
    c.in-Ok.ensures.1 k

pub returns-in-Ok-clause-slices : goal.returns-in-Ok-clause-slices
returns-in-Ok-clause-slices c = tokens_slices c.args.text.now c.in_ok-tokens_of-in-Ok.field-0 (has c)

pub returns-in-Ok-clause-order : goal.returns-in-Ok-clause-order
returns-in-Ok-clause-order c = tokens_order c.args.text.now c.in_ok-tokens_of-in-Ok.field-0 (has c)

pub returns-in-Ok-clause-words : goal.returns-in-Ok-clause-words
returns-in-Ok-clause-words c = tokens_words c.args.text.now c.in_ok-tokens_of-in-Ok.field-0 (has c)

pub bad_line-requires : goal.bad_line-requires
bad_line-requires c = fewer c.args.text.now c.lines.new.self.rest.now (rw c.in-Err-Syntax.field-0-is at c.in-Err-Syntax.ensures)

pub returns-clause-exact : goal.returns-clause-exact
returns-clause-exact c = (
  length c.args.text.now - length c.lines.new.self.rest.now,
  stops_at c.args.text.now c.lines.new.self.rest.now (rw c.in-Err-Syntax.field-0-is at c.in-Err-Syntax.ensures),
  c.bad_line.ensures,
)

pub returns-clause-only : goal.returns-clause-only
returns-clause-only c tokens k = absurd (no_tokens c.args.text.now c.lines.new.self.rest.now
    (rw c.in-Err-Syntax.field-0-is at c.in-Err-Syntax.ensures) tokens k)

pub returns-in_err-tokens_of-in-Ok-clause-unique : goal.returns-in_err-tokens_of-in-Ok-clause-unique
returns-in_err-tokens_of-in-Ok-clause-unique c a b k l = one_list c.args.text.now a b k l

pub returns-in-Ok-clause-unique : goal.returns-in-Ok-clause-unique
returns-in-Ok-clause-unique c a b k l = one_list c.args.text.now a b k l

pub returns-in-Err-Memory-clause-unique : goal.returns-in-Err-Memory-clause-unique
returns-in-Err-Memory-clause-unique c a b k l = one_list c.args.text.now a b k l

pub returns-clause-unique : goal.returns-clause-unique
returns-clause-unique c a b k l = one_list c.args.text.now a b k l
