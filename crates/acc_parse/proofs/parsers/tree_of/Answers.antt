use Rattle.std.proofs.Common.{List, ℕ, sym, subst, ◌∙◌}
use Rattle.acc_lex.specs.declared.words.Word.{Word}
use Rattle.acc_lex.specs.Texts.{IsLexed}
use Rattle.acc_parse_designs.specs.Texts.{IsSpelling}
use Rattle.acc_parse.proofs.Continued.{spelled_text}
use Rattle.acc_parse.proofs.WrongLines.{front_lexed, judged_front}
use Rattle.acc_parse.proofs.parsers.tree_of.Goals as goal

-- the text isn't words
pub wrong_line-requires-clause-wrong : goal.wrong_line-requires-clause-wrong
wrong_line-requires-clause-wrong c =
    let bad = rw c.in-Err-Bad.field-0-is at c.in-Err-Bad.ensures in
    λ g. bad.exact.1.ends g.words g.lexed

-- the lines before the bad byte are, and how many of those are good is known
pub wrong_line-requires-clause-judged : goal.wrong_line-requires-clause-judged
wrong_line-requires-clause-judged c =
    let bad = rw c.in-Err-Bad.field-0-is at c.in-Err-Bad.ensures in
    let v = front_lexed c.args.text.now c.in-Err-Bad.line bad.exact in
    let good = c.in_ok-good-in-Err-Bad.ensures v.0 (subst (λ (z : List ℕ). IsLexed z v.0) (sym c.first_lines.ensures) v.1) in
    judged_front c.args.text.now c.in-Err-Bad.line v.0 c.in_ok-good-in-Err-Bad.good bad.exact v.1 good

pub returns-in-Ok-clause-ok : goal.returns-in-Ok-clause-ok
returns-in-Ok-clause-ok c =
    spelled_text c.args.text.now c.as_slice.result.now c.spelled_tree.result
    (subst (λ (z : List Word). IsLexed c.args.text.now z) (sym c.as_slice.ensures) c.in-Ok.ensures.exact) c.spelled_tree.ensures.ok

-- the words are the only ones of the text
pub returns-in-Ok-clause-only : goal.returns-in-Ok-clause-only
returns-in-Ok-clause-only c =
    λ g.
    let same = c.in-Ok.ensures.only g.words g.lexed in
    c.spelled_tree.ensures.only g.tree (subst (λ (z : List Word). IsSpelling z g.tree) (sym (c.as_slice.ensures ∙ same)) g.spelled)
