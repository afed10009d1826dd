use Rattle.std.proofs.Common.{◌≡◌, ℕ, List, Err, refl, sym, ap, subst, ◌∙◌}
use Rattle.std.proofs.lemmas.Result.{err_from_is_err_and}
use Rattle.acc_lex.specs.declared.lexers.LexError.{LexError}
use Rattle.acc_lex.specs.declared.lexers.LexError.TheVariants as errors
use Rattle.acc_lex.specs.declared.words.Word.{Word}
use Rattle.acc_lex.specs.Slices.{words_of}
use Rattle.acc_lex.specs.Texts.{IsLexed, TokenAnswers}
use Rattle.acc_lex.proofs.WholeTexts.{one_reading, can_spell}
use Rattle.acc_lex.proofs.texts.words.Goals.{After-drop-tokens-inside-2}
use Rattle.acc_lex.proofs.texts.words.Goals as goal

-- a text with words is refused for want of memory alone
only_memory : (text : List ℕ) (words : List Word) (e : LexError) → TokenAnswers text (Err e) → IsLexed text words → e ≡ errors.Memory
only_memory text words errors.Memory a l = refl
only_memory text words (errors.Bad line) a l = absurd (a.1.ends words l)

lexed : (c : After-drop-tokens-inside-2) → IsLexed c.args.text.now c.in_ok-words_of.field-0
lexed c = subst (IsLexed c.args.text.now) (sym (c.in_ok-words_of.ensures ∙ ap (words_of c.args.text.now) c.as_slice.ensures))
    c.in_ok-tokens.ensures.words

pub returns-in_err-tokens-clause-only : goal.returns-in_err-tokens-clause-only
returns-in_err-tokens-clause-only c words l =
    let p = err_from_is_err_and c.from_residual.result c.from_residual.ensures.1 in
    rw (p.1, p.2) (only_memory c.args.text.now words c.in_err-tokens.field-0.0 c.in_err-tokens.ensures.exact l)

pub returns-clause-only : goal.returns-clause-only
returns-clause-only c words l = one_reading c.args.text.now c.in_ok-words_of.field-0 words (lexed c) l

pub returns-clause-spelled : goal.returns-clause-spelled
returns-clause-spelled c = can_spell c.args.text.now c.in_ok-words_of.field-0 (lexed c)
