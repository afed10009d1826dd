use Rattle.std.proofs.Common.{sym, ap, subst, ◌∙◌, length}
use Rattle.acc_parse_designs.specs.Texts.{IsSpelling, StopsAt}
use Rattle.acc_parse.specs.GoodWords.{AreGood}
use Rattle.acc_parse.proofs.Continued.{good_all, good_front}
use Rattle.acc_parse.proofs.lines.good_words.Goals as goal

-- all words of a design are good
pub returns-in-Ok-syntax : goal.returns-in-Ok-syntax
returns-in-Ok-syntax c words l =
    let same = c.in-Ok.ensures.only words l in
    let spelled : IsSpelling words c.in-Ok-syntax.field-0 =
    subst (λ z. IsSpelling z c.in-Ok-syntax.field-0) (c.as_slice.ensures ∙ same) c.in-Ok-syntax.ensures.answers in
    subst (AreGood words) (sym (c.len.ensures ∙ ap length same)) (good_all words c.in-Ok-syntax.field-0 spelled)

pub returns-in-Err-At : goal.returns-in-Err-At
returns-in-Err-At c words l =
    let found = rw c.in-Err-At.field-0-is at c.in-Err-At.ensures in
    let same = c.in-Ok.ensures.only words l in
    good_front words c.in-Err-At.place (subst (λ z. StopsAt z c.in-Err-At.place) (c.as_slice.ensures ∙ same) found.answers)

-- what is no words has none that are good
pub returns-in-Err-Bad : goal.returns-in-Err-Bad
returns-in-Err-Bad c words l =
    let answered = rw c.in-Err-Bad.field-0-is at c.in-Err-Bad.ensures in
    let memory = answered.only words l in absurd (cc memory)
