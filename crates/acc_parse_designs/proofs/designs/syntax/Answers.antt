use Rattle.acc_parse_designs.proofs.WholeLaws.{none_past, text_is, stops_before, not_read, fewer, stops_at}
use Rattle.acc_parse_designs.proofs.designs.syntax.Goals as goal

pub overflow_sub-result : goal.overflow_sub-result
overflow_sub-result c = fewer c.args.words.now c.words_before_stray_self-end.result c.words_before_stray_self-end.ensures.within
    c.words_before_stray_self-end.ensures.own c.words_before_stray_self-end.ensures.stray c.design.new.parser.words.now
    (rw c.in-Err-Syntax.field-0-is at c.in-Err-Syntax.ensures)

-- a `self` stands outside the types, and a design ends before it
pub returns-in-Ok-clause-answers : goal.returns-in-Ok-clause-answers
returns-in-Ok-clause-answers c = stops_before c.args.words.now c.words_before_stray_self-end.result
    c.words_before_stray_self-end.ensures.within c.words_before_stray_self-end.ensures.own c.words_before_stray_self-end.ensures.stray
    c.in-Ok.field-0 c.design.new.parser.words.now c.if-end-words.true c.in-Ok.ensures

pub returns-in-Ok-clause-only : goal.returns-in-Ok-clause-only
returns-in-Ok-clause-only c t s = absurd (none_past c.args.words.now c.words_before_stray_self-end.result
    c.words_before_stray_self-end.ensures.within c.words_before_stray_self-end.ensures.own c.words_before_stray_self-end.ensures.stray
    c.if-end-words.true t s)

-- each `self` stands within the types
pub returns-in-Ok-2-clause-answers : goal.returns-in-Ok-2-clause-answers
returns-in-Ok-2-clause-answers c = text_is c.args.words.now c.words_before_stray_self-end.result
    c.words_before_stray_self-end.ensures.within c.words_before_stray_self-end.ensures.own c.words_before_stray_self-end.ensures.stray
    c.in-Ok.field-0 c.design.new.parser.words.now c.if-end-words.false c.in-Ok.ensures

pub returns-in-Err-Syntax-clause-answers : goal.returns-in-Err-Syntax-clause-answers
returns-in-Err-Syntax-clause-answers c = stops_at c.args.words.now c.words_before_stray_self-end.result
    c.words_before_stray_self-end.ensures.within c.words_before_stray_self-end.ensures.own c.words_before_stray_self-end.ensures.stray
    c.design.new.parser.words.now (rw c.in-Err-Syntax.field-0-is at c.in-Err-Syntax.ensures)

pub returns-in-Err-Syntax-clause-only : goal.returns-in-Err-Syntax-clause-only
returns-in-Err-Syntax-clause-only c t s = absurd
    (not_read c.args.words.now c.words_before_stray_self-end.result c.words_before_stray_self-end.ensures.within
    c.words_before_stray_self-end.ensures.own c.words_before_stray_self-end.ensures.stray c.design.new.parser.words.now
    (rw c.in-Err-Syntax.field-0-is at c.in-Err-Syntax.ensures) t s)
