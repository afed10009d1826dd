use Rattle.std.proofs.Common.{refl, sym, ◌∙◌}
use Rattle.std.proofs.lemmas.Result.{err_from_is_err_and}
use Rattle.acc_grammar.specs.Readers.{many}
use Rattle.acc_grammar.proofs.Many.{goes_on, is_done}
use Rattle.acc_grammar.proofs.LoopFaults.{ends_so}
use Rattle.acc_lex.specs.declared.words.Sign.TheVariants as sign
use Rattle.acc_parse_syntax.specs.WordReaders.{comes}
use Rattle.acc_parse_designs.specs.EntryReaders.{hint_at}
use Rattle.acc_parse_designs.proofs.EntryLaws.{hint_shrinks}
use Rattle.acc_parse_designs.proofs.entries.hints.Goals as goal

pub returns-in_err-hint : goal.returns-in_err-hint
returns-in_err-hint c =
    let p = err_from_is_err_and c.from_residual.result c.from_residual.ensures.1 in
    rw (p.1, p.2) (ends_so (comes sign.Hint) hint_at refl c.in_err-hint.field-0.0 c.loop-parser.hints c.loop-parser.parser.words.now
    c.hint.new.parser.words.now (many (comes sign.Hint) hint_at c.args.parser.now.words.now) (sym c.comes.ensures ∙ c.loop-parser-test.true)
    c.in_err-hint.ensures c.loop-parser.invariant)

pub loop-parser-smaller : goal.loop-parser-smaller
loop-parser-smaller c = hint_shrinks c.loop-parser.parser.words.now c.in_ok-hint.hint c.hint.new.parser.words.now c.in_ok-hint.ensures

pub loop-parser-preserved : goal.loop-parser-preserved
loop-parser-preserved c =
    rw c.in_ok-push.ensures.ok (goes_on (comes sign.Hint) hint_at hint_shrinks refl c.loop-parser.hints c.loop-parser.parser.words.now
    c.in_ok-hint.hint c.hint.new.parser.words.now (many (comes sign.Hint) hint_at c.args.parser.now.words.now)
    (sym c.comes.ensures ∙ c.loop-parser-test.true) c.in_ok-hint.ensures c.loop-parser.invariant)

pub returns : goal.returns
returns c = is_done (comes sign.Hint) hint_at c.loop-parser.hints c.loop-parser.parser.words.now
    (many (comes sign.Hint) hint_at c.args.parser.now.words.now) (sym c.comes.ensures ∙ c.loop-parser-test.false) c.loop-parser.invariant
