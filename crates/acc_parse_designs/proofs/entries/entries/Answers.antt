use Rattle.std.proofs.Common.{refl, sym, ◌∙◌}
use Rattle.std.proofs.lemmas.Result.{err_from_is_err_and}
use Rattle.acc_grammar.specs.Readers.{many}
use Rattle.acc_grammar.proofs.Many.{goes_on, is_done}
use Rattle.acc_grammar.proofs.LoopFaults.{ends_so}
use Rattle.acc_lex.specs.declared.words.Sign.TheVariants as sign
use Rattle.acc_parse_syntax.specs.WordReaders.{comes}
use Rattle.acc_parse_designs.specs.EntryReaders.{entry_at}
use Rattle.acc_parse_designs.proofs.EntryLaws.{entry_shrinks}
use Rattle.acc_parse_designs.proofs.entries.entries.Goals as goal

pub returns-in_err-entry : goal.returns-in_err-entry
returns-in_err-entry c =
    let p = err_from_is_err_and c.from_residual.result c.from_residual.ensures.1 in
    rw (p.1, p.2) (ends_so (comes sign.Entry) entry_at refl c.in_err-entry.field-0.0 c.loop-parser.entries c.loop-parser.parser.words.now
    c.entry.new.parser.words.now (many (comes sign.Entry) entry_at c.args.parser.now.words.now)
    (sym c.comes.ensures ∙ c.loop-parser-test.true) c.in_err-entry.ensures c.loop-parser.invariant)

pub loop-parser-smaller : goal.loop-parser-smaller
loop-parser-smaller c = entry_shrinks c.loop-parser.parser.words.now c.in_ok-entry.entry c.entry.new.parser.words.now c.in_ok-entry.ensures

pub loop-parser-preserved : goal.loop-parser-preserved
loop-parser-preserved c =
    rw c.in_ok-push.ensures.ok (goes_on (comes sign.Entry) entry_at entry_shrinks refl c.loop-parser.entries c.loop-parser.parser.words.now
    c.in_ok-entry.entry c.entry.new.parser.words.now (many (comes sign.Entry) entry_at c.args.parser.now.words.now)
    (sym c.comes.ensures ∙ c.loop-parser-test.true) c.in_ok-entry.ensures c.loop-parser.invariant)

pub returns : goal.returns
returns c = is_done (comes sign.Entry) entry_at c.loop-parser.entries c.loop-parser.parser.words.now
    (many (comes sign.Entry) entry_at c.args.parser.now.words.now) (sym c.comes.ensures ∙ c.loop-parser-test.false) c.loop-parser.invariant
