use Rattle.std.proofs.Common.{refl, sym, ◌∙◌}
use Rattle.std.proofs.lemmas.Result.{err_from_is_err_and}
use Rattle.acc_grammar.specs.Readers.{many}
use Rattle.acc_grammar.proofs.Many.{goes_on, is_done}
use Rattle.acc_grammar.proofs.LoopFaults.{ends_so}
use Rattle.acc_lex.specs.declared.words.Sign.TheVariants as sign
use Rattle.acc_parse_syntax.specs.WordReaders.{comes, further_at}
use Rattle.acc_parse_syntax.proofs.WordLaws.{behind_comma}
use Rattle.acc_parse_designs.specs.EntryReaders.{pair_at}
use Rattle.acc_parse_designs.proofs.EntryLaws.{further_pair_shrinks}
use Rattle.acc_parse_designs.proofs.entries.further_pairs.Goals as goal

pub returns-in_err-pair : goal.returns-in_err-pair
returns-in_err-pair c =
    let p = err_from_is_err_and c.from_residual.result c.from_residual.ensures.1 in
    rw (p.1, p.2) (ends_so (comes sign.Comma) (further_at pair_at) refl c.in_err-pair.field-0.0 c.loop-parser.pairs
    c.loop-parser.parser.words.now c.pair.new.parser.words.now
    (many (comes sign.Comma) (further_at pair_at) c.args.parser.now.words.now)
    (sym c.takes.ensures.came ∙ c.loop-parser-test.true)
    (rw (behind_comma pair_at c.loop-parser.parser.words.now c.takes.new.self.words.now (c.takes.ensures.taken c.loop-parser-test.true))
    c.in_err-pair.ensures) c.loop-parser.invariant)

pub loop-parser-smaller : goal.loop-parser-smaller
loop-parser-smaller c = further_pair_shrinks c.loop-parser.parser.words.now c.in_ok-pair.pair c.pair.new.parser.words.now
    (behind_comma pair_at c.loop-parser.parser.words.now c.takes.new.self.words.now (c.takes.ensures.taken c.loop-parser-test.true)
    ∙ c.in_ok-pair.ensures)

pub loop-parser-preserved : goal.loop-parser-preserved
loop-parser-preserved c =
    rw c.in_ok-push.ensures.ok (goes_on (comes sign.Comma) (further_at pair_at) further_pair_shrinks refl c.loop-parser.pairs
    c.loop-parser.parser.words.now c.in_ok-pair.pair c.pair.new.parser.words.now
    (many (comes sign.Comma) (further_at pair_at) c.args.parser.now.words.now) (sym c.takes.ensures.came ∙ c.loop-parser-test.true)
    (behind_comma pair_at c.loop-parser.parser.words.now c.takes.new.self.words.now (c.takes.ensures.taken c.loop-parser-test.true)
    ∙ c.in_ok-pair.ensures) c.loop-parser.invariant)

pub returns : goal.returns
returns c = rw (c.takes.ensures.left c.loop-parser-test.false) (is_done (comes sign.Comma) (further_at pair_at) c.loop-parser.pairs
    c.loop-parser.parser.words.now (many (comes sign.Comma) (further_at pair_at) c.args.parser.now.words.now)
    (sym c.takes.ensures.came ∙ c.loop-parser-test.false) c.loop-parser.invariant)
