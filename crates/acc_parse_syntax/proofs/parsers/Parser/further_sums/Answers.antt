use Rattle.std.proofs.Common.{refl, sym, ◌∙◌}
use Rattle.std.proofs.lemmas.Result.{err_from_is_err_and}
use Rattle.acc_grammar.specs.Readers.{many}
use Rattle.acc_grammar.proofs.Many.{goes_on, is_done}
use Rattle.acc_grammar.proofs.LoopFaults.{ends_so}
use Rattle.acc_lex.specs.declared.words.Sign.TheVariants as sign
use Rattle.acc_parse_syntax.specs.WordReaders.{comes, further_at}
use Rattle.acc_parse_syntax.specs.ValueReaders.{sum_at}
use Rattle.acc_parse_syntax.proofs.WordLaws.{behind_comma}
use Rattle.acc_parse_syntax.proofs.RowLaws.{further_sum_shrinks}
use Rattle.acc_parse_syntax.proofs.parsers.Parser.further_sums.Goals as goal

pub returns-in_err-sum : goal.returns-in_err-sum
returns-in_err-sum c =
    let p = err_from_is_err_and c.from_residual.result c.from_residual.ensures.1 in
    rw (p.1, p.2) (ends_so (comes sign.Comma) (further_at sum_at) refl c.in_err-sum.field-0.0 c.loop-self.sums c.loop-self.self.words.now
    c.sum.new.self.words.now (many (comes sign.Comma) (further_at sum_at) c.args.self.now.words.now)
    (sym c.takes.ensures.came ∙ c.loop-self-test.true)
    (rw (behind_comma sum_at c.loop-self.self.words.now c.takes.new.self.words.now (c.takes.ensures.taken c.loop-self-test.true))
    c.in_err-sum.ensures) c.loop-self.invariant)

pub loop-self-smaller : goal.loop-self-smaller
loop-self-smaller c = further_sum_shrinks c.loop-self.self.words.now c.in_ok-sum.sum c.sum.new.self.words.now
    (behind_comma sum_at c.loop-self.self.words.now c.takes.new.self.words.now (c.takes.ensures.taken c.loop-self-test.true)
    ∙ c.in_ok-sum.ensures)

pub loop-self-preserved : goal.loop-self-preserved
loop-self-preserved c =
    rw c.in_ok-push.ensures.ok (goes_on (comes sign.Comma) (further_at sum_at) further_sum_shrinks refl c.loop-self.sums
    c.loop-self.self.words.now c.in_ok-sum.sum c.sum.new.self.words.now
    (many (comes sign.Comma) (further_at sum_at) c.args.self.now.words.now) (sym c.takes.ensures.came ∙ c.loop-self-test.true)
    (behind_comma sum_at c.loop-self.self.words.now c.takes.new.self.words.now (c.takes.ensures.taken c.loop-self-test.true)
    ∙ c.in_ok-sum.ensures) c.loop-self.invariant)

pub returns : goal.returns
returns c = rw (c.takes.ensures.left c.loop-self-test.false) (is_done (comes sign.Comma) (further_at sum_at) c.loop-self.sums
    c.loop-self.self.words.now (many (comes sign.Comma) (further_at sum_at) c.args.self.now.words.now)
    (sym c.takes.ensures.came ∙ c.loop-self-test.false) c.loop-self.invariant)
