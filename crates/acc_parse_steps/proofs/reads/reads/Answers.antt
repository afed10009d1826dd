use Rattle.std.proofs.Common.{refl, sym, ◌∙◌}
use Rattle.std.proofs.lemmas.Result.{err_from_is_err_and}
use Rattle.acc_grammar.specs.Readers.{many}
use Rattle.acc_grammar.proofs.Many.{goes_on, is_done}
use Rattle.acc_grammar.proofs.LoopFaults.{ends_so}
use Rattle.acc_parse_steps.specs.ReadReaders.{starts_read, read_at}
use Rattle.acc_parse_steps.proofs.ReadLaws.{read_shrinks}
use Rattle.acc_parse_steps.proofs.reads.reads.Goals as goal

pub returns-in_err-read : goal.returns-in_err-read
returns-in_err-read c =
    let p = err_from_is_err_and c.from_residual.result c.from_residual.ensures.1 in
    rw (p.1, p.2) (ends_so starts_read read_at refl c.in_err-read.field-0.0 c.loop-parser.reads c.loop-parser.parser.words.now
    c.read.new.parser.words.now (many starts_read read_at c.args.parser.now.words.now) (sym c.starts_read.ensures ∙ c.loop-parser-test.true)
    c.in_err-read.ensures c.loop-parser.invariant)

pub loop-parser-smaller : goal.loop-parser-smaller
loop-parser-smaller c = read_shrinks c.loop-parser.parser.words.now c.in_ok-read.read c.read.new.parser.words.now c.in_ok-read.ensures

pub loop-parser-preserved : goal.loop-parser-preserved
loop-parser-preserved c =
    rw c.in_ok-push.ensures.ok (goes_on starts_read read_at read_shrinks refl c.loop-parser.reads c.loop-parser.parser.words.now
    c.in_ok-read.read c.read.new.parser.words.now (many starts_read read_at c.args.parser.now.words.now)
    (sym c.starts_read.ensures ∙ c.loop-parser-test.true) c.in_ok-read.ensures c.loop-parser.invariant)

pub returns : goal.returns
returns c =
    is_done starts_read read_at c.loop-parser.reads c.loop-parser.parser.words.now (many starts_read read_at c.args.parser.now.words.now)
    (sym c.starts_read.ensures ∙ c.loop-parser-test.false) c.loop-parser.invariant
