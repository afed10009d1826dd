use Rattle.std.proofs.Common.{refl, sym, ◌∙◌}
use Rattle.std.proofs.lemmas.Result.{err_from_is_err_and}
use Rattle.acc_grammar.specs.Readers.{many}
use Rattle.acc_grammar.proofs.Many.{goes_on, is_done}
use Rattle.acc_grammar.proofs.LoopFaults.{ends_so}
use Rattle.acc_lex.specs.declared.words.Sign.TheVariants as sign
use Rattle.acc_parse_syntax.specs.WordReaders.{comes}
use Rattle.acc_parse_steps.specs.StepReaders.{path_at}
use Rattle.acc_parse_steps.proofs.StepLaws.{path_shrinks}
use Rattle.acc_parse_steps.proofs.steps.paths.Goals as goal

pub returns-in_err-path : goal.returns-in_err-path
returns-in_err-path c =
    let p = err_from_is_err_and c.from_residual.result c.from_residual.ensures.1 in
    rw (p.1, p.2) (ends_so (comes sign.Path) path_at refl c.in_err-path.field-0.0 c.loop-parser.paths c.loop-parser.parser.words.now
    c.path.new.parser.words.now (many (comes sign.Path) path_at c.args.parser.now.words.now) (sym c.comes.ensures ∙ c.loop-parser-test.true)
    c.in_err-path.ensures c.loop-parser.invariant)

pub loop-parser-smaller : goal.loop-parser-smaller
loop-parser-smaller c = path_shrinks c.loop-parser.parser.words.now c.in_ok-path.path c.path.new.parser.words.now c.in_ok-path.ensures

pub loop-parser-preserved : goal.loop-parser-preserved
loop-parser-preserved c =
    rw c.in_ok-push.ensures.ok (goes_on (comes sign.Path) path_at path_shrinks refl c.loop-parser.paths c.loop-parser.parser.words.now
    c.in_ok-path.path c.path.new.parser.words.now (many (comes sign.Path) path_at c.args.parser.now.words.now)
    (sym c.comes.ensures ∙ c.loop-parser-test.true) c.in_ok-path.ensures c.loop-parser.invariant)

pub returns : goal.returns
returns c = is_done (comes sign.Path) path_at c.loop-parser.paths c.loop-parser.parser.words.now
    (many (comes sign.Path) path_at c.args.parser.now.words.now) (sym c.comes.ensures ∙ c.loop-parser-test.false) c.loop-parser.invariant
