use Rattle.std.proofs.Common.{refl, sym, ◌∙◌}
use Rattle.std.proofs.lemmas.Result.{err_from_is_err_and}
use Rattle.acc_grammar.specs.Readers.{many}
use Rattle.acc_grammar.proofs.Many.{goes_on, is_done}
use Rattle.acc_grammar.proofs.LoopFaults.{ends_so}
use Rattle.acc_parse_syntax.specs.WordReaders.{is_name, name_at}
use Rattle.acc_parse_syntax.proofs.WordLaws.{name_shrinks}
use Rattle.acc_parse_syntax.proofs.parsers.Parser.names.Goals as goal

pub returns-in_err-name : goal.returns-in_err-name
returns-in_err-name c =
    let p = err_from_is_err_and c.from_residual.result c.from_residual.ensures.1 in
    rw (p.1, p.2) (ends_so is_name name_at refl c.in_err-name.field-0.0 c.loop-self.names c.loop-self.self.words.now
    c.name.new.self.words.now (many is_name name_at c.args.self.now.words.now) (sym c.is_name.ensures ∙ c.loop-self-test.true)
    c.in_err-name.ensures c.loop-self.invariant)

pub loop-self-smaller : goal.loop-self-smaller
loop-self-smaller c = name_shrinks c.loop-self.self.words.now c.in_ok-name.name c.name.new.self.words.now c.in_ok-name.ensures

pub loop-self-preserved : goal.loop-self-preserved
loop-self-preserved c =
    rw c.in_ok-push.ensures.ok (goes_on is_name name_at name_shrinks refl c.loop-self.names c.loop-self.self.words.now c.in_ok-name.name
    c.name.new.self.words.now (many is_name name_at c.args.self.now.words.now) (sym c.is_name.ensures ∙ c.loop-self-test.true)
    c.in_ok-name.ensures c.loop-self.invariant)

pub returns : goal.returns
returns c = is_done is_name name_at c.loop-self.names c.loop-self.self.words.now (many is_name name_at c.args.self.now.words.now)
    (sym c.is_name.ensures ∙ c.loop-self-test.false) c.loop-self.invariant
