use Rattle.std.proofs.Common.{refl, sym, ◌∙◌}
use Rattle.std.proofs.lemmas.Result.{err_from_is_err_and}
use Rattle.acc_grammar.specs.Runs.{next_is}
use Rattle.acc_grammar.proofs.Adding.{adds_on, adds_ends, adds_all}
use Rattle.acc_lex.specs.ByteKinds.{is_byte}
use Rattle.acc_lex.specs.LineTokens.{next_line_parts}
use Rattle.acc_lex.specs.Readings.{next_line_at, next_lines_at}
use Rattle.acc_lex.proofs.Lines.{line_shorter}
use Rattle.acc_lex.proofs.readers.Lexer.next_lines.Goals as goal

pub loop-self-smaller : goal.loop-self-smaller
loop-self-smaller c = line_shorter c.loop-self.self.rest.now c.in_ok-next_line.ensures.0 c.next_line.new.self.rest.now
    c.in_ok-next_line.ensures.1

pub loop-self-preserved : goal.loop-self-preserved
loop-self-preserved c =
    adds_on (Unit {0}) next_line_parts (next_is (is_byte 10)) next_line_at refl line_shorter tt c.loop-self.self.parts
    c.next_line.new.self.parts c.loop-self.self.rest.now c.next_line.new.self.rest.now _ (sym c.comes.ensures ∙ c.loop-self-test.true)
    c.in_ok-next_line.ensures c.loop-self.invariant

pub returns-in_err-next_line : goal.returns-in_err-next_line
unfolding next_lines_at
returns-in_err-next_line c =
    let p = err_from_is_err_and c.from_residual.result c.from_residual.ensures.1 in
    rw (p.1, p.2) (adds_ends (Unit {0}) next_line_parts (next_is (is_byte 10)) next_line_at refl c.in_err-next_line.field-0.0
    c.loop-self.self.parts c.next_line.new.self.parts c.next_line.new.self.parts c.args.self.now.parts c.loop-self.self.rest.now
    c.next_line.new.self.rest.now c.args.self.now.rest.now (sym c.comes.ensures ∙ c.loop-self-test.true) c.in_err-next_line.ensures
    c.loop-self.invariant)

pub returns : goal.returns
unfolding next_lines_at
returns c = adds_all (Unit {0}) next_line_parts (next_is (is_byte 10)) next_line_at refl tt c.loop-self.self.parts c.args.self.now.parts
    c.loop-self.self.rest.now c.args.self.now.rest.now (sym c.comes.ensures ∙ c.loop-self-test.false) c.loop-self.invariant
