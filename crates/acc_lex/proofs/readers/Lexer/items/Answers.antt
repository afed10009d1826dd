use Rattle.std.proofs.Common.{refl, sym, ◌∙◌}
use Rattle.std.proofs.lemmas.Result.{err_from_is_err_and}
use Rattle.acc_grammar.specs.Runs.{next_is}
use Rattle.acc_grammar.proofs.Adding.{adds_on, adds_ends, adds_all}
use Rattle.acc_lex.specs.LineTokens.{item_parts}
use Rattle.acc_lex.specs.Readings.{is_inside, item_at, items_at}
use Rattle.acc_lex.proofs.Statements.{item_shorter}
use Rattle.acc_lex.proofs.readers.Lexer.items.Goals as goal

pub loop-self-smaller : goal.loop-self-smaller
loop-self-smaller c = item_shorter c.loop-self.self.rest.now c.in_ok-item.ensures.0 c.item.new.self.rest.now c.in_ok-item.ensures.1

pub loop-self-preserved : goal.loop-self-preserved
loop-self-preserved c =
    adds_on (Unit {0}) item_parts (next_is is_inside) item_at refl item_shorter tt c.loop-self.self.parts c.item.new.self.parts
    c.loop-self.self.rest.now c.item.new.self.rest.now _ (sym c.token_comes.ensures ∙ c.loop-self-test.true) c.in_ok-item.ensures
    c.loop-self.invariant

pub returns-in_err-item : goal.returns-in_err-item
unfolding items_at
returns-in_err-item c =
    let p = err_from_is_err_and c.from_residual.result c.from_residual.ensures.1 in
    rw (p.1, p.2) (adds_ends (Unit {0}) item_parts (next_is is_inside) item_at refl c.in_err-item.field-0.0 c.loop-self.self.parts
    c.item.new.self.parts c.item.new.self.parts c.args.self.now.parts c.loop-self.self.rest.now c.item.new.self.rest.now
    c.args.self.now.rest.now (sym c.token_comes.ensures ∙ c.loop-self-test.true) c.in_err-item.ensures c.loop-self.invariant)

pub returns : goal.returns
unfolding items_at
returns c = adds_all (Unit {0}) item_parts (next_is is_inside) item_at refl tt c.loop-self.self.parts c.args.self.now.parts
    c.loop-self.self.rest.now c.args.self.now.rest.now (sym c.token_comes.ensures ∙ c.loop-self-test.false) c.loop-self.invariant
