use Rattle.std.proofs.Common.{refl, sym, ◌∙◌}
use Rattle.std.proofs.lemmas.Result.{err_from_is_err_and}
use Rattle.acc_grammar.specs.Readers.{many}
use Rattle.acc_grammar.proofs.Many.{goes_on, is_done}
use Rattle.acc_grammar.proofs.LoopFaults.{ends_so}
use Rattle.acc_parse_steps.specs.ActionReaders.{starts_action, action_at}
use Rattle.acc_parse_steps.proofs.ActionLaws.{action_shrinks}
use Rattle.acc_parse_steps.proofs.actions.actions.Goals as goal

pub returns-in_err-action : goal.returns-in_err-action
returns-in_err-action c =
    let p = err_from_is_err_and c.from_residual.result c.from_residual.ensures.1 in
    rw (p.1, p.2) (ends_so starts_action action_at refl c.in_err-action.field-0.0 c.loop-parser.actions c.loop-parser.parser.words.now
    c.action.new.parser.words.now (many starts_action action_at c.args.parser.now.words.now)
    (sym c.starts_action.ensures ∙ c.loop-parser-test.true) c.in_err-action.ensures c.loop-parser.invariant)

pub loop-parser-smaller : goal.loop-parser-smaller
loop-parser-smaller c =
    action_shrinks c.loop-parser.parser.words.now c.in_ok-action.action c.action.new.parser.words.now c.in_ok-action.ensures

pub loop-parser-preserved : goal.loop-parser-preserved
loop-parser-preserved c =
    rw c.in_ok-push.ensures.ok (goes_on starts_action action_at action_shrinks refl c.loop-parser.actions c.loop-parser.parser.words.now
    c.in_ok-action.action c.action.new.parser.words.now (many starts_action action_at c.args.parser.now.words.now)
    (sym c.starts_action.ensures ∙ c.loop-parser-test.true) c.in_ok-action.ensures c.loop-parser.invariant)

pub returns : goal.returns
returns c =
    is_done starts_action action_at c.loop-parser.actions c.loop-parser.parser.words.now
    (many starts_action action_at c.args.parser.now.words.now) (sym c.starts_action.ensures ∙ c.loop-parser-test.false)
    c.loop-parser.invariant
