use Rattle.std.proofs.Common.{◌+◌, ◌<◌, rules, length, refl, sym, ◌∙◌, subst}
use Rattle.std.proofs.lemmas.List.{length_push, length-reverse, get_or-reverse}
use Rattle.std.proofs.lemmas.Iterator.Adapters.{YieldsList-from_rev_slice}
use Rattle.std.proofs.lemmas.Iterator.Consumers.{YieldsList-turn}
use Rattle.acc_base.proofs.HandedOn.{handed_on}
use Rattle.acc_wp.proofs.ActionLoops.{before_step, wide_here, wide_step}
use Rattle.acc_wp.proofs.preconditions.before_actions.Goals as goal

pub loop-action-preserved : goal.loop-action-preserved
loop-action-preserved c =
    let acts = c.args.actions.now in
    let turn = YieldsList-turn (YieldsList-from_rev_slice acts (search rules)) c.loop-action.yielded c.loop-action.action-iterator
    c.loop-action.yielded_by c.next.result c.next.new.self c.in-Some.action c.in-Some.is c.next.ensures.steps in
    let n = length c.loop-action.yielded in
    let a = c.in-Some.action.now in
    let within : n < length acts = subst (λ k. n < k) (length-reverse acts) turn.0 in
    let here = turn.1 ∙ get_or-reverse acts n a within in
    let many = length_push c.loop-action.yielded c.in-Some.action in
    let done = c.in_ok-before-2.ensures in
    record {
      can = tt;
      finite = tt;
      value = before_step acts n _ a many within here c.loop-action.before _ done.value ∙ c.loop-action.invariant.value;
      wide = wide_step acts n _ a many within here c.loop-action.before done.wide _ done.value ∙ c.loop-action.invariant.wide;
    }

pub returns-in_err-before-2-clause-wide : goal.returns-in_err-before-2-clause-wide
returns-in_err-before-2-clause-wide c =
    let acts = c.args.actions.now in
    let turn = YieldsList-turn (YieldsList-from_rev_slice acts (search rules)) c.loop-action.yielded c.loop-action.action-iterator
    c.loop-action.yielded_by c.next.result c.next.new.self c.in-Some.action c.in-Some.is c.next.ensures.steps in
    let n = length c.loop-action.yielded in
    let a = c.in-Some.action.now in
    let within : n < length acts = subst (λ k. n < k) (length-reverse acts) turn.0 in
    let here = turn.1 ∙ get_or-reverse acts n a within in
    handed_on _ (Unit {0}) _ _ _ _ c.from_residual-in_err-before-2.ensures.1
    (λ h. sym c.loop-action.invariant.wide ∙ wide_here acts n (n + 1) a refl within here c.loop-action.before h)
    c.in_err-before-2.ensures.wide
