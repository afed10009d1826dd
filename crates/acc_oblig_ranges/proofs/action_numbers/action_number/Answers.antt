use Rattle.std.proofs.Common.{◌≡◌, ◌+◌, List, [], length, drop, sym, subst, arith}
use Rattle.std.proofs.lemmas.List.{drop_all}
use Rattle.acc_base.specs.declared.steps.Action.{Action}
use Rattle.acc_oblig.specs.Ranges as definitions
use Rattle.acc_oblig.specs.Ranges.{one_action_numbers, numbers_of}
use Rattle.acc_oblig_ranges.specs.declared.found.Found.TheVariants.{Number, Behind}
use Rattle.acc_oblig_ranges.specs.Numbers.{StandsAt, seen_action}
use Rattle.acc_oblig_ranges.proofs.Standing.{stands_front, stands_behind, actions_next, none_stands}
use Rattle.acc_oblig_ranges.proofs.action_numbers.action_number.Goals as goal

pub returns-in-Number : goal.returns-in-Number
returns-in-Number c =
    let acts = c.args.actions.now in
    let i = c.loop-a.a-index in
    let a = c.a-item.result in
    let m = c.in-Number.number in
    sym (c.loop-a.invariant (Number m)
    (subst (λ (z : List definitions.ActionNumber). StandsAt seen_action z c.loop-a.left (Number m))
    (actions_next acts acts i a c.loop-a-test.true c.a-item.is)
    (stands_front seen_action (one_action_numbers acts a) (numbers_of acts (drop (i + 1) acts)) c.loop-a.left m c.in-Number.ensures)))

pub loop-a-preserved : goal.loop-a-preserved
loop-a-preserved c =
    let acts = c.args.actions.now in
    let i = c.loop-a.a-index in
    let a = c.a-item.result in
    λ f h.
    c.loop-a.invariant f
    (subst (λ (z : List definitions.ActionNumber). StandsAt seen_action z c.loop-a.left f)
    (actions_next acts acts i a c.loop-a-test.true c.a-item.is)
    (stands_behind seen_action (one_action_numbers acts a) (numbers_of acts (drop (i + 1) acts)) c.loop-a.left c.in-Behind.rest f
    c.in-Behind.ensures h))

pub returns : goal.returns
returns c =
    let acts = c.args.actions.now in
    let left = c.loop-a.left in
    let none : left ≡ length (numbers_of acts []) + left = omega arith in
    sym (none_stands (numbers_of acts acts) c.args.place left
    (c.loop-a.invariant (Behind left)
    (subst (λ (bs : List Action). left ≡ length (numbers_of acts bs) + left) (sym (drop_all c.loop-a.a-index acts c.loop-a-test.false))
    none)))
