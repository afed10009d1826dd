use Rattle.std.proofs.Common.{◌≡◌, sym, ◌∙◌, ap, subst, Some}
use Rattle.std.specs.Prelude.{OnOk}
use Rattle.std.proofs.lemmas.Result.{on_ok_weaker}
use Rattle.acc_elim_systems.specs.Systems.{taken}
use Rattle.acc_elim_systems.specs.Repetitions.{AreApart}
use Rattle.acc_elim_systems.proofs.Apart.{rest_apart}
use Rattle.acc_elim_stages.specs.Stages.{FollowsBy}
use Rattle.acc_elim_stages.proofs.stages.set_aside.Goals as goal

pub put_aside-requires : goal.put_aside-requires
put_aside-requires c =
    rest_apart c.args.unknown c.into_vec-rows.result.items c.take_equation.new.rows.items c.in-Some.equation c.in-Some.ensures
    (subst AreApart (sym (c.into_vec-rows.ensures ∙ c.replace.ensures.value)) c.requires)

pub returns-in-Some-clause-value : goal.returns-in-Some-clause-value
returns-in-Some-clause-value c =
    let stage = c.args.stage.now in
    let some : taken c.args.unknown stage.rows ≡ Some (c.in-Some.equation, c.take_equation.new.rows.items) =
    ap (taken c.args.unknown) (sym (c.into_vec-rows.ensures ∙ c.replace.ensures.value)) ∙ c.in-Some.ensures in
    subst (λ o. OnOk c.put_aside.result (FollowsBy stage c.args.unknown c.put_aside.new.stage o)) (sym some)
    (on_ok_weaker c.put_aside.result (λ s. record { system = s.system; rows = s.rows; tells = s.tells; stage = s.stage })
    c.put_aside.ensures.value)
