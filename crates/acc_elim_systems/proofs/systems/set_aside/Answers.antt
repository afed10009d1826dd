use Rattle.std.proofs.Common.{◌∙◌, subst, sym}
use Rattle.acc_elim_systems.specs.Repetitions.{AreApart}
use Rattle.acc_elim_systems.proofs.Apart.{rest_apart}
use Rattle.acc_elim_systems.proofs.systems.set_aside.Goals as goal

pub put_aside-requires : goal.put_aside-requires
put_aside-requires c =
    rest_apart c.args.unknown c.into_vec-rows.result.items c.take_equation.new.rows.items c.in-Some.equation c.in-Some.ensures
    (subst AreApart (sym (c.into_vec-rows.ensures ∙ c.replace.ensures.value)) c.requires)
