use Rattle.std.proofs.Common.{◌≡◌, refl, sym, ◌∙◌, ap, Some, None}
use Rattle.std.specs.Prelude.{position}
use Rattle.acc_elim_systems.specs.Systems.{is_equation_with}
use Rattle.acc_elim_systems.proofs.SystemSteps.{taken_found, taken_none}
use Rattle.acc_elim_systems.proofs.systems.take_equation.Goals as goal

pub returns-in-Some : goal.returns-in-Some
returns-in-Some c =
    let found : position (is_equation_with c.args.unknown) c.args.rows.now.items
    ≡ Some c.in-Some.place = ap (position (is_equation_with c.args.unknown)) (sym c.as_slice.ensures.value)
    ∙ sym c.in-Some.ensures.value in
    taken_found c.args.unknown c.args.rows.now.items c.in-Some.place c.remove.result _ found c.remove.ensures.value c.remove.ensures.items

pub returns-in-None : goal.returns-in-None
returns-in-None c =
    let none : position (is_equation_with c.args.unknown) c.args.rows.now.items
    ≡ None = ap (position (is_equation_with c.args.unknown)) (sym c.as_slice.ensures.value) ∙ sym c.in-None.ensures.value in
    (taken_none c.args.unknown c.args.rows.now.items none, refl)
