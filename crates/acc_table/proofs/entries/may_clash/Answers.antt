use Rattle.std.proofs.Common.{ap, sym, ◌∙◌}
use Rattle.std.specs.List.{list_any}
use Rattle.acc_table.specs.Entries.{either_may_clash}
use Rattle.acc_table.proofs.Telling.{no_clash}
use Rattle.acc_table.proofs.entries.may_clash.Goals as goal

pub returns : goal.returns
returns c =
    let a_locals = c.args.a_locals.now in
    let b_locals = c.args.b_locals.now in
    let test = either_may_clash c.args.a.ty a_locals c.args.b.ty b_locals in
    λ h. no_clash c.args.d.now c.args.a a_locals c.args.b b_locals
    (sym (c.some_may_clash.ensures ∙ ap (list_any test) c.as_slice.ensures) ∙ h)
