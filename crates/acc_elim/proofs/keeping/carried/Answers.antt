use Rattle.std.proofs.Common.{◌-◌, ◌∙◌, ap, length, take, drop}
use Rattle.acc_elim_decisions.proofs.ReadOn.{rest_is}
use Rattle.acc_elim.proofs.Keepings.{carried_rest}
use Rattle.acc_elim.proofs.keeping.carried.Goals as goal

pub returns-in-Ok : goal.returns-in-Ok
returns-in-Ok c =
    let reading = c.args.reading.now in
    let before = c.args.before in
    carried_rest reading before c.in-Ok.unknowns c.args.known _ c.carried_on.result
    (c.in-Ok.ensures ∙ (c.len.ensures ∙ reading.names.ok.0))
    (ap (λ rows. take (length rows - before) (drop before rows)) c.as_slice.ensures.value ∙ rest_is reading.rows.items before)
    c.carried_on.ensures
