use Rattle.std.proofs.Common.{◌∙◌, arith}
use Rattle.acc_store.proofs.KeyOrders.{rest_ended}
use Rattle.acc_store.proofs.places.key_order.Goals as goal

pub returns : goal.returns
returns c =
    let inv = c.loop-i.invariant in
    let within = inv.within in
    let end = inv.end in
    let last = c.loop-i-test.false in
    rest_ended c.args.a.now c.args.b.now c.loop-i.i c.cmp.result (omega arith) c.cmp.ensures ∙ inv.rest
