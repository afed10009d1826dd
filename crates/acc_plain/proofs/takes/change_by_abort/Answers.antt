use Rattle.acc_plain.proofs.Taking.{stop_free, abort_only}
use Rattle.acc_plain.proofs.takes.change_by_abort.Goals as goal

pub returns-in_ok-forward_change-in-Refused : goal.returns-in_ok-forward_change-in-Refused
returns-in_ok-forward_change-in-Refused g c =
    let d = c.args.d.now in
    let rows = g.S.Store.rows c.args.s.now in
    let free = stop_free d rows c.args.f.now c.args.cause c.in-Refused.is in
    rw c.if_abort.ensures (abort_only d rows c.args.f.now c.args.cause c.in_ok-forward_change-in-Refused.field-0 free
    c.in_ok-forward_change-in-Refused.ensures)
