use Rattle.std.proofs.Common.{subst, sym, ap, take}
use Rattle.acc_lock_index.specs.Indexed.{LeadsToPoint}
use Rattle.acc_machine.proofs.Stops.{looks_to}
use Rattle.acc_machine.proofs.Asking.{leads_point, barred_told}
use Rattle.acc_machine.proofs.held_up.barred.Goals as goal

pub first-requires-clause-point : goal.first-requires-clause-point
first-requires-clause-point g c =
    let d = c.args.d.now in
    let f = c.args.f.now in
    subst (LeadsToPoint d) (sym c.led_by.ensures) (leads_point d f.ty c.in-Some.outlook
    (looks_to d (g.S.Store.rows c.args.s.now) f c.requires.formed c.in-Some.outlook c.in-Some.ensures.ahead.looks))

pub returns : goal.returns
returns g c = λ frames stand.
    let places = c.ahead.new.places in
    barred_told c.args.d.now (g.S.Store.rows c.args.s.now) frames c.args.f.now c.in-Some.outlook places (take c.len.result places)
    c.in-Some.ensures.ahead (ap (λ n. take n places) c.len.ensures) c.first.result c.at.result c.led_by.result c.at.ensures c.led_by.ensures
    (c.first.ensures frames stand)
