use Rattle.std.proofs.Common.{◌≡◌, sym, ap, ◌∙◌, subst, true, List, [], ◌∷◌, ◌++◌, length}
use Rattle.acc_base.specs.declared.machines.Event.{Event}
use Rattle.acc_base.specs.Machine.{World}
use Rattle.acc_engine.specs.Calls.{DrawsLowest}
use Rattle.acc_engine.specs.declared.errors.Drawn.{Drawn}
use Rattle.acc_pass.specs.Rules.{known}
use Rattle.acc_beside.specs.Calls.{Draws}
use Rattle.acc_beside.proofs.Beside.{begin_next, drew_begun, drew_empty, drew_full, drew_crowd, failing}
use Rattle.acc_beside.proofs.inside.draw_in.Goals as goal

pub append_last-requires-clause-next : goal.append_last-requires-clause-next
append_last-requires-clause-next g c =
    let old = c.args.engine.now in
    let new = c.draw.new.self in
    begin_next g.D.Disk.clock g.D.Disk.left_since g.D.Disk.told g.D.Disk.may_leave g.D.Disk.faults g.met.D.Disk.only_now
    g.B.Run.script g.B.Room.start g.B.Run.engine old new c.draw.ensures.stays c.draw.ensures.waiting c.requires.serves
    (λ f. (c.draw.ensures.failed f).1)
    c.args.joined c.in-Begun.field-0 c.events.result.now c.requires.tied
    (subst (λ (x : Drawn). DrawsLowest x old new) c.in-Begun.is c.in-Ok.ensures.ok)
    (c.events.ensures.events ∙ ap (λ (w : World). w.events) c.state.ensures.state.0)

pub returns-in-Begun : goal.returns-in-Begun
returns-in-Begun g c =
    let old = c.args.engine.now in
    let new = c.draw.new.self in
    let joined = c.args.joined in
    let added : c.events.result.now ≡ new.state.events = c.events.ensures.events ∙ ap (λ (w : World). w.events) c.state.ensures.state.0 in
    let drew =
    drew_begun g.D.Disk.clock g.D.Disk.left_since g.D.Disk.told g.D.Disk.may_leave g.D.Disk.faults g.met.D.Disk.only_now
    g.B.Run.script g.B.Room.start g.B.Run.engine old new c.draw.ensures.stays c.draw.ensures.waiting c.requires.serves
    (λ f. (c.draw.ensures.failed f).1)
    joined c.append_last.result c.in-Begun.field-0 c.requires.tied
    (subst (λ (x : Drawn). DrawsLowest x old new) c.in-Begun.is c.in-Ok.ensures.ok)
    (λ event is.
    subst (λ (l : List Event). c.append_last.result ≡ known true joined.broken l (joined.mine ++ (length joined.seen, event) ∷ []))
    added
    (c.append_last.ensures event (added ∙ is))) in
    record {
      tied = drew.tied;
      serves = drew.serves';
      causes = drew.causes;
      draws = subst (λ (x : Drawn). Draws g.B.Run.script g.B.Room.start joined c.append_last.result x) (sym c.in-Begun.is) drew.draws;
    }

pub returns-in-Empty : goal.returns-in-Empty
returns-in-Empty g c =
    let old = c.args.engine.now in
    let new = c.draw.new.self in
    let drew =
    drew_empty g.D.Disk.clock g.D.Disk.left_since g.D.Disk.told g.D.Disk.may_leave g.D.Disk.faults g.met.D.Disk.only_now
    g.B.Run.script g.B.Room.start g.B.Run.engine old new c.draw.ensures.stays c.draw.ensures.waiting c.requires.serves
    (λ f. (c.draw.ensures.failed f).1)
    c.args.joined c.requires.tied (subst (λ (x : Drawn). DrawsLowest x old new) c.in-Empty.is c.in-Ok.ensures.ok) in
    record {
      tied = drew.tied;
      serves = drew.serves';
      causes = drew.causes;
      draws = subst (λ (x : Drawn). Draws g.B.Run.script g.B.Room.start c.args.joined c.args.joined x) (sym c.in-Empty.is) drew.draws;
    }

pub returns-in-Full : goal.returns-in-Full
returns-in-Full g c =
    let old = c.args.engine.now in
    let new = c.draw.new.self in
    let drew =
    drew_full g.D.Disk.clock g.D.Disk.left_since g.D.Disk.told g.D.Disk.may_leave g.D.Disk.faults g.met.D.Disk.only_now
    g.B.Run.script g.B.Room.start g.B.Run.engine old new c.draw.ensures.stays c.draw.ensures.waiting c.requires.serves
    (λ f. (c.draw.ensures.failed f).1)
    c.args.joined c.requires.tied (subst (λ (x : Drawn). DrawsLowest x old new) c.in-Full.is c.in-Ok.ensures.ok) in
    record {
      tied = drew.tied;
      serves = drew.serves';
      causes = drew.causes;
      draws = subst (λ (x : Drawn). Draws g.B.Run.script g.B.Room.start c.args.joined c.args.joined x) (sym c.in-Full.is) drew.draws;
    }

pub returns-in-Crowd : goal.returns-in-Crowd
returns-in-Crowd g c =
    let old = c.args.engine.now in
    let new = c.draw.new.self in
    let drew =
    drew_crowd g.D.Disk.clock g.D.Disk.left_since g.D.Disk.told g.D.Disk.may_leave g.D.Disk.faults g.met.D.Disk.only_now
    g.B.Run.script g.B.Room.start g.B.Run.engine old new c.draw.ensures.stays c.draw.ensures.waiting c.requires.serves
    (λ f. (c.draw.ensures.failed f).1)
    c.args.joined c.requires.tied (subst (λ (x : Drawn). DrawsLowest x old new) c.in-Crowd.is c.in-Ok.ensures.ok) in
    record {
      tied = drew.tied;
      serves = drew.serves';
      causes = drew.causes;
      draws = subst (λ (x : Drawn). Draws g.B.Run.script g.B.Room.start c.args.joined c.args.joined x) (sym c.in-Crowd.is) drew.draws;
    }

pub returns-in-Err : goal.returns-in-Err
returns-in-Err g c =
    let err = c.in-Err.ensures.err in
    let fails =
    failing g.D.Disk.clock g.D.Disk.left_since g.D.Disk.told g.D.Disk.may_leave g.D.Disk.faults g.met.D.Disk.only_now
    g.B.Run.script g.B.Room.start g.B.Run.engine c.args.engine.now c.draw.new.self c.draw.ensures.stays c.draw.ensures.waiting
    c.requires.serves
    (λ f. (c.draw.ensures.failed f).1) c.args.joined c.in-Err.error c.requires.tied err.state err.marks c.in-Err.ensures.why in
    record { tied = fails.tied; serves = fails.serves'; causes = fails.causes; draws = fails.fails }
