use Rattle.std.proofs.Common.{◌≡◌, sym, ap, ◌∙◌, subst, true, List, [], ◌∷◌, ◌++◌, length}
use Rattle.acc_base.specs.declared.machines.Event.{Event}
use Rattle.acc_base.specs.declared.machines.Turn.{Turn}
use Rattle.acc_base.specs.declared.designs.Design.{Design}
use Rattle.acc_base.specs.Machine.{World}
use Rattle.acc_machine.specs.Kept.{IsKept}
use Rattle.acc_machine.specs.Turns.{IsTurn, AddsBy}
use Rattle.acc_pass.specs.Rules.{known}
use Rattle.acc_beside.specs.Calls.{Turns}
use Rattle.acc_beside.proofs.Beside.{short, turn_next, went_on, went_blocked, adds_event, makes_event, unblocked}
use Rattle.acc_beside.proofs.inside.turn_in.Goals as goal

pub append_last-requires : goal.append_last-requires
append_last-requires g c =
    let old = c.args.engine.now in
    let new = c.turn.new.self in
    let stays = c.turn.ensures.stays in
    let joined = c.args.joined in
    let kept : IsKept g.B.Run.script.design new.state =
    subst (λ (x : Design). IsKept x new.state) (stays.design ∙ c.requires.serves.design) c.state.ensures.kept in
    record {
      mark = c.requires.tied.0;
      room = short g.B.Run.script.design joined old c.requires.tied c.requires.serves.kept;
      next =
          turn_next g.D.Disk.clock g.D.Disk.left_since g.D.Disk.told g.D.Disk.may_leave g.D.Disk.faults g.met.D.Disk.only_now
          g.B.Run.script g.B.Room.start g.B.Run.engine old new stays c.turn.ensures.waiting c.requires.serves
          (λ f. (c.turn.ensures.failed f).1)
          c.args.t c.requires.live c.turn.ensures.begun kept joined c.events.result.now c.requires.tied c.requires.own
          (adds_event c.args.t c.in-Ok.turn old.state new.state (unblocked c.in-Ok.turn c.in-Stepped.is) c.in-Ok.ensures.adds)
          (c.events.ensures.events ∙ ap (λ (w : World). w.events) c.state.ensures.state.0);
    }

pub returns-in-Blocked-clause-turns : goal.returns-in-Blocked-clause-turns
returns-in-Blocked-clause-turns g c =
    let old = c.args.engine.now in
    let new = c.turn.new.self in
    let joined = c.args.joined in
    let same : new.state ≡ old.state = subst (λ (x : Turn). AddsBy old.state new.state c.args.t x) c.in-Blocked.is c.in-Ok.ensures.adds in
    let is = subst (λ (x : Turn). IsTurn old.design old.state new.state c.args.t x) c.in-Blocked.is c.in-Ok.ensures.turn in
    let went =
    went_blocked g.D.Disk.clock g.D.Disk.left_since g.D.Disk.told g.D.Disk.may_leave g.D.Disk.faults g.met.D.Disk.only_now
    g.B.Run.script g.B.Room.start g.B.Run.engine old new c.turn.ensures.stays c.turn.ensures.waiting c.requires.serves
    (λ f. (c.turn.ensures.failed f).1)
    c.args.t c.requires.live c.turn.ensures.begun (subst (IsKept g.B.Run.script.design) (sym same) c.requires.serves.kept)
    joined c.in-Blocked.field-0 c.in-Blocked.field-1 c.requires.tied is same in
    subst (λ (x : Turn). Turns g.B.Run.script.design c.args.t joined joined x) (sym c.in-Blocked.is) went.turns

pub returns-in-Stepped : goal.returns-in-Stepped
returns-in-Stepped g c =
    let old = c.args.engine.now in
    let new = c.turn.new.self in
    let stays = c.turn.ensures.stays in
    let joined = c.args.joined in
    let kept : IsKept g.B.Run.script.design new.state =
    subst (λ (x : Design). IsKept x new.state) (stays.design ∙ c.requires.serves.design) c.state.ensures.kept in
    let added : c.events.result.now ≡ new.state.events = c.events.ensures.events ∙ ap (λ (w : World). w.events) c.state.ensures.state.0 in
    let moved = unblocked c.in-Ok.turn c.in-Stepped.is in
    let a = adds_event c.args.t c.in-Ok.turn old.state new.state moved c.in-Ok.ensures.adds in
    let went =
    went_on g.D.Disk.clock g.D.Disk.left_since g.D.Disk.told g.D.Disk.may_leave g.D.Disk.faults g.met.D.Disk.only_now
    g.B.Run.script g.B.Room.start g.B.Run.engine old new stays c.turn.ensures.waiting c.requires.serves (λ f. (c.turn.ensures.failed f).1)
    c.args.t c.requires.live c.turn.ensures.begun kept joined c.append_last.result c.in-Ok.turn c.requires.tied c.in-Ok.ensures.turn a
    (λ event is.
    subst (λ (l : List Event). c.append_last.result ≡ known true joined.broken l (joined.mine ++ (length joined.seen, event) ∷ []))
    added
    (c.append_last.ensures event (added ∙ is)))
    (makes_event c.args.t c.in-Ok.turn a.event moved a.of_turn) in
    record { tied = went.tied; serves = went.serves'; causes = went.causes; turns = went.turns }
