use Rattle.std.proofs.Common.{ap, ◌∙◌, Ok}
use Rattle.acc_base.specs.declared.machines.Turn.TheVariants as turn
use Rattle.acc_shared.proofs.Turning.{keeps_then, turns_keeps, turns_at, turns_on, turns_ended, turns_blocked}
use Rattle.acc_shared.proofs.locked.Locked.turned.Goals as goal

pub returns-in-Stepped-clause-keeps : goal.returns-in-Stepped-clause-keeps
returns-in-Stepped-clause-keeps g c =
    turns_keeps g.B.Run.script g.B.Room.start c.args.pass c.turn-pass.result.0 c.args.t c.turn-pass.result.1 c.turn-pass.ensures.turns

pub returns-in-Stepped-clause-went : goal.returns-in-Stepped-clause-went
returns-in-Stepped-clause-went g c =
    let h = turns_at g.B.Run.script g.B.Room.start c.args.pass c.turn-pass.result.0 c.args.t c.turn-pass.result.1
    (turn.Stepped c.in-Stepped.field-0) (c.in-Ok.is ∙ ap Ok c.in-Stepped.is) c.turn-pass.ensures.turns in
    turns_on g.B.Run.script g.B.Room.start c.args.pass c.turn-pass.result.0 c.knows.ensures c.knows-2.ensures c.args.t
    (turn.Stepped c.in-Stepped.field-0) h h.makes (λ e. cc) c.requires

pub returns-in-Turned-clause-keeps : goal.returns-in-Turned-clause-keeps
returns-in-Turned-clause-keeps g c =
    turns_keeps g.B.Run.script g.B.Room.start c.args.pass c.turn-pass.result.0 c.args.t c.turn-pass.result.1 c.turn-pass.ensures.turns

pub returns-in-Turned-clause-went : goal.returns-in-Turned-clause-went
returns-in-Turned-clause-went g c =
    let h = turns_at g.B.Run.script g.B.Room.start c.args.pass c.turn-pass.result.0 c.args.t c.turn-pass.result.1
    (turn.Turned c.in-Turned.field-0) (c.in-Ok.is ∙ ap Ok c.in-Turned.is) c.turn-pass.ensures.turns in
    turns_on g.B.Run.script g.B.Room.start c.args.pass c.turn-pass.result.0 c.knows.ensures c.knows-2.ensures c.args.t
    (turn.Turned c.in-Turned.field-0) h h.makes (λ e. cc) c.requires

pub returns-in-Back-clause-keeps : goal.returns-in-Back-clause-keeps
returns-in-Back-clause-keeps g c =
    turns_keeps g.B.Run.script g.B.Room.start c.args.pass c.turn-pass.result.0 c.args.t c.turn-pass.result.1 c.turn-pass.ensures.turns

pub returns-in-Back-clause-went : goal.returns-in-Back-clause-went
returns-in-Back-clause-went g c =
    let h = turns_at g.B.Run.script g.B.Room.start c.args.pass c.turn-pass.result.0 c.args.t c.turn-pass.result.1
    (turn.Back c.in-Back.field-0) (c.in-Ok.is ∙ ap Ok c.in-Back.is) c.turn-pass.ensures.turns in
    turns_on g.B.Run.script g.B.Room.start c.args.pass c.turn-pass.result.0 c.knows.ensures c.knows-2.ensures c.args.t
    (turn.Back c.in-Back.field-0) h h.makes (λ e. cc) c.requires

pub returns-in-Blocked-clause-keeps : goal.returns-in-Blocked-clause-keeps
returns-in-Blocked-clause-keeps g c =
    turns_keeps g.B.Run.script g.B.Room.start c.args.pass c.turn-pass.result.0 c.args.t c.turn-pass.result.1 c.turn-pass.ensures.turns

pub returns-in-Blocked-clause-went : goal.returns-in-Blocked-clause-went
returns-in-Blocked-clause-went g c =
    turns_blocked g.B.Run.script g.B.Room.start c.args.pass c.turn-pass.result.0 c.knows.ensures c.knows-2.ensures c.args.t
    c.in-Blocked.field-0 c.in-Blocked.field-1 (turns_at g.B.Run.script g.B.Room.start c.args.pass c.turn-pass.result.0 c.args.t
    c.turn-pass.result.1 (turn.Blocked c.in-Blocked.field-0 c.in-Blocked.field-1) (c.in-Ok.is ∙ ap Ok c.in-Blocked.is)
    c.turn-pass.ensures.turns)

pub returns-in-Ended-clause-keeps : goal.returns-in-Ended-clause-keeps
returns-in-Ended-clause-keeps g c =
    turns_keeps g.B.Run.script g.B.Room.start c.args.pass c.turn-pass.result.0 c.args.t c.turn-pass.result.1 c.turn-pass.ensures.turns

pub returns-in-Ended-clause-went : goal.returns-in-Ended-clause-went
returns-in-Ended-clause-went g c =
    turns_ended g.B.Run.script g.B.Room.start c.args.pass c.turn-pass.result.0 c.knows.ensures c.knows-2.ensures c.args.t
    (turns_at g.B.Run.script g.B.Room.start c.args.pass c.turn-pass.result.0 c.args.t c.turn-pass.result.1 (turn.Ended)
    (c.in-Ok.is ∙ ap Ok c.in-Ended.is) c.turn-pass.ensures.turns)

pub returns-in-Err-clause-keeps : goal.returns-in-Err-clause-keeps
returns-in-Err-clause-keeps g c =
    keeps_then g.B.Run.script g.B.Room.start c.args.pass c.turn-pass.result.0 c.stop-pass.result.0
    (turns_keeps g.B.Run.script g.B.Room.start c.args.pass c.turn-pass.result.0 c.args.t c.turn-pass.result.1 c.turn-pass.ensures.turns)
    c.stop-pass.ensures.keeps
