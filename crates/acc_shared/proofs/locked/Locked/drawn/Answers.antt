use Rattle.std.proofs.Common.{ap, ◌∙◌, Ok}
use Rattle.acc_engine.specs.declared.errors.Drawn.TheVariants as drawn
use Rattle.acc_workers.specs.declared.turners.Why.TheVariants as why
use Rattle.acc_shared.proofs.Turning.{keeps_then, looks_keeps, draws_keeps, draws_at, draws_begun, draws_empty, draws_full, draws_crowd}
use Rattle.acc_shared.proofs.locked.Locked.drawn.Goals as goal

pub returns-in-Begun-clause-keeps : goal.returns-in-Begun-clause-keeps
returns-in-Begun-clause-keeps g c =
    draws_keeps g.B.Run.script g.B.Room.start c.args.pass c.draw-pass.result.0 c.draw-pass.result.1 c.draw-pass.ensures.draws

pub returns-in-Begun-clause-given : goal.returns-in-Begun-clause-given
returns-in-Begun-clause-given g c =
    draws_begun g.B.Run.script g.B.Room.start c.args.pass c.draw-pass.result.0 c.knows.ensures c.knows-2.ensures c.in-Begun.t
    (draws_at g.B.Run.script g.B.Room.start c.args.pass c.draw-pass.result.0 c.draw-pass.result.1 (drawn.Begun c.in-Begun.t)
    (c.in-Ok.is ∙ ap Ok c.in-Begun.is) c.draw-pass.ensures.draws)

pub returns-in-Empty-clause-keeps : goal.returns-in-Empty-clause-keeps
returns-in-Empty-clause-keeps g c =
    draws_keeps g.B.Run.script g.B.Room.start c.args.pass c.draw-pass.result.0 c.draw-pass.result.1 c.draw-pass.ensures.draws

pub returns-in-Empty-clause-given : goal.returns-in-Empty-clause-given
returns-in-Empty-clause-given g c =
    draws_empty g.B.Run.script g.B.Room.start c.args.pass c.draw-pass.result.0 c.knows.ensures c.knows-2.ensures
    (draws_at g.B.Run.script g.B.Room.start c.args.pass c.draw-pass.result.0 c.draw-pass.result.1 (drawn.Empty)
    (c.in-Ok.is ∙ ap Ok c.in-Empty.is) c.draw-pass.ensures.draws)

pub returns-in-Full-clause-keeps : goal.returns-in-Full-clause-keeps
returns-in-Full-clause-keeps g c =
    keeps_then g.B.Run.script g.B.Room.start c.args.pass c.draw-pass.result.0 c.halt.result
    (draws_keeps g.B.Run.script g.B.Room.start c.args.pass c.draw-pass.result.0 c.draw-pass.result.1 c.draw-pass.ensures.draws)
    (looks_keeps g.B.Run.script g.B.Room.start c.draw-pass.result.0 c.halt.result c.halt.ensures.looks)

pub halt-requires : goal.halt-requires
halt-requires g c =
    draws_full g.B.Run.script g.B.Room.start c.args.pass c.draw-pass.result.0
    (draws_at g.B.Run.script g.B.Room.start c.args.pass c.draw-pass.result.0 c.draw-pass.result.1 (drawn.Full)
    (c.in-Ok.is ∙ ap Ok c.in-Full.is) c.draw-pass.ensures.draws)

pub returns-in-Crowd-clause-keeps : goal.returns-in-Crowd-clause-keeps
returns-in-Crowd-clause-keeps g c =
    keeps_then g.B.Run.script g.B.Room.start c.args.pass c.draw-pass.result.0 c.halt-in-Crowd.result
    (draws_keeps g.B.Run.script g.B.Room.start c.args.pass c.draw-pass.result.0 c.draw-pass.result.1 c.draw-pass.ensures.draws)
    (looks_keeps g.B.Run.script g.B.Room.start c.draw-pass.result.0 c.halt-in-Crowd.result c.halt-in-Crowd.ensures.looks)

pub halt-requires-in-Crowd : goal.halt-requires-in-Crowd
halt-requires-in-Crowd g c =
    draws_crowd g.B.Run.script g.B.Room.start c.args.pass c.draw-pass.result.0
    (draws_at g.B.Run.script g.B.Room.start c.args.pass c.draw-pass.result.0 c.draw-pass.result.1 (drawn.Crowd)
    (c.in-Ok.is ∙ ap Ok c.in-Crowd.is) c.draw-pass.ensures.draws)

pub returns-in-Err-clause-keeps : goal.returns-in-Err-clause-keeps
returns-in-Err-clause-keeps g c =
    keeps_then g.B.Run.script g.B.Room.start c.args.pass c.draw-pass.result.0 c.stop-pass.result.0
    (draws_keeps g.B.Run.script g.B.Room.start c.args.pass c.draw-pass.result.0 c.draw-pass.result.1 c.draw-pass.ensures.draws)
    c.stop-pass.ensures.keeps

pub returns-in-Crowd-clause-given : goal.returns-in-Crowd-clause-given
returns-in-Crowd-clause-given g c =
    (looks_keeps g.B.Run.script g.B.Room.start c.draw-pass.result.0 c.halt-in-Crowd.result c.halt-in-Crowd.ensures.looks).1 why.Crowd
    (draws_crowd g.B.Run.script g.B.Room.start c.args.pass c.draw-pass.result.0
    (draws_at g.B.Run.script g.B.Room.start c.args.pass c.draw-pass.result.0 c.draw-pass.result.1 (drawn.Crowd)
    (c.in-Ok.is ∙ ap Ok c.in-Crowd.is) c.draw-pass.ensures.draws))
