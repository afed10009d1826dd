use Rattle.acc_shared.proofs.Turning.{keeps_then, looks_keeps, looks_same, settles_look}
use Rattle.acc_shared.proofs.locked.Locked.settle_ends.Goals as goal

pub returns-in-Ok-clause-keeps : goal.returns-in-Ok-clause-keeps
returns-in-Ok-clause-keeps g c =
    looks_keeps g.B.Run.script g.B.Room.start c.args.pass c.settle-pass.result.0
    (settles_look g.B.Run.script g.B.Room.start c.args.pass c.settle-pass.result.0 c.settle-pass.result.1 c.settle-pass.ensures.settles)

pub returns-in-Ok-clause-settled : goal.returns-in-Ok-clause-settled
returns-in-Ok-clause-settled g c =
    looks_same g.B.Run.script g.B.Room.start c.args.pass c.settle-pass.result.0 c.knows.ensures c.knows-2.ensures
    (settles_look g.B.Run.script g.B.Room.start c.args.pass c.settle-pass.result.0 c.settle-pass.result.1 c.settle-pass.ensures.settles)

pub returns-in-Err-clause-keeps : goal.returns-in-Err-clause-keeps
returns-in-Err-clause-keeps g c =
    keeps_then g.B.Run.script g.B.Room.start c.args.pass c.settle-pass.result.0 c.stop-pass.result.0
    (looks_keeps g.B.Run.script g.B.Room.start c.args.pass c.settle-pass.result.0
    (settles_look g.B.Run.script g.B.Room.start c.args.pass c.settle-pass.result.0 c.settle-pass.result.1 c.settle-pass.ensures.settles))
    c.stop-pass.ensures.keeps
