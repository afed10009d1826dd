use Rattle.acc_shared.proofs.Turning.{keeps_then, goes_then, looks_keeps, looks_same}
use Rattle.acc_shared.proofs.locked.Locked.went.Goals as goal

pub returns-in-Some-clause-keeps : goal.returns-in-Some-clause-keeps
returns-in-Some-clause-keeps g c = looks_keeps g.B.Run.script g.B.Room.start c.args.pass c.cause-pass.result.0 c.cause-pass.ensures.looks

pub returns-in-None-clause-keeps : goal.returns-in-None-clause-keeps
returns-in-None-clause-keeps g c =
    keeps_then g.B.Run.script g.B.Room.start c.args.pass c.cause-pass.result.0 c.turned.result.0
    (looks_keeps g.B.Run.script g.B.Room.start c.args.pass c.cause-pass.result.0 c.cause-pass.ensures.looks) c.turned.ensures.keeps

pub returns-in-None-clause-went : goal.returns-in-None-clause-went
returns-in-None-clause-went g c =
    goes_then g.B.Run.script g.B.Room.start c.args.pass c.cause-pass.result.0 c.turned.result.0 c.args.t c.turned.result.1
    (looks_same g.B.Run.script g.B.Room.start c.args.pass c.cause-pass.result.0 c.knows.ensures c.knows-2.ensures
    c.cause-pass.ensures.looks) c.turned.ensures.went

pub turned-requires : goal.turned-requires
turned-requires g c =
    ((looks_same g.B.Run.script g.B.Room.start c.args.pass c.cause-pass.result.0 c.knows.ensures c.knows-2.ensures
    c.cause-pass.ensures.looks) c.args.t).1 c.requires
