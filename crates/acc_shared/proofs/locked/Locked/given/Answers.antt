use Rattle.acc_shared.proofs.Turning.{keeps_then, gives_then, looks_keeps, looks_same}
use Rattle.acc_shared.proofs.locked.Locked.given.Goals as goal

pub returns-in-Some-clause-keeps : goal.returns-in-Some-clause-keeps
returns-in-Some-clause-keeps g c = looks_keeps g.B.Run.script g.B.Room.start c.args.pass c.cause-pass.result.0 c.cause-pass.ensures.looks

pub returns-in-None-clause-keeps : goal.returns-in-None-clause-keeps
returns-in-None-clause-keeps g c =
    keeps_then g.B.Run.script g.B.Room.start c.args.pass c.cause-pass.result.0 c.drawn.result.0
    (looks_keeps g.B.Run.script g.B.Room.start c.args.pass c.cause-pass.result.0 c.cause-pass.ensures.looks) c.drawn.ensures.keeps

pub returns-in-None-clause-given : goal.returns-in-None-clause-given
returns-in-None-clause-given g c =
    gives_then g.B.Run.script g.B.Room.start c.args.pass c.cause-pass.result.0 c.drawn.result.0 c.drawn.result.1
    (looks_same g.B.Run.script g.B.Room.start c.args.pass c.cause-pass.result.0 c.knows.ensures c.knows-2.ensures
    c.cause-pass.ensures.looks) c.drawn.ensures.given
