use Rattle.acc_shared.proofs.Turning.{looks_keeps, looks_same}
use Rattle.acc_shared.proofs.shared_engine.SharedTurner.pause.Goals as goal

pub returns-clause-keeps : goal.returns-clause-keeps
returns-clause-keeps g c = looks_keeps g.B.Run.script g.B.Room.start c.args.token c.pause-pass.result c.pause-pass.ensures.looks

pub returns-clause-same : goal.returns-clause-same
returns-clause-same g c =
    looks_same g.B.Run.script g.B.Room.start c.args.token c.pause-pass.result c.knows.ensures c.knows-2.ensures c.pause-pass.ensures.looks
