use Rattle.acc_shared.proofs.Turning.{looks_keeps}
use Rattle.acc_shared.proofs.locked.Locked.stop.Goals as goal

pub returns-clause-keeps : goal.returns-clause-keeps
returns-clause-keeps g c = looks_keeps g.B.Run.script g.B.Room.start c.args.pass c.halt.result c.halt.ensures.looks
