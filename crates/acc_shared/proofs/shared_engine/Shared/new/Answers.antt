use Rattle.acc_beside.proofs.Beside.{serves_first}
use Rattle.acc_shared.proofs.shared_engine.Shared.new.Goals as goal

pub new-requires-clause-serves : goal.new-requires-clause-serves
new-requires-clause-serves g c =
    serves_first g.D.Disk.clock g.D.Disk.left_since g.D.Disk.told g.D.Disk.may_leave g.D.Disk.faults g.met.D.Disk.only_now
    g.B.Run.script g.B.Room.start g.B.Run.engine c.args.engine c.requires.engine c.requires.start c.requires.script c.requires.places
    c.state-state.ensures.kept
