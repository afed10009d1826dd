use Rattle.acc_elim_stages.proofs.Extended.{laws}
use Rattle.acc_elim_known.proofs.known.known_of.Goals as goal

pub set_aside-requires : goal.set_aside-requires
set_aside-requires c = (laws c.loop-unknown.unknown c.args.rows.items c.loop-unknown.stage c.loop-unknown.invariant.stage).apart
