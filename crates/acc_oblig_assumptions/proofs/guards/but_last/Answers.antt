use Rattle.acc_oblig_assumptions.proofs.GuardEnds.{front_is}
use Rattle.acc_oblig_assumptions.proofs.guards.but_last.Goals as goal

pub returns-in_default : goal.returns-in_default
returns-in_default c = front_is c.args.guard.now
