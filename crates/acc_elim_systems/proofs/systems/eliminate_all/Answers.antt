use Rattle.acc_elim_systems.proofs.Apart.{system_apart}
use Rattle.acc_elim_systems.proofs.systems.eliminate_all.Goals as goal

pub set_all_aside-requires : goal.set_all_aside-requires
set_all_aside-requires c = system_apart c.args.rows.items c.in_ok-system.system c.in_ok-system.ensures
