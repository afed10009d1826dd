use Rattle.std.proofs.Common.{subst, sym}
use Rattle.acc_elim_systems.specs.Systems.{IsParted}
use Rattle.acc_elim_systems.proofs.SystemSteps.{parted_more}
use Rattle.acc_elim_systems.proofs.systems.part.Goals as goal

pub loop-row-preserved : goal.loop-row-preserved
loop-row-preserved c =
    subst (IsParted c.args.unknown _) (sym c.in_ok-part_one.ensures)
    (parted_more c.args.unknown c.loop-row.yielded c.loop-row.parted c.in-Some.row c.loop-row.invariant)
