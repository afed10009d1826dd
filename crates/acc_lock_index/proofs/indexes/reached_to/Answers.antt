use Rattle.std.proofs.Common.{subst, sym, replicate, false}
use Rattle.acc_base.specs.declared.bounds.TheConstants.{MOST_POINTS}
use Rattle.acc_lock_index.specs.Indexed.{AreReached}
use Rattle.acc_lock_index.proofs.Keepers.{none_set}
use Rattle.acc_lock_index.proofs.indexes.reached_to.Goals as goal

pub returns-in-None : goal.returns-in-None
returns-in-None c =
    subst (λ o. AreReached c.args.d.now o (replicate MOST_POINTS false)) (sym c.in-None.is) (λ q. none_set MOST_POINTS q)
