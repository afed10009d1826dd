use Rattle.std.proofs.Common.{subst}
use Rattle.acc_base.specs.Invariant.{IsGood}
use Rattle.acc_lock_rules.proofs.Living.{bounded}
use Rattle.acc_lock_rules.proofs.Living.{locks_live}
use Rattle.acc_player.specs.Playing.{Playing}
use Rattle.acc_schedule.proofs.locked.LockedEnder.unfinished.Goals as goal

pub returns-clause-lives : goal.returns-clause-lives
returns-clause-lives c =
    let good = subst (λ (p : Playing). IsGood p.design p.world) c.self.view_is c.events-events.ensures.good in
    locks_live c.args.self.now.design c.args.self.now.world good.steady

pub returns-clause-few : goal.returns-clause-few
returns-clause-few c =
    bounded c.args.self.now.design c.args.self.now.world
    (subst (λ (p : Playing). IsGood p.design p.world) c.self.view_is c.events-events.ensures.good)
