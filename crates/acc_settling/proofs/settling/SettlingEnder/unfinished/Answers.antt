use Rattle.std.proofs.Common.{subst}
use Rattle.acc_engine.specs.Standing.{IsSound}
use Rattle.acc_lock_rules.proofs.Living.{bounded, locks_live}
use Rattle.acc_settling.proofs.settling.SettlingEnder.unfinished.Goals as goal

pub returns-clause-lives : goal.returns-clause-lives
returns-clause-lives g c =
    let e = c.args.self.now in
    let sound = subst (IsSound g.D.Disk.told) c.self.view_is c.self.invariant in
    locks_live e.design e.state sound.kept.good.steady

pub returns-clause-few : goal.returns-clause-few
returns-clause-few g c =
    let e = c.args.self.now in
    let sound = subst (IsSound g.D.Disk.told) c.self.view_is c.self.invariant in
    bounded e.design e.state sound.kept.good
