use Rattle.std.proofs.Common.{subst}
use Rattle.acc_plain.specs.Running.{Running}
use Rattle.acc_machine.specs.Kept.{IsKept}
use Rattle.acc_machine.proofs.Standing.{rests}
use Rattle.acc_machine.proofs.states.State.unfinished.Goals as goal

pub returns-clause-idle : goal.returns-clause-idle
returns-clause-idle g c =
    let s : Running = c.args.self.now in
    rests s.design s.world (subst {A = Running} (λ (z : Running). IsKept z.design z.world) c.self.view_is c.self.invariant.kept)
