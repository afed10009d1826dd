use Rattle.std.proofs.Common.{subst}
use Rattle.acc_plain.specs.Running.{Running}
use Rattle.acc_machine.specs.Kept.{IsKept}
use Rattle.acc_machine.proofs.Standing.{noted}
use Rattle.acc_machine.proofs.states.State.events.Goals as goal

pub returns-clause-annotated : goal.returns-clause-annotated
returns-clause-annotated g c =
    let s : Running = c.args.self.now in
    noted s.design s.world (subst {A = Running} (λ (z : Running). IsKept z.design z.world) c.self.view_is c.self.invariant.kept)
