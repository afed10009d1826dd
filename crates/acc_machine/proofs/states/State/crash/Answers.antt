use Rattle.acc_plain.specs.Running.{Running}
use Rattle.acc_machine.proofs.Taking.{crash_comes}
use Rattle.acc_machine.proofs.states.State.crash.Goals as goal

pub turn_back-requires : goal.turn_back-requires
turn_back-requires g c =
    let s : Running = c.args.self.now in
    record { comes = crash_comes s.design s.world c.args.t c.requires.forward }
