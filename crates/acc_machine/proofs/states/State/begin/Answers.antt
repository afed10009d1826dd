use Rattle.std.proofs.Common.{sym, subst}
use Rattle.acc_plain.specs.Running.{Running}
use Rattle.acc_machine.specs.Begun.{HasRoom}
use Rattle.acc_machine.specs.IndexedStates.{IsStateOf}
use Rattle.acc_machine.proofs.states.State.begin.Goals as goal

pub begin-requires-clause-state : goal.begin-requires-clause-state
begin-requires-clause-state g c =
    subst (λ a. IsStateOf a c.self.inside.machine.design c.self.inside.machine.world c.self.inside.kept.index)
    (sym c.design-d.ensures.design) c.self.invariant

pub begin-requires-clause-room : goal.begin-requires-clause-room
begin-requires-clause-room g c = subst {A = Running} (λ (s : Running). HasRoom s.world) (sym c.self.view_is) c.in_ok-room.ensures

pub invariant_of-self : goal.invariant_of-self
invariant_of-self g c =
    subst (λ a. IsStateOf a c.begin.new.machine.design c.begin.new.machine.world c.begin.new.kept.index) c.design-d.ensures.design
    c.begin.ensures.state
