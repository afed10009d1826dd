use Rattle.std.proofs.Common.{sym, subst}
use Rattle.acc_plain.specs.Running.{Running}
use Rattle.acc_machine.specs.IndexedStates.{IsStateOf}
use Rattle.acc_machine.specs.Takes.{GivesLeave}
use Rattle.acc_machine.proofs.states.State.take.Goals as goal

pub take-requires-clause-state : goal.take-requires-clause-state
take-requires-clause-state g c =
    subst (λ a. IsStateOf a c.self.inside.machine.design c.self.inside.machine.world c.self.inside.kept.index)
    (sym c.design-d.ensures.design) c.self.invariant

pub take-requires-clause-leave : goal.take-requires-clause-leave
take-requires-clause-leave g c =
    let m : Running = c.self.inside.machine in
    let told = subst {A = Running} (λ (s : Running). GivesLeave s.design s.world c.args.event.now c.has_leave.result) (sym c.self.view_is)
    c.has_leave.ensures in
    subst (GivesLeave m.design m.world c.args.event.now) c.if-not-has_leave.false told

pub invariant_of-self : goal.invariant_of-self
invariant_of-self g c =
    subst (λ a. IsStateOf a c.take.new.machine.design c.take.new.machine.world c.take.new.kept.index) c.design-d.ensures.design
    c.take.ensures.state
