use Rattle.std.proofs.Common.{sym, subst}
use Rattle.acc_base.specs.declared.machines.Event.TheVariants.{Abort}
use Rattle.acc_plain.specs.Running.{Running}
use Rattle.acc_machine.specs.IndexedStates.{IsStateOf}
use Rattle.acc_machine.specs.Takes.{CanCome}
use Rattle.acc_machine.proofs.Behind.{comes_leave}
use Rattle.acc_machine.proofs.states.State.turn_back.Goals as goal

pub take-requires-clause-state : goal.take-requires-clause-state
take-requires-clause-state g c =
    subst (λ a. IsStateOf a c.self.inside.machine.design c.self.inside.machine.world c.self.inside.kept.index)
    (sym c.design-d.ensures.design) c.self.invariant

pub take-requires-clause-leave : goal.take-requires-clause-leave
take-requires-clause-leave g c =
    let m : Running = c.self.inside.machine in
    comes_leave m.design m.world (Abort c.args.t c.args.cause)
    (subst {A = Running} (λ (s : Running). CanCome s.design s.world (Abort c.args.t c.args.cause)) (sym c.self.view_is) c.requires.comes)

pub invariant_of-self : goal.invariant_of-self
invariant_of-self g c =
    subst (λ a. IsStateOf a c.take.new.machine.design c.take.new.machine.world c.take.new.kept.index) c.design-d.ensures.design
    c.take.ensures.state
