use Rattle.std.proofs.Common.{subst, sym}
use Rattle.acc_plain.specs.Running.{Running}
use Rattle.acc_machine.specs.Takes.{GivesLeave}
use Rattle.acc_machine.proofs.Taking.{step_leave}
use Rattle.acc_machine.proofs.states.State.has_leave.Goals as goal

pub returns-in-Step : goal.returns-in-Step
returns-in-Step g c =
    let s : Running = c.args.self.now in
    subst (λ e. GivesLeave s.design s.world e c.is_none.result) (sym c.in-Step.is)
    (step_leave s.design s.world _ c.held_at.result c.is_none.result c.held_at.ensures c.is_none.ensures)
