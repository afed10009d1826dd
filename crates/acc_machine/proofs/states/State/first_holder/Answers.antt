use Rattle.std.proofs.Common.{sym, subst, ◌∙◌}
use Rattle.acc_base.specs.Machine.{unfinished}
use Rattle.acc_plain.specs.Running.{Running}
use Rattle.acc_lock_index.specs.Indexed.{StandsFor}
use Rattle.acc_machine.specs.IndexedStates.{IsIndexOf}
use Rattle.acc_machine.specs.Barred.{TellsBarred}
use Rattle.acc_machine.specs.Holders.{IsForward, TellsHolder}
use Rattle.acc_machine.proofs.Standing.{forward_fits}
use Rattle.acc_machine.proofs.Barrings.{barred_holder}
use Rattle.acc_machine.proofs.states.State.first_holder.Goals as goal

pub barred-requires-clause-fits : goal.barred-requires-clause-fits
barred-requires-clause-fits g c =
    (forward_fits c.self.inside.machine.design c.self.inside.machine.world c.self.invariant.kept c.args.f.now
    (subst {A = Running} (λ (s : Running). IsForward s.world c.args.f.now) (sym c.self.view_is) c.requires.forward)).fits

pub returns-in-Ok : goal.returns-in-Ok
returns-in-Ok g c =
    let m = c.self.inside.machine in
    let same = c.design.ensures.design ∙ c.self.invariant.same in
    let stand = subst (λ d. StandsFor d (unfinished m.world) c.in-Some.index.standings) (sym c.design.ensures.design)
    (subst (IsIndexOf c.self.inside.accepted.now (unfinished m.world)) c.in-Some.is c.self.invariant.stands) in
    let told = subst (λ d. TellsBarred d m.world.rows (unfinished m.world) c.args.f.now c.in-Ok.found) same
    (subst (λ db. TellsBarred c.design.result.now db (unfinished m.world) c.args.f.now c.in-Ok.found) c.store.ensures
    (c.in-Ok.ensures (unfinished m.world) stand)) in
    subst {A = Running} (λ (s : Running). TellsHolder s.design s.world c.args.f.now c.in-Ok.found) c.self.view_is
    (barred_holder m.design m.world c.self.invariant.kept.good.steady c.args.f.now c.in-Ok.found told)
