use Rattle.std.proofs.Common.{sym, subst, List}
use Rattle.std.specs.Prelude.{Result, Ok, Err, IfOk}
use Rattle.acc_store.specs.declared.writes.Write.{Write}
use Rattle.acc_plain.specs.Reached.{IsReached}
use Rattle.acc_audit.specs.Since.{AreOf}
use Rattle.acc_audit.proofs.Moving.{of_step, of_undo}
use Rattle.acc_audit.proofs.writes.writes_of.Goals as goal

if_ok : {E : Type 0} (P Q : List Write → Type 0) → ((ws : List Write) → P ws → Q ws) → (r : Result (List Write) E) → IfOk r P → IfOk r Q
if_ok P Q f (Ok ws) h = f ws h
if_ok P Q f (Err e) h = tt

pub returns-in-Step : goal.returns-in-Step
returns-in-Step g c =
    let m = c.args.machine.now in
    if_ok _ (AreOf c.args.d.now m.world c.args.event.now)
    (λ ws are. subst (λ e. AreOf c.args.d.now m.world e ws) (sym c.in-Step.is)
    (of_step c.args.d.now m.world (subst (λ d. IsReached d m.world) c.requires.design c.events-run.ensures.run) c.requires.few ws c.in-Step.t
    are))
    c.step_writes.result c.step_writes.ensures

pub returns-in-Undo : goal.returns-in-Undo
returns-in-Undo g c =
    let m = c.args.machine.now in
    if_ok _ (AreOf c.args.d.now m.world c.args.event.now)
    (λ ws are. subst (λ e. AreOf c.args.d.now m.world e ws) (sym c.in-Undo.is)
    (of_undo c.args.d.now m.world (subst (λ d. IsReached d m.world) c.requires.design c.events-run.ensures.run) c.requires.few ws c.in-Undo.t
    are))
    c.step_writes-in-Undo.result c.step_writes-in-Undo.ensures
