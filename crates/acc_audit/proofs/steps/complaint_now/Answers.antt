use Rattle.std.proofs.Common.{All, subst, sym}
use Rattle.acc_base.specs.Runnable.{IsSmallFrame}
use Rattle.acc_audit_trial.specs.Trials.{AreKeyed}
use Rattle.acc_audit.proofs.Keys.{run_keyed}
use Rattle.acc_audit.proofs.SmallFrames.{frames_small}
use Rattle.acc_audit.proofs.steps.complaint_now.Goals as goal

pub state_complaint-requires-clause-keyed : goal.state_complaint-requires-clause-keyed
state_complaint-requires-clause-keyed g c =
    let m = c.args.machine.now in
    subst AreKeyed (sym c.store.ensures) (run_keyed m.design m.world.events m.world c.events-run.ensures.run.run)

pub state_complaint-requires-clause-small : goal.state_complaint-requires-clause-small
state_complaint-requires-clause-small g c =
    let m = c.args.machine.now in
    subst (All IsSmallFrame) (sym c.unfinished.ensures) (frames_small m.design m.world c.events-run.ensures.run c.requires.few)
