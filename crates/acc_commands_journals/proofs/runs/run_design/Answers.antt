use Rattle.std.proofs.Common.{◌≡◌, ◌∙◌, inl, inr, refl, sym, subst}
use Rattle.acc_base.specs.declared.designs.Design.{Design}
use Rattle.acc_commands_inputs.specs.Admissions.{Admits, IsAcceptedWith}
use Rattle.acc_commands_inputs.specs.Refusals.{RefusesCertificate}
use Rattle.acc_commands_journals.specs.Disks.{Ends, OrUntouched}
use Rattle.acc_commands_journals.specs.RunFiles.{SaysBy, RunsBy, RunsCertified, ScriptRuns, AcceptedRuns}
use Rattle.acc_commands_journals.proofs.Disks.{runs_weaker, ends_untouched}
use Rattle.acc_commands_journals.proofs.runs.run_design.Goals as goal

pub returns-in-Ok-Accepted : goal.returns-in-Ok-Accepted
returns-in-Ok-Accepted g c =
    let certificate = c.args.certificate.now in
    let script = c.args.script.now in
    let disk = g.D.Disk in
    let says = SaysBy c.args.turns in
    let runs = RunsBy disk.clock disk.left_since disk.told disk.may_leave c.args.turns in
    let new = c.run_script.result in
    let accepted = c.insert-accepted.result.now in
    let admitted : (c.in-Ok-Accepted.accepted ≡ c.args.d) × IsAcceptedWith c.args.d certificate =
    subst (Admits c.args.d certificate) c.in-Ok-Accepted.field-0-is c.in-Ok-Accepted.ensures in
    let is : accepted ≡ c.args.d = c.insert-accepted.ensures.value ∙ admitted.0 in
    let by = subst (λ (d : Design). IsAcceptedWith d certificate) (sym is) admitted.1 in
    subst (λ (d : Design). Ends disk.told disk.may_leave disk.faults (RunsCertified says d certificate script)
    (OrUntouched (AcceptedRuns runs d certificate script))
    c.args.disk new.disk new.answer new.history new.settled) is
    (runs_weaker (ScriptRuns runs accepted script) (AcceptedRuns runs accepted certificate script)
    (λ old new t says. inr (record { accepted = by; says = says })) (λ runs. record { accepted = by; runs = runs }) c.run_script.ensures)

pub returns-in-Ok-Refused : goal.returns-in-Ok-Refused
returns-in-Ok-Refused g c =
    let d = c.args.d in
    let certificate = c.args.certificate.now in
    ends_untouched c.unrun.ensures.none c.unrun.ensures.disk c.unrun.ensures.answer
    (inl (
      refl,
      refl,
      subst (RefusesCertificate d certificate) (sym c.design_refused.ensures) (record {
        reports = subst (Admits d certificate) c.in-Ok-Refused.field-0-is c.in-Ok-Refused.ensures;
        ending = refl;
        history = refl;
      }),
    )) (inl (refl, refl, refl))

pub returns-in-Err : goal.returns-in-Err
returns-in-Err g c =
    ends_untouched c.unrun-in-Err.ensures.none c.unrun-in-Err.ensures.disk c.unrun-in-Err.ensures.answer tt (inl (refl, refl, refl))
