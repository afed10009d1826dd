use Rattle.std.proofs.Common.{◌≡◌, inl, inr, ⊎_elim, refl, sym, subst}
use Rattle.acc_io.specs.Causes.{Rose}
use Rattle.acc_base.specs.declared.designs.Design.{Design}
use Rattle.acc_commands_inputs.specs.Admissions.{Admits, IsAcceptedWith}
use Rattle.acc_journalled.specs.Recoveries.{LeavesRecovery}
use Rattle.acc_journalled.specs.Recovering.{text_of}
use Rattle.acc_commands_inputs.specs.Refusals.{RefusesCertificate}
use Rattle.acc_commands_journals.specs.Disks.{Ends}
use Rattle.acc_commands_journals.specs.RecoverFiles.{RecoversSeen, RecoversCertified, LeavesAccepted, AcceptedLeft}
use Rattle.acc_commands_journals.proofs.Disks.{leaves_weaker, leaves_nothing, ends_late, ends_untouched}
use Rattle.acc_commands_journals.proofs.JournalEndings.{recovering_late}
use Rattle.acc_commands_journals.proofs.recoveries.recover_design.Goals as goal

pub returns-in-Ok-Accepted : goal.returns-in-Ok-Accepted
returns-in-Ok-Accepted g c =
    let accepted = c.in-Ok-Accepted.accepted in
    let say = text_of c.args.wanted in
    let certificate = c.args.certificate.now in
    let disk = g.D.Disk in
    let new = c.recover_journal.result in
    let found = c.recover_journal.ensures in
    let admitted : (accepted ≡ c.args.d) × IsAcceptedWith c.args.d certificate =
    subst (Admits c.args.d certificate) c.in-Ok-Accepted.field-0-is c.in-Ok-Accepted.ensures in
    let by = subst (λ (d : Design). IsAcceptedWith d certificate) (sym admitted.0) admitted.1 in
    subst (λ (d : Design). Ends disk.told disk.may_leave disk.faults (RecoversCertified say d certificate)
    (AcceptedLeft disk.clock disk.left_since disk.told disk.may_leave disk.faults say d certificate)
    c.args.disk new.disk new.answer new.history new.settled) admitted.0
    (ends_late (RecoversSeen say accepted) (RecoversCertified say accepted certificate)
    (λ old new t. recovering_late (say accepted) accepted old.told new.told (Rose old.faults new.faults) t)
    (λ old new t ends. inr (record { accepted = by; ends = ends })) found.answer
    (record {
      leaves = leaves_weaker (LeavesRecovery accepted) (LeavesAccepted accepted certificate) (λ file image left. inr (by, left))
          (record { moments = found.moments; left = found.left });
      tells = ⊎_elim (λ none. inl none) (⊎_elim (λ told. inr (inl (record { accepted = by; text = told.0; recovers = told.1 })))
          (λ stops. inr (inr (record { accepted = by; durable = record { stops = stops; behind = found.behind } })))) found.recorded;
    }) found.calm found.faults)

pub returns-in-Ok-Refused : goal.returns-in-Ok-Refused
returns-in-Ok-Refused g c =
    let d = c.args.d in
    let certificate = c.args.certificate.now in
    ends_untouched c.unrun.ensures.none c.unrun.ensures.disk c.unrun.ensures.answer
    (inl (
      refl,
      refl,
      subst (RefusesCertificate d certificate) (sym c.design_refused.ensures) (record {
        reports = subst (Admits d certificate) c.in-Ok-Refused.field-0-is c.in-Ok-Refused.ensures;
        ending = refl;
        history = refl;
      }),
    ))
    (record {
      leaves = leaves_nothing (LeavesAccepted d certificate) (g.met.D.Disk.only_now c.args.disk) (λ file. inl refl);
      tells = inl (refl, refl);
    })

pub returns-in-Err : goal.returns-in-Err
returns-in-Err g c =
    ends_untouched c.unrun-in-Err.ensures.none c.unrun-in-Err.ensures.disk c.unrun-in-Err.ensures.answer tt
    (record {
      leaves = leaves_nothing (LeavesAccepted c.args.d c.args.certificate.now) (g.met.D.Disk.only_now c.args.disk) (λ file. inl refl);
      tells = inl (refl, refl);
    })
