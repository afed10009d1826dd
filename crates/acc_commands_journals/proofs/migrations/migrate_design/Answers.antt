use Rattle.std.proofs.Common.{◌≡◌, inl, inr, ⊎_elim, refl, sym, subst}
use Rattle.acc_io.specs.Causes.{Rose}
use Rattle.acc_base.specs.declared.designs.Design.{Design}
use Rattle.acc_commands_inputs.specs.Admissions.{Admits, IsAcceptedWith}
use Rattle.acc_commands_inputs.specs.Refusals.{RefusesCertificate}
use Rattle.acc_journalled.specs.Migrating.{LeavesMigrated}
use Rattle.acc_commands_journals.specs.Disks.{Ends}
use Rattle.acc_commands_journals.specs.MigrateFiles.{MigratesSeen, MigratesCertified, LeavesMigrating, MadeLeft}
use Rattle.acc_commands_journals.proofs.Disks.{leaves_weaker, leaves_nothing, ends_late, ends_untouched}
use Rattle.acc_commands_journals.proofs.JournalEndings.{migrating_late}
use Rattle.acc_commands_journals.proofs.migrations.migrate_design.Goals as goal

pub returns-in-Ok-Accepted : goal.returns-in-Ok-Accepted
returns-in-Ok-Accepted g c =
    let accepted = c.in-Ok-Accepted.accepted in
    let certificate = c.args.certificate.now in
    let source = c.args.old.now in
    let disk = g.D.Disk in
    let new = c.migrate_journal.result in
    let made = c.migrate_journal.ensures in
    let admitted : (accepted ≡ c.args.d) × IsAcceptedWith c.args.d certificate =
    subst (Admits c.args.d certificate) c.in-Ok-Accepted.field-0-is c.in-Ok-Accepted.ensures in
    let by = subst (λ (d : Design). IsAcceptedWith d certificate) (sym admitted.0) admitted.1 in
    subst (λ (d : Design). Ends disk.told disk.may_leave disk.faults (MigratesCertified d certificate source)
    (MadeLeft disk.clock disk.left_since disk.told disk.may_leave d certificate source)
    c.args.disk new.disk new.answer new.history new.settled) admitted.0
    (ends_late (MigratesSeen accepted source) (MigratesCertified accepted certificate source)
    (λ old new t. migrating_late accepted source old.told new.told (Rose old.faults new.faults) t)
    (λ old new t ends. inr (record { accepted = by; ends = ends })) made.answer
    (record {
      leaves = leaves_weaker (LeavesMigrated accepted source) (LeavesMigrating accepted certificate source) (λ file image left. inr (by, left))
          (record { moments = made.moments; left = made.left });
      tells = ⊎_elim (λ none. inl none) (λ tells. inr (record { accepted = by; text = tells.0; migrates = tells.1 })) made.recorded;
    }) made.calm made.faults)

pub returns-in-Ok-Refused : goal.returns-in-Ok-Refused
returns-in-Ok-Refused g c =
    let d = c.args.d in
    let certificate = c.args.certificate.now in
    ends_untouched c.unrun.ensures.none c.unrun.ensures.disk c.unrun.ensures.answer
    (inl (
      refl,
      refl,
      subst (RefusesCertificate d certificate) (sym c.design_refused.ensures) (record {
        reports = subst (Admits d certificate) c.in-Ok-Refused.field-0-is c.in-Ok-Refused.ensures;
        ending = refl;
        history = refl;
      }),
    ))
    (record {
      leaves = leaves_nothing (LeavesMigrating d certificate c.args.old.now) (g.met.D.Disk.only_now c.args.disk) (λ file. inl refl);
      tells = inl (refl, refl);
    })

pub returns-in-Err : goal.returns-in-Err
returns-in-Err g c =
    ends_untouched c.unrun-in-Err.ensures.none c.unrun-in-Err.ensures.disk c.unrun-in-Err.ensures.answer tt
    (record {
      leaves = leaves_nothing (LeavesMigrating c.args.d c.args.certificate.now c.args.old.now) (g.met.D.Disk.only_now c.args.disk)
          (λ file. inl refl);
      tells = inl (refl, refl);
    })
