use Rattle.std.proofs.Common.{inl, inr, refl, subst, ⊎_elim}
use Rattle.acc_commands_inputs.specs.ReadDesigns.{IsRead, Reads}
use Rattle.acc_commands_journals.specs.MigrateFiles.{LeavesMigrating, MadeLeft, MigrateLeaves}
use Rattle.acc_commands_journals.proofs.Disks.{leaves_weaker, leaves_nothing, ends_weaker, ends_untouched}
use Rattle.acc_commands_journals.proofs.migrations.migrate_files.Goals as goal

pub returns-in-Ok-Read : goal.returns-in-Ok-Read
returns-in-Ok-Read g c =
    let disk = g.D.Disk in
    let d = c.in-Ok-Read.d in
    let design = c.args.files.design.now in
    let certificate = c.args.files.certificate.now in
    let source = c.args.files.old.now in
    let read : IsRead design d = subst (Reads design) c.in-Ok-Read.field-0-is c.in-Ok-Read.ensures in
    ends_weaker
    {Leaves = MadeLeft disk.clock disk.left_since disk.told disk.may_leave d certificate source}
    (λ old new t says. inr (record { d = d; is_text = read.is_text; formed = read.formed; says = says }))
    (λ left. record {
      leaves = leaves_weaker (LeavesMigrating d certificate source) (MigrateLeaves design certificate source)
          (λ file image. ⊎_elim (λ same. inl same) (λ left. inr (record {
            d = d;
            is_text = read.is_text;
            formed = read.formed;
            accepted = left.0;
            left = left.1;
          }))) left.leaves;
      tells = ⊎_elim (λ none. inl none) (λ tells. inr (record {
        d = d;
        is_text = read.is_text;
        formed = read.formed;
        tells = tells;
      })) left.tells;
    }) c.migrate_design.ensures

pub returns-in-Ok-Refused : goal.returns-in-Ok-Refused
returns-in-Ok-Refused g c =
    let design = c.args.files.design.now in
    let certificate = c.args.files.certificate.now in
    let source = c.args.files.old.now in
    ends_untouched c.unrun.ensures.none c.unrun.ensures.disk c.unrun.ensures.answer
    (inl (refl, refl, subst (Reads design) c.in-Ok-Refused.field-0-is c.in-Ok-Refused.ensures))
    (record {
      leaves = leaves_nothing (MigrateLeaves design certificate source) (g.met.D.Disk.only_now c.args.disk) (λ file. inl refl);
      tells = inl (refl, refl);
    })

pub returns-in-Err : goal.returns-in-Err
returns-in-Err g c =
    let design = c.args.files.design.now in
    let certificate = c.args.files.certificate.now in
    let source = c.args.files.old.now in
    ends_untouched c.unrun-in-Err.ensures.none c.unrun-in-Err.ensures.disk c.unrun-in-Err.ensures.answer tt
    (record {
      leaves = leaves_nothing (MigrateLeaves design certificate source) (g.met.D.Disk.only_now c.args.disk) (λ file. inl refl);
      tells = inl (refl, refl);
    })
