use Rattle.std.proofs.Common.{inl, inr, refl, subst, ⊎_elim}
use Rattle.acc_journalled.specs.Recovering.{text_of}
use Rattle.acc_commands_inputs.specs.ReadDesigns.{IsRead, Reads}
use Rattle.acc_commands_journals.specs.RecoverFiles.{LeavesAccepted, AcceptedLeft, RecoverLeaves}
use Rattle.acc_commands_journals.proofs.Disks.{leaves_weaker, leaves_nothing, ends_weaker, ends_untouched}
use Rattle.acc_commands_journals.proofs.recoveries.recover_files.Goals as goal

pub returns-in-Ok-Read : goal.returns-in-Ok-Read
returns-in-Ok-Read g c =
    let disk = g.D.Disk in
    let d = c.in-Ok-Read.d in
    let design = c.args.files.design.now in
    let certificate = c.args.files.certificate.now in
    let read : IsRead design d = subst (Reads design) c.in-Ok-Read.field-0-is c.in-Ok-Read.ensures in
    ends_weaker
    {Leaves = AcceptedLeft disk.clock disk.left_since disk.told disk.may_leave disk.faults (text_of c.args.wanted) d certificate}
    (λ old new t says. inr (record { d = d; is_text = read.is_text; formed = read.formed; says = says }))
    (λ left. record {
      leaves = leaves_weaker (LeavesAccepted d certificate) (RecoverLeaves design certificate)
          (λ file image. ⊎_elim (λ same. inl same) (λ left. inr (record {
            d = d;
            is_text = read.is_text;
            formed = read.formed;
            accepted = left.0;
            left = left.1;
          }))) left.leaves;
      tells = ⊎_elim (λ none. inl none) (⊎_elim
          (λ told. inr (inl (record { d = d; is_text = read.is_text; formed = read.formed; tells = told })))
          (λ stops. inr (inr (record { d = d; is_text = read.is_text; formed = read.formed; stops = stops })))) left.tells;
    }) c.recover_design.ensures

pub returns-in-Ok-Refused : goal.returns-in-Ok-Refused
returns-in-Ok-Refused g c =
    let design = c.args.files.design.now in
    let certificate = c.args.files.certificate.now in
    ends_untouched c.unrun.ensures.none c.unrun.ensures.disk c.unrun.ensures.answer
    (inl (refl, refl, subst (Reads design) c.in-Ok-Refused.field-0-is c.in-Ok-Refused.ensures))
    (record {
      leaves = leaves_nothing (RecoverLeaves design certificate) (g.met.D.Disk.only_now c.args.disk) (λ file. inl refl);
      tells = inl (refl, refl);
    })

pub returns-in-Err : goal.returns-in-Err
returns-in-Err g c =
    ends_untouched c.unrun-in-Err.ensures.none c.unrun-in-Err.ensures.disk c.unrun-in-Err.ensures.answer tt
    (record {
      leaves = leaves_nothing (RecoverLeaves c.args.files.design.now c.args.files.certificate.now) (g.met.D.Disk.only_now c.args.disk)
          (λ file. inl refl);
      tells = inl (refl, refl);
    })
