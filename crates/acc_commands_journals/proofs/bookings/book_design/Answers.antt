use Rattle.std.proofs.Common.{◌≡◌, inl, inr, refl, sym, subst, ⊎_elim}
use Rattle.acc_base.specs.declared.designs.Design.{Design}
use Rattle.acc_commands_inputs.specs.Admissions.{Admits, IsAcceptedWith}
use Rattle.acc_commands_inputs.specs.Refusals.{RefusesCertificate}
use Rattle.acc_commands_inputs.specs.Texts.{IsDesignText}
use Rattle.acc_journalled.specs.Recoveries.{LeavesRecovery}
use Rattle.acc_print.specs.Designs.{printed}
use Rattle.acc_commands_journals.specs.BookingFiles.{say_seats, BooksCertified, ShippedLeft}
use Rattle.acc_commands_journals.specs.Disks.{Ends}
use Rattle.acc_commands_journals.specs.RecoverFiles.{LeavesAccepted, AcceptedLeft}
use Rattle.acc_commands_journals.proofs.Disks.{leaves_weaker, leaves_nothing, ends_weaker, ends_untouched}
use Rattle.acc_commands_journals.proofs.bookings.book_design.Goals as goal

pub book_accepted-requires : goal.book_accepted-requires
book_accepted-requires g c =
    let accepted = c.in-Ok-Accepted.accepted in
    let certificate = c.args.certificate.now in
    let admitted : (accepted ≡ c.args.d) × IsAcceptedWith c.args.d certificate =
    subst (Admits c.args.d certificate) c.in-Ok-Accepted.field-0-is c.in-Ok-Accepted.ensures in
    record { spelled = subst (λ (d : Design). IsDesignText (printed d) d) (sym admitted.0) c.requires.spelled }

pub returns-in-Ok-Accepted : goal.returns-in-Ok-Accepted
returns-in-Ok-Accepted g c =
    let accepted = c.in-Ok-Accepted.accepted in
    let certificate = c.args.certificate.now in
    let disk = g.D.Disk in
    let new = c.book_accepted.result in
    let admitted : (accepted ≡ c.args.d) × IsAcceptedWith c.args.d certificate =
    subst (Admits c.args.d certificate) c.in-Ok-Accepted.field-0-is c.in-Ok-Accepted.ensures in
    let by = subst (λ (d : Design). IsAcceptedWith d certificate) (sym admitted.0) admitted.1 in
    subst (λ (d : Design). Ends disk.told disk.may_leave disk.faults (BooksCertified d certificate)
    (AcceptedLeft disk.clock disk.left_since disk.told disk.may_leave disk.faults say_seats d certificate)
    c.args.disk new.disk new.answer new.history new.settled) admitted.0
    (ends_weaker
    {Leaves = ShippedLeft disk.clock disk.left_since disk.told disk.may_leave disk.faults accepted}
    (λ old new t says. inr (record { accepted = by; says = says }))
    (λ left. record {
      leaves = leaves_weaker (LeavesRecovery accepted) (LeavesAccepted accepted certificate) (λ file image left. inr (by, left)) left.leaves;
      tells = ⊎_elim (λ none. inl none) (⊎_elim (λ told. inr (inl (record { accepted = by; text = told.text; recovers = told.recovers })))
          (λ stops. inr (inr (record { accepted = by; durable = stops })))) left.tells;
    }) c.book_accepted.ensures)

pub returns-in-Ok-Refused : goal.returns-in-Ok-Refused
returns-in-Ok-Refused g c =
    let d = c.args.d in
    let certificate = c.args.certificate.now in
    ends_untouched c.unrun.ensures.none c.unrun.ensures.disk c.unrun.ensures.answer
    (inl (
      refl,
      refl,
      subst (RefusesCertificate d certificate) (sym c.design_refused.ensures) (record {
        reports = subst (Admits d certificate) c.in-Ok-Refused.field-0-is c.in-Ok-Refused.ensures;
        ending = refl;
        history = refl;
      }),
    ))
    (record {
      leaves = leaves_nothing (LeavesAccepted d certificate) (g.met.D.Disk.only_now c.args.disk) (λ file. inl refl);
      tells = inl (refl, refl);
    })

pub returns-in-Err : goal.returns-in-Err
returns-in-Err g c =
    ends_untouched c.unrun-in-Err.ensures.none c.unrun-in-Err.ensures.disk c.unrun-in-Err.ensures.answer tt
    (record {
      leaves = leaves_nothing (LeavesAccepted c.args.d c.args.certificate.now) (g.met.D.Disk.only_now c.args.disk) (λ file. inl refl);
      tells = inl (refl, refl);
    })
