use Rattle.std.proofs.Common.{inl, inr, ⊎_elim, refl, subst}
use Rattle.acc_base.specs.declared.designs.Design.{Design}
use Rattle.acc_commands_inputs.specs.Answers.{said_alone}
use Rattle.acc_commands_inputs.specs.Bookings.{IsBooking, RefusesBooking, FindsBooking}
use Rattle.acc_io.specs.Causes.{Rose}
use Rattle.acc_journalled.specs.Recoveries.{LeavesRecovery}
use Rattle.acc_commands_journals.specs.BookingFiles.{say_seats, BooksSchema}
use Rattle.acc_commands_journals.specs.RecoverFiles.{RecoversSeen}
use Rattle.acc_commands_journals.proofs.Booked.{is_shipped}
use Rattle.acc_commands_journals.proofs.Disks.{leaves_nothing, ends_late, ends_untouched}
use Rattle.acc_commands_journals.proofs.JournalEndings.{recovering_late}
use Rattle.acc_commands_journals.proofs.bookings.book_accepted.Goals as goal

-- the design that is looked at is the accepted one
pub book_journal-requires : goal.book_journal-requires
book_journal-requires g c =
    let d = c.args.accepted.now in
    record {
      shipped =
          is_shipped d c.requires.spelled
          (subst IsBooking c.design.ensures.design (subst (FindsBooking c.design.result.now) c.in-Ok-Found.field-0-is c.in-Ok-Found.ensures));
    }

pub returns-in-Ok-Found : goal.returns-in-Ok-Found
returns-in-Ok-Found g c =
    let d = c.args.accepted.now in
    let found = c.book_journal.ensures in
    let is : IsBooking d =
    subst IsBooking c.design.ensures.design (subst (FindsBooking c.design.result.now) c.in-Ok-Found.field-0-is c.in-Ok-Found.ensures) in
    ends_late (RecoversSeen say_seats d) (BooksSchema d)
    (λ old new t. recovering_late (say_seats d) d old.told new.told (Rose old.faults new.faults) t)
    (λ old new t ends. inr (record { shipped = is; ends = ends })) found.answer
    (record {
      leaves = record { moments = found.moments; left = found.left };
      tells = ⊎_elim (λ none. inl none) (⊎_elim (λ told. inr (inl (record { text = told.0; recovers = told.1 })))
          (λ stops. inr (inr (record { stops = stops; behind = found.behind })))) found.recorded;
    }) found.calm found.faults

pub returns-in-Ok-Refused : goal.returns-in-Ok-Refused
returns-in-Ok-Refused g c =
    let d = c.args.accepted.now in
    ends_untouched c.unrun.ensures.none c.unrun.ensures.disk c.unrun.ensures.answer
    (inl (
      refl,
      refl,
      subst (λ (d : Design). RefusesBooking d (said_alone c.in-Ok-Refused.answer)) c.design.ensures.design
          (subst (FindsBooking c.design.result.now) c.in-Ok-Refused.field-0-is c.in-Ok-Refused.ensures),
    ))
    (record {
      leaves = leaves_nothing (LeavesRecovery d) (g.met.D.Disk.only_now c.args.disk) (λ file. inl refl);
      tells = inl (refl, refl);
    })

pub returns-in-Err : goal.returns-in-Err
returns-in-Err g c =
    ends_untouched c.unrun-in-Err.ensures.none c.unrun-in-Err.ensures.disk c.unrun-in-Err.ensures.answer tt
    (record {
      leaves = leaves_nothing (LeavesRecovery c.args.accepted.now) (g.met.D.Disk.only_now c.args.disk) (λ file. inl refl);
      tells = inl (refl, refl);
    })
