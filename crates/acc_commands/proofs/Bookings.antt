-- Where `booking verify` is done, the design is the shipped one, and nothing of the recovered rows is oversold.
use Rattle.std.proofs.Common.{◌≡◌, ℕ, List, inl, inr, refl, sym, subst, ◌∙◌}
use Rattle.acc_base.specs.declared.designs.Design.{Design}
use Rattle.acc_booking.specs.BookingText.{booking_design}
use Rattle.acc_booking.specs.Seats.{NothingOversold}
use Rattle.acc_formed.specs.WellFormed.{IsWellFormed}
use Rattle.acc_io.specs.Causes.{Rose}
use Rattle.acc_formed.proofs.Runs.{well_formed_runs}
use Rattle.acc_journalled.specs.declared.answers.Ending.TheVariants.{Done, DesignRefused}
use Rattle.acc_journalled.specs.Recovering.{Recovers, done_with}
use Rattle.acc_journalled.specs.Tellings.{Telling}
use Rattle.acc_journalled.proofs.Numbered.{recovered_steady}
use Rattle.acc_commands_journals.specs.Admissions.{IsAcceptedWith}
use Rattle.acc_commands_journals.specs.BookingFiles.{seats_text, say_seats, BooksSchema, BooksCertified, BooksFiles}
use Rattle.acc_commands_journals.specs.Bookings.{IsBooking}
use Rattle.acc_commands_journals.specs.Disks.{Seen}
use Rattle.acc_commands_journals.specs.RecoverFiles.{RecoversSeen}
use Rattle.acc_commands_journals.specs.Text.{said_in}
use Rattle.acc_commands_journals.specs.Texts.{IsDesignText}
use Rattle.acc_commands_journals.proofs.Booked.{shipped_by_text, shipped_never_oversells}
use Rattle.acc_commands_journals.proofs.JournalEndings.{other_end, refusal_ends, untold_done}

module _ (design certificate : List ℕ) (old new : Seen) (t : Telling) (done : t.ending ≡ Done) where
  -- the shipped design's journal is recovered, and nothing of it is oversold
  pub record Booked : Type 0 where
    pub is_text : IsDesignText design booking_design
    pub accepted : IsAcceptedWith booking_design certificate
    pub recovers : Recovers (say_seats booking_design) booking_design old.told new.told (done_with seats_text t.history t.settled)
    pub once : NothingOversold recovers.last.rows

  of_shipped :
      IsDesignText design booking_design → IsWellFormed booking_design → IsAcceptedWith booking_design certificate
      → Recovers (say_seats booking_design) booking_design old.told new.told t → Booked
  of_shipped is_text formed accepted r =
      let steady = recovered_steady booking_design r.found r.last
      (record { sound = accepted.sound; formed = formed; runnable = well_formed_runs booking_design formed }) r.recovery in
      record {
        is_text = is_text;
        accepted = accepted;
        recovers = record {
          found = r.found;
          counts = r.counts;
          sealed = r.sealed;
          last = r.last;
          recovery = r.recovery;
          idle = r.idle;
          compensated = r.compensated;
          unfinished_were = r.unfinished_were;
          holds = r.holds;
          grown = r.grown;
          says = (refl, refl, r.says.2, r.says.3);
        };
        once = shipped_never_oversells r.last.rows steady.rows r.idle;
      }

  of_design :
      (d : Design) → IsDesignText design d → IsWellFormed d → IsAcceptedWith d certificate → IsBooking d → RecoversSeen say_seats d old new t
      → Booked
  of_design d is_text formed accepted is (inl r) =
      let same : d ≡ booking_design = shipped_by_text design d is_text is in
      of_shipped (subst (IsDesignText design) same is_text) (subst IsWellFormed same formed)
      (subst (λ (d : Design). IsAcceptedWith d certificate) same accepted)
      (subst (λ (d : Design). Recovers (say_seats d) d old.told new.told t) same r)
  of_design d is_text formed accepted is (inr r) =
      absurd (untold_done d old.told new.told (Rose old.faults new.faults) t r done)

  pub booked : BooksFiles design certificate old new t → Booked
  booked (inl h) = absurd (other_end DesignRefused Done t (λ e. cc) (refusal_ends design (said_in t) h.2) done)
  booked (inr h) = certified h.says
    where
      schema : IsAcceptedWith h.d certificate → BooksSchema h.d old new t → Booked
      schema accepted (inl k) = absurd (other_end DesignRefused Done t (λ e. cc) k.2.says.0 done)
      schema accepted (inr k) = of_design h.d h.is_text h.formed accepted k.shipped k.ends

      certified : BooksCertified h.d certificate old new t → Booked
      certified (inl k) = absurd (other_end DesignRefused Done t (λ e. cc) k.2.ending done)
      certified (inr k) = schema k.accepted k.says
