-- The command booking verify: the journal of the shipped booking design, which is accepted with its certificate, is recovered, and it is
-- told that no seat and no room is sold twice.
use Rattle.std.specs.Prelude.{◌⊎◌, ◌++◌, ℕ, List, Option, codes}
use Rattle.acc_base.specs.Lines.{line}
use Rattle.acc_base.specs.declared.designs.Design.{Design}
use Rattle.acc_base.specs.declared.machines.Event.{Event}
use Rattle.acc_formed.specs.WellFormed.{IsWellFormed}
use Rattle.acc_commands_inputs.specs.Admissions.{IsAcceptedWith}
use Rattle.acc_commands_inputs.specs.Bookings.{IsBooking, RefusesBooking}
use Rattle.acc_commands_inputs.specs.Refusals.{RefusesDesign, RefusesCertificate}
use Rattle.acc_commands_inputs.specs.Texts.{IsDesignText}
use Rattle.acc_journalled.specs.Recoveries.{LeavesRecovery}
use Rattle.acc_journalled.specs.Recovering.{Recovers, done_with}
use Rattle.acc_journalled.specs.Tellings.{Telling}
use Rattle.acc_commands_journals.specs.Disks.{Seen, WithoutDisk, LeavesSo}
use Rattle.acc_commands_journals.specs.RecoverFiles.{Saying, RecoversSeen, TellsNoneOr, StopsDurable}

abbrev pub seats_text : List ℕ
seats_text = line (codes "seats true") ++ line (codes "rooms true")

-- whatever the recovered state, since by the law of the design nothing of its rows is oversold
abbrev pub say_seats : Saying
say_seats d w compensated = seats_text

-- the design is the shipped booking design, and then the disk decides
pub record BooksShipped (d : Design) (old new : Seen) (t : Telling) : Type 0 where
  pub shipped : IsBooking d
  pub ends : RecoversSeen say_seats d old new t

abbrev pub BooksSchema : Design → Seen → Seen → Telling → Type 0
BooksSchema d old new t = WithoutDisk (RefusesBooking d) old new t ⊎ BooksShipped d old new t

-- the design is accepted with the certificate, and so it is sound, and then it is looked whether it is the shipped one
pub record BooksAccepted (d : Design) (certificate : List ℕ) (old new : Seen) (t : Telling) : Type 0 where
  pub accepted : IsAcceptedWith d certificate
  pub says : BooksSchema d old new t

abbrev pub BooksCertified : Design → List ℕ → Seen → Seen → Telling → Type 0
BooksCertified d certificate old new t =
    WithoutDisk (RefusesCertificate d certificate) old new t ⊎ BooksAccepted d certificate old new t

-- the text is that of this design, which is well-formed, and then the certificate decides
pub record BooksDesign (design certificate : List ℕ) (old new : Seen) (t : Telling) : Type 0 where
  pub d : Design
  pub is_text : IsDesignText design d
  pub formed : IsWellFormed d
  pub says : BooksCertified d certificate old new t

-- the order of the refusals: the design, the certificate, that the design is another, the journal
abbrev pub BooksFiles : List ℕ → List ℕ → Seen → Seen → Telling → Type 0
BooksFiles design certificate old new t =
    WithoutDisk (RefusesDesign design) old new t ⊎ BooksDesign design certificate old new t

-- the recovered history of an accepted design's journal, of which something can be said
pub record TellsShipped (d : Design) (told told' : Option (List ℕ)) (history : List Event) (settled : ℕ) : Type 0 where
  pub text : List ℕ
  pub recovers : Recovers (say_seats d) d told told' (done_with text history settled)

-- what a crash leaves of an accepted design's journal, and no event is told or the recovered history, likewise
pub record ShippedLeft {D : Type 0} (clock : D → ℕ) (left_since : D → ℕ → List ℕ → Type 0) (told : D → Option (List ℕ))
    (may_leave : D → List ℕ → Type 0) (faults : D → ℕ) (d : Design) (old new : D) (history : List Event) (settled : ℕ) : Type 0 where
  pub leaves : LeavesSo clock left_since told may_leave (LeavesRecovery d) old new
  pub tells : TellsNoneOr
      (TellsShipped d (told old) (told new) history settled ⊎ StopsDurable told may_leave faults d old new history settled) history settled
