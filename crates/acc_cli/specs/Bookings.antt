-- What stands behind the answer of `booking verify`.
use Rattle.std.specs.Prelude.{◌≡◌, ℕ, List, [], ◌∷◌, Option}
use Rattle.acc_base.specs.declared.machines.Event.{Event}
use Rattle.acc_io.specs.Shelves.{Told}
use Rattle.acc_booking.specs.BookingText.{booking_design}
use Rattle.acc_booking.specs.Seats.{NothingOversold}
use Rattle.acc_journalled.specs.Recovering.{Recovers, done_with}
use Rattle.acc_commands.specs.Admissions.{IsAcceptedWith}
use Rattle.acc_commands.specs.BookingFiles.{seats_text, say_seats}
use Rattle.acc_commands.specs.Command.TheVariants as command
use Rattle.acc_commands.specs.Files.{AreFiles}
use Rattle.acc_commands.specs.Texts.{IsDesignText}
use Rattle.acc_commands.specs.Words.{files_of}

-- The files spell the shipped booking design, which is accepted with its certificate, and the disk held a journal of it. This is the
-- recovered history, all of it durable, and no flight and no rooms of the recovered rows are oversold.
pub record SellsOnce (held : List ℕ → Told) (words : List (List ℕ)) (told told' : Option (List ℕ)) (history : List Event) (settled : ℕ)
    : Type 0 where
  pub design : List ℕ
  pub certificate : List ℕ
  pub given : AreFiles held (files_of command.BookingVerify words) (design ∷ certificate ∷ [])
  pub is_text : IsDesignText design booking_design
  pub accepted : IsAcceptedWith booking_design certificate
  pub recovers : Recovers (say_seats booking_design) booking_design told told' (done_with seats_text history settled)
  pub once : NothingOversold recovers.last.rows
