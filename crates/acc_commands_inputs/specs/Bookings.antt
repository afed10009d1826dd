-- A design that is looked at whether it is the shipped booking design.
use Rattle.std.specs.Prelude.{◌≡◌, codes}
use Rattle.acc_base.specs.Lines.{line}
use Rattle.acc_base.specs.declared.designs.Design.{Design}
use Rattle.acc_print.specs.Designs.{printed}
use Rattle.acc_booking.specs.BookingText.{booking_design}
use Rattle.acc_journalled.specs.declared.answers.Ending.TheVariants.{DesignRefused}
use Rattle.acc_commands_inputs.specs.declared.bookings.FoundBooking.{FoundBooking}
use Rattle.acc_commands_inputs.specs.declared.bookings.FoundBooking.TheVariants.{Found, Refused}
use Rattle.acc_commands_inputs.specs.Answers.{said_alone}
use Rattle.acc_commands_inputs.specs.Text.{Said, Says}

-- it has the printed text of the shipped booking design
abbrev pub IsBooking : Design → Type 0
IsBooking d = printed d ≡ printed booking_design

-- it isn't the shipped booking design
pub record RefusesBooking (d : Design) (said : Said) : Type 0 where
  pub other : ¬ IsBooking d
  pub says : Says DesignRefused (line (codes "refused schema 1")) said

abbrev pub FindsBooking : Design → FoundBooking → Type 0
FindsBooking d Found = IsBooking d
FindsBooking d (Refused a) = RefusesBooking d (said_alone a)
