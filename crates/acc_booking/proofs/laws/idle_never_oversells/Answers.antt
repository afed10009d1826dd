use Rattle.acc_booking.specs.BookingText.{booking_design}
use Rattle.acc_booking.proofs.Reading.{has_booking}
use Rattle.acc_booking.proofs.Theorem.{keeps}
use Rattle.acc_booking.proofs.laws.idle_never_oversells.Goals as goal

pub returns : goal.returns
returns c = keeps booking_design has_booking
