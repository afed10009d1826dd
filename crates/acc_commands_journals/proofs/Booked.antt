-- The shipped booking design: which design has its printed text, and that nothing of it is oversold.
use Rattle.std.proofs.Common.{◌≡◌, List, ℕ, sym, subst}
use Rattle.acc_base.specs.declared.designs.Design.{Design}
use Rattle.acc_booking.specs.BookingText.{booking_design}
use Rattle.acc_booking.specs.Law.{NeverOversells}
use Rattle.acc_booking.specs.declared.texts.TheConstants.{SOURCE}
use Rattle.acc_booking.proofs.Reading.{has_booking, is_text}
use Rattle.acc_booking.proofs.Theorem.{keeps}
use Rattle.acc_commands_inputs.specs.Bookings.{IsBooking}
use Rattle.acc_commands_inputs.specs.Texts.{IsDesignText}
use Rattle.acc_commands_inputs.proofs.OneDesign.{one_design}
use Rattle.acc_commands_inputs.proofs.ReadBack.{text_reads_back}
use Rattle.acc_print.specs.Designs.{printed}

-- a design that is read from its printed text, which is that of the shipped one, is the shipped one
pub is_shipped : (d : Design) → IsDesignText (printed d) d → IsBooking d → d ≡ booking_design
is_shipped d spelled is =
    one_design (printed d) d booking_design spelled
    (subst (λ (text : List ℕ). IsDesignText text booking_design) (sym is) (text_reads_back SOURCE.now booking_design is_text))

pub shipped_by_text : (design : List ℕ) (d : Design) → IsDesignText design d → IsBooking d → d ≡ booking_design
shipped_by_text design d is_text is = is_shipped d (text_reads_back design d is_text) is

pub shipped_never_oversells : NeverOversells booking_design
shipped_never_oversells = keeps booking_design has_booking
