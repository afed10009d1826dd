use Rattle.std.proofs.Common.{refl}
use Rattle.acc_commands_inputs.proofs.ReadBack.{text_reads_back}
use Rattle.acc_booking.specs.declared.texts.TheConstants.{SOURCE}
use Rattle.acc_booking.specs.BookingText.{booking_design}
use Rattle.acc_booking.proofs.Reading.{is_text}
use Rattle.acc_commands_files.proofs.workloads.print_booking.Goals as goal

pub returns-in-Ok : goal.returns-in-Ok
returns-in-Ok c = record {
  says = (refl, c.in-Ok.ensures, refl);
  same = text_reads_back SOURCE.now booking_design is_text;
}
