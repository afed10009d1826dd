use Rattle.acc_booking.proofs.Reading.{is_text}
use Rattle.acc_booking.proofs.designs.shipped.Goals as goal

pub spelled-requires : goal.spelled-requires
spelled-requires c = is_text
