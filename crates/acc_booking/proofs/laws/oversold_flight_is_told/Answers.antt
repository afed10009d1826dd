use Rattle.std.proofs.Common.{refl}
use Rattle.acc_booking.proofs.laws.oversold_flight_is_told.Goals as goal

pub returns : goal.returns
returns c = record { flight = refl; nothing = refl }
