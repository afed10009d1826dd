use Rattle.acc_wal.proofs.Places.{same_items}
use Rattle.acc_wal.proofs.laws.places_tell_items.Goals as goal

pub returns : goal.returns
returns c a b p q = same_items 0 a b p q
