-- How many of some items are events.
use Rattle.std.proofs.Common.{◌≡◌, ◌+◌, ◌≤◌, List, [], ◌∷◌, ◌++◌, length, ap, ◌∙◌, arith, length-append}
use Rattle.acc_wal.specs.Items.{events_of}
use Rattle.acc_wal.specs.declared.items.Item.{Item}
use Rattle.acc_wal.specs.declared.items.Item.TheVariants.{Event, State}
use Rattle.acc_wal.proofs.Places.{events_append}

-- no more than there are items
pub events_few : (items : List Item) → length (events_of items) ≤ length items
events_few [] = omega arith
events_few (Event event ∷ items) = omega (arith, events_few items)
events_few (State text ∷ items) = omega (arith, events_few items)

-- of two lists together, as many as of both
pub events_both : (a b : List Item) → length (events_of (a ++ b)) ≡ length (events_of a) + length (events_of b)
events_both a b = ap length (events_append a b) ∙ length-append (events_of a) (events_of b)
