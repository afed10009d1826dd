-- What a journal's bytes count has no more events than the bytes are.
use Rattle.std.proofs.Common.{ℕ, ◌≤◌, List, [], ◌∷◌, ◌++◌, length, ap, arith, length-append}
use Rattle.std.specs.List.{flat_map}
use Rattle.std.specs.Int.{w32, to_be_bytes}
use Rattle.acc_base.specs.declared.machines.Event.{Event as TheEvent}
use Rattle.acc_wal.specs.Spellings.{event_bytes}
use Rattle.acc_wal.specs.Items.{item_bytes, item_body, events_of}
use Rattle.acc_wal.specs.Journals.{batch, front, Counts, CountsAll}
use Rattle.acc_wal.specs.declared.items.Item.{Item}
use Rattle.acc_wal.specs.declared.items.Item.TheVariants.{Event, State}
use Rattle.acc_wal.specs.declared.items.Seal.{Seal}
use Rattle.acc_wal.proofs.Lengths.{at_least_five}
use Rattle.acc_wal.proofs.Places.{events_append}

pub counts_events : (bytes base : List ℕ) (version : ℕ) (events : List TheEvent) (seals : List Seal) → CountsAll bytes base version events seals
    → Counts bytes base events
counts_events bytes base version events seals all =
    record { version = version; items = all.items; counts = all.counts; events_are = all.are.events_are }

-- each event takes a byte at least
in_body : (items : List Item) → length (events_of items) ≤ length (item_body items)
unfolding item_body item_bytes
in_body [] = omega arith
in_body (Event e ∷ items) =
    omega (arith, in_body items, at_least_five e, length-append (event_bytes e) (flat_map item_bytes items))
in_body (State text ∷ items) =
    omega (arith, in_body items, length-append (5 ∷ to_be_bytes w32 (length text) ++ text) (flat_map item_bytes items))

in_batch : (items : List Item) → length (events_of items) ≤ length (batch items)
unfolding batch
in_batch items = omega (arith, in_body items, length-append (to_be_bytes w32 (length (item_body items))) (item_body items))

in_batches : (batches : List (List Item)) → length (events_of (flat_map (λ items. items) batches)) ≤ length (flat_map batch batches)
in_batches [] = omega arith
in_batches (items ∷ batches) =
    omega (
      arith,
      in_batch items,
      in_batches batches,
      ap length (events_append items (flat_map (λ items. items) batches)),
      length-append (events_of items) (events_of (flat_map (λ items. items) batches)),
      length-append (batch items) (flat_map batch batches),
    )

in_front : (version : ℕ) (base : List ℕ) (batches : List (List Item)) (rest : List ℕ)
    → length (flat_map batch batches) ≤ length (front version base batches ++ rest)
unfolding front
in_front version base batches rest =
    omega (
      arith,
      length-append (0xA5 ∷ version ∷ to_be_bytes w32 (length base) ++ base ++ flat_map batch batches) rest,
      length-append (to_be_bytes w32 (length base) ++ base) (flat_map batch batches),
    )

pub no_more_events : (bytes base : List ℕ) (events : List TheEvent) → Counts bytes base events → length events ≤ length bytes
no_more_events bytes base events c =
    omega (
      arith,
      ap length c.events_are,
      ap (λ (items : List Item). length (events_of items)) c.counts.items_are,
      in_batches c.counts.batches,
      in_front c.version base c.counts.batches c.counts.rest,
      ap length c.counts.bytes_are,
    )
