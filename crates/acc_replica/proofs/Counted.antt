-- How many events the whole batches have, and those of a journal.
use Rattle.std.proofs.Common.{◌≡◌, ℕ, ◌+◌, List, ◌++◌, length, sym, ap, subst, ◌∙◌, length-append}
use Rattle.acc_base.specs.declared.designs.Design.{Design}
use Rattle.acc_base.specs.declared.machines.Event.{Event}
use Rattle.acc_print.specs.Designs.{printed}
use Rattle.acc_wal.specs.Items.{AreItems, events_of}
use Rattle.acc_wal.specs.Journals.{CountsAll}
use Rattle.acc_wal.specs.declared.items.Item.{Item}
use Rattle.acc_wal.specs.declared.items.Seal.{Seal}
use Rattle.acc_wal.proofs.Places.{events_append}
use Rattle.acc_stream.specs.Streams.{IsStream, AreWhole}
use Rattle.acc_stream.proofs.OneStream.{one_stream, counted_are_whole}
use Rattle.acc_replica.specs.Replicas.{Replicated, Follows}
use Rattle.acc_replica.proofs.Comings.{come_logs}

-- they are those that are done, and those that wait
pub all_events : (fed : List ℕ) (r : Replicated) (items : List Item) → Follows fed r → AreWhole (printed r.design) fed items →
    events_of items ≡ r.world.events ++ events_of r.stream.waiting
all_events fed r items f w =
    let s = f.stream.stream in
    let one = one_stream (printed r.design) fed items (f.done ++ r.stream.waiting) w.0 r.stream.ended w.1
    (subst (λ (b : List ℕ). IsStream b fed (f.done ++ r.stream.waiting) r.stream.ended) f.base_is s) in
    ap events_of one.0 ∙ events_append f.done r.stream.waiting
    ∙ ap (λ (l : List Event). l ++ events_of r.stream.waiting) (sym (come_logs r.design f.done r.world f.come))

pub count_all : (fed : List ℕ) (r : Replicated) (items : List Item) → Follows fed r → AreWhole (printed r.design) fed items →
    length (events_of items) ≡ length r.world.events + length (events_of r.stream.waiting)
count_all fed r items f w =
    ap length (all_events fed r items f w) ∙ length-append r.world.events (events_of r.stream.waiting)

pub counted_as_whole : (d : Design) (fed : List ℕ) (version : ℕ) (events : List Event) (seals : List Seal) (items : List Item) →
    CountsAll fed (printed d) version events seals → AreWhole (printed d) fed items → AreItems 0 items events seals
counted_as_whole d fed version events seals items c w =
    let counted = counted_are_whole (printed d) fed version c.items c.counts in
    let one = one_stream (printed d) fed c.items items counted.0 w.0 counted.1 w.1 in
    subst (λ (l : List Item). AreItems 0 l events seals) one.0 c.are
