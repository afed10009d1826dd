-- The states of a journal, and histories that go on from its events.
use Rattle.std.proofs.Common.{◌≤◌, ◌+◌, ℕ, suc, List, [], ◌∷◌, ◌++◌, length, get_or, sym, ap, subst, arith}
use Rattle.std.specs.Prelude.{All}
use Rattle.std.proofs.lemmas.List.{take-append-le}
use Rattle.std.proofs.lemmas.List.Elements.{All-nil, All-cons, All-weaker}
use Rattle.acc_base.specs.declared.designs.Design.{Design}
use Rattle.acc_base.specs.declared.machines.Event.{Event}
use Rattle.acc_base.specs.Machine.{start}
use Rattle.acc_base.specs.Lawful.{LeadLawfully}
use Rattle.acc_wal.specs.Items.{events_of, seals_of}
use Rattle.acc_wal.specs.Journals.{Counts, CountsAll}
use Rattle.acc_wal.specs.declared.items.Item.{Item}
use Rattle.acc_wal.specs.declared.items.Item.TheVariants.{Event as EventItem, State}
use Rattle.acc_wal.specs.declared.items.Seal.{Seal}
use Rattle.acc_recover.specs.Seals.{IsSealOf, AreSealsOf}

-- the events alone
pub events_counted : (file base : List ℕ) (version : ℕ) (events : List Event) (seals : List Seal)
    → CountsAll file base version events seals → Counts file base events
events_counted file base version events seals c =
    record { version = version; items = c.items; counts = c.counts; events_are = c.are.events_are }

-- ---- no state stands past the last event

abbrev pub StandsWithin : ℕ → Seal → Type 0
StandsWithin count seal = seal.place ≤ count

items_within : (place : ℕ) (items : List Item) → All (StandsWithin (place + length (events_of items))) (seals_of place items)
items_within place [] = All-nil (StandsWithin (place + 0))
items_within place (EventItem event ∷ items) =
    All-weaker (StandsWithin (suc place + length (events_of items))) (StandsWithin (place + suc (length (events_of items))))
    (λ seal le. omega (arith, le)) (seals_of (suc place) items) (items_within (suc place) items)
items_within place (State text ∷ items) =
    All-cons (StandsWithin (place + length (events_of items))) (record { place = place; text = text }) (seals_of place items) (omega arith)
    (items_within place items)

pub counted_within : (file base : List ℕ) (version : ℕ) (events : List Event) (seals : List Seal)
    → CountsAll file base version events seals → All (StandsWithin (length events)) seals
counted_within file base version events seals c =
    subst (λ (l : List Seal). All (StandsWithin (length events)) l) (sym c.are.seals_are)
    (All-weaker (StandsWithin (0 + length (events_of c.items))) (StandsWithin (length events))
    (λ seal le. omega (arith, le, ap length c.are.events_are)) (seals_of 0 c.items) (items_within 0 c.items))

-- ---- a state of a history is one of each history that goes on from it

pub seal_goes_on : (d : Design) (events more : List Event) (seal : Seal) → seal.place ≤ length events → IsSealOf d events seal
    → IsSealOf d (events ++ more) seal
seal_goes_on d events more seal within is = record {
  here = is.here;
  comes = subst (λ (es : List Event). LeadLawfully d start es is.here) (sym (take-append-le seal.place events more within)) is.comes;
  is = is.is;
}

pub seals_go_on : (d : Design) (events more : List Event) (seals : List Seal) → All (StandsWithin (length events)) seals
    → AreSealsOf d events seals → AreSealsOf d (events ++ more) seals
seals_go_on d events more seals within are =
    λ i x low. seal_goes_on d events more (get_or seals i x) (within i x low) (are i x low)
