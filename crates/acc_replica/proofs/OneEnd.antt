-- Bytes lead to one state and one refusal.
use Rattle.std.proofs.Common.{◌≡◌, ◌⊎◌, ℕ, List, ◌∷◌, ◌++◌, length, Option, Some, None, inl, inr, refl, sym, ap, subst, ◌∙◌}
use Rattle.acc_base.specs.declared.designs.Design.{Design}
use Rattle.acc_base.specs.Machine.{World, start}
use Rattle.acc_print.specs.Designs.{printed}
use Rattle.acc_wal.specs.Items.{events_of}
use Rattle.acc_wal.specs.declared.items.Item.{Item}
use Rattle.acc_wal.specs.declared.items.Item.TheVariants.{Event, State}
use Rattle.acc_stream.specs.declared.faults.Fault.{Fault}
use Rattle.acc_stream.specs.declared.faults.Fault.TheVariants as faults
use Rattle.acc_stream.proofs.OneStream.{one_stream}
use Rattle.acc_replica.specs.declared.errors.ReplicaError.{ReplicaError}
use Rattle.acc_replica.specs.declared.errors.ReplicaError.TheVariants.{NotJournal, OtherVersion, OtherDesign, Damaged, Past, Unlawful}
use Rattle.acc_replica.specs.declared.errors.ReplicaError.TheVariants.{Differs, Memory}
use Rattle.acc_replica.specs.Coming.{Come}
use Rattle.acc_replica.specs.Ends.{HasAll, IsNextAt, Ends}
use Rattle.acc_replica.specs.Steps.{error_for}
use Rattle.acc_replica.proofs.Comings.{one_coming}
use Rattle.acc_replica.proofs.Stops.{IsOff, none_past, one_place}

-- what is told of a stream's fault, or of none
abbrev pub told_of : Option Fault → Option ReplicaError
told_of None = None
told_of (Some fault) = Some (error_for fault)

-- and of an item that doesn't come
abbrev pub off_error : Item → ℕ → ReplicaError
off_error (Event event) at = Unlawful at
off_error (State text) at = Differs at

-- all have come
pub record Finishes (d : Design) (fed : List ℕ) (x : Option ReplicaError) (here : World) : Type 0 where
  pub ended : Option Fault
  pub all : HasAll d fed ended here
  pub told : x ≡ told_of ended

-- or the next doesn't come
pub record Halts (d : Design) (fed : List ℕ) (x : Option ReplicaError) (here : World) : Type 0 where
  pub done : List Item
  pub item : Item
  pub next : IsNextAt d fed done item here
  pub off : IsOff d here item
  pub told : x ≡ Some (off_error item (length (events_of done)))

-- ---- both ways

pub finished : (d : Design) (fed : List ℕ) (fault : Fault) (here : World) → HasAll d fed (Some fault) here →
    Ends d fed (Some (error_for fault)) here
finished d fed faults.NotJournal here h = h
finished d fed (faults.OtherVersion version) here h = h
finished d fed faults.OtherBase here h = h
finished d fed (faults.Damaged place) here h = h
finished d fed (faults.Past place) here h = h

parted : (d : Design) (fed : List ℕ) (x : Option ReplicaError) (here : World) → Ends d fed x here → Finishes d fed x here ⊎ Halts d fed x here
parted d fed None here e = inl (record { ended = None; all = e; told = refl })
parted d fed (Some NotJournal) here e = inl (record { ended = Some faults.NotJournal; all = e; told = refl })
parted d fed (Some (OtherVersion version)) here e =
    inl (record { ended = Some (faults.OtherVersion version); all = e; told = refl })
parted d fed (Some OtherDesign) here e = inl (record { ended = Some faults.OtherBase; all = e; told = refl })
parted d fed (Some (Damaged place)) here e = inl (record { ended = Some (faults.Damaged place); all = e; told = refl })
parted d fed (Some (Past place)) here e = inl (record { ended = Some (faults.Past place); all = e; told = refl })
parted d fed (Some (Unlawful at)) here e = inr (record {
  done = e.done;
  item = Event e.event;
  next = e.next;
  off = e.unlawful;
  told = ap (λ n. Some (Unlawful n)) e.at_is;
})
parted d fed (Some (Differs place)) here e = inr (record {
  done = e.done;
  item = State e.text;
  next = e.next;
  off = e.other;
  told = ap (λ n. Some (Differs n)) e.place_is;
})
parted d fed (Some Memory) here e = absurd e

-- ---- one end

-- the same refusal, in the same state
abbrev Agree : Option ReplicaError → Option ReplicaError → World → World → Type 0
Agree x y a b = (x ≡ y) × (a ≡ b)

module _ (d : Design) (fed : List ℕ) (x y : Option ReplicaError) (a b : World) where
  both_finish : Finishes d fed x a → Finishes d fed y b → Agree x y a b
  both_finish p q =
      let one = one_stream (printed d) fed p.all.items q.all.items p.ended q.ended p.all.stream q.all.stream in (
        p.told ∙ ap told_of one.1 ∙ sym q.told,
        one_coming d p.all.items start a b p.all.come
            (subst (λ (l : List Item). Come d start l b) (sym one.0) q.all.come),
      )

  both_halt : Halts d fed x a → Halts d fed y b → Agree x y a b
  both_halt p q =
      let one = one_stream (printed d) fed (p.done ++ p.item ∷ p.next.later) (q.done ++ q.item ∷ q.next.later) p.next.whole.0 q.next.whole.0
      p.next.whole.1 q.next.whole.1 in
      let place = one_place d start a b p.done q.done p.item q.item p.next.later q.next.later p.next.come q.next.come p.off q.off one.0 in (
        p.told ∙ ap (λ (i : Item). Some (off_error i (length (events_of p.done)))) place.next
            ∙ ap (λ (l : List Item). Some (off_error q.item (length (events_of l)))) place.done ∙ sym q.told,
        place.here,
      )

one_goes_on : (d : Design) (fed : List ℕ) (x y : Option ReplicaError) (a b : World) → Finishes d fed x a → Halts d fed y b → ⊥
one_goes_on d fed x y a b p q =
    let one = one_stream (printed d) fed p.all.items (q.done ++ q.item ∷ q.next.later) p.ended q.next.whole.0 p.all.stream q.next.whole.1 in
    none_past d start b a q.done q.item q.next.later q.next.come q.off
    (subst (λ (l : List Item). Come d start l a) one.0 p.all.come)

pub one_end : (d : Design) (fed : List ℕ) (x y : Option ReplicaError) (a b : World) → Ends d fed x a → Ends d fed y b → (x ≡ y) × (a ≡ b)
one_end d fed x y a b p q = by (parted d fed x a p) (parted d fed y b q)
  where
    by : Finishes d fed x a ⊎ Halts d fed x a → Finishes d fed y b ⊎ Halts d fed y b → (x ≡ y) × (a ≡ b)
    by (inl f) (inl g) = both_finish d fed x y a b f g
    by (inl f) (inr g) = absurd (one_goes_on d fed x y a b f g)
    by (inr f) (inl g) = absurd (one_goes_on d fed y x b a g f)
    by (inr f) (inr g) = both_halt d fed x y a b f g
