-- Items that come one after the other.
use Rattle.std.proofs.Common.{◌≡◌, ℕ, suc, List, [], ◌∷◌, ◌++◌, length, refl, sym, subst, ◌∙◌, append_assoc, arith, length-append}
use Rattle.std.proofs.lemmas.Option.{same_Some}
use Rattle.std.proofs.lemmas.List.{take_at}
use Rattle.std.proofs.lemmas.List.Elements.{All-nil, All-cons}
use Rattle.acc_base.specs.declared.designs.Design.{Design}
use Rattle.acc_base.specs.declared.machines.Event.{Event as TheEvent}
use Rattle.acc_base.specs.Machine.{World, start}
use Rattle.acc_base.specs.Lawful.{IsLawful, LeadLawfully}
use Rattle.acc_lift.proofs.Theorem.{lead_more}
use Rattle.acc_machine.proofs.Replaying.{lead_logs}
use Rattle.acc_wal.specs.Items.{events_of, seals_of}
use Rattle.acc_wal.specs.declared.items.Item.{Item}
use Rattle.acc_wal.specs.declared.items.Item.TheVariants.{Event, State}
use Rattle.acc_recover.specs.Seals.{IsTextOf, IsSealOf, AreSealsOf}
use Rattle.acc_replica.specs.Coming.{Come}

-- the events among them are lawful
pub come_leads : (d : Design) (items : List Item) (w after : World) → Come d w items after → LeadLawfully d w (events_of items) after
come_leads d [] w after c = c
come_leads d (Event event ∷ items) w after c = (c.0, c.1, come_leads d items c.0 after c.2)
come_leads d (State text ∷ items) w after c = come_leads d items w after c.1

-- and are the history
pub come_logs : (d : Design) (items : List Item) (here : World) → Come d start items here → here.events ≡ events_of items
come_logs d items here c = lead_logs d (events_of items) start here (come_leads d items start here c)

-- one more
pub come_event : (d : Design) (items : List Item) (w here next : World) (event : TheEvent) → Come d w items here →
    IsLawful d here event next → Come d w (items ++ Event event ∷ []) next
come_event d [] w here next event c l = (next, subst (λ (x : World). IsLawful d x event next) (sym c) l, refl)
come_event d (Event e ∷ items) w here next event c l = (c.0, c.1, come_event d items c.0 here next event c.2 l)
come_event d (State t ∷ items) w here next event c l = (c.0, come_event d items w here next event c.1 l)

pub come_state : (d : Design) (items : List Item) (w here : World) (text : List ℕ) → Come d w items here → IsTextOf here text →
    Come d w (items ++ State text ∷ []) here
come_state d [] w here text c is = (subst (λ (x : World). IsTextOf x text) (sym c) is, c)
come_state d (Event e ∷ items) w here text c is = (c.0, c.1, come_state d items c.0 here text c.2 is)
come_state d (State t ∷ items) w here text c is = (c.0, come_state d items w here text c.1 is)

-- items that begin alike lead to one state, from where the rest of both comes
pub record Goes (d : Design) (a b : List Item) (x y : World) : Type 0 where
  pub next : World
  pub first : Come d next a x
  pub second : Come d next b y

pub goes : (d : Design) (w : World) (item : Item) (a b : List Item) (x y : World) → Come d w (item ∷ a) x → Come d w (item ∷ b) y → Goes d a b x y
goes d w (Event event) a b x y p q =
    let same : q.0 ≡ p.0 = same_Some q.0 p.0 (sym q.1.event ∙ p.1.event) in
    record { next = p.0; first = p.2; second = subst (λ (n : World). Come d n b y) same q.2 }
goes d w (State text) a b x y p q = record { next = w; first = p.1; second = q.1 }

pub one_coming : (d : Design) (items : List Item) (w a b : World) → Come d w items a → Come d w items b → a ≡ b
one_coming d [] w a b p q = sym p ∙ q
one_coming d (item ∷ items) w a b p q =
    let g = goes d w item items items a b p q in one_coming d items g.next a b g.first g.second

-- ---- as recovery says it

-- behind events that have come, each state among the items is the text of the rows at its place
sealed : (d : Design) (before : List TheEvent) (items : List Item) (w after : World) → LeadLawfully d start before w → Come d w items after →
    AreSealsOf d (before ++ events_of items) (seals_of (length before) items)
sealed d before [] w after led c = All-nil (IsSealOf d (before ++ []))
sealed d before (Event event ∷ items) w after led c =
    let long : length (before ++ event ∷ []) ≡ suc (length before) = omega (arith, length-append before (event ∷ [])) in
    subst (λ n. AreSealsOf d (before ++ event ∷ events_of items) (seals_of n items)) long
    (subst (λ (l : List TheEvent). AreSealsOf d l (seals_of (length (before ++ event ∷ [])) items))
    (append_assoc before (event ∷ []) (events_of items))
    (sealed d (before ++ event ∷ []) items c.0 after (lead_more d before start w c.0 event led c.1) c.2))
sealed d before (State text ∷ items) w after led c =
    All-cons (IsSealOf d (before ++ events_of items)) (record { place = length before; text = text }) (seals_of (length before) items)
    (record {
      here = w;
      comes = subst (λ (l : List TheEvent). LeadLawfully d start l w) (sym (take_at before (events_of items) (length before) refl)) led;
      is = c.0;
    })
    (sealed d before items w after led c.1)

pub come_sealed : (d : Design) (items : List Item) (here : World) → Come d start items here → AreSealsOf d (events_of items) (seals_of 0 items)
come_sealed d items here c = sealed d [] items start here refl c
