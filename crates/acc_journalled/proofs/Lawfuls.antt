-- A list of events leads lawfully to one state, or stops at one event.
use Rattle.std.proofs.Common.{◌≡◌, ℕ, zero, suc, List, [], ◌∷◌, take, Some, refl, sym, ap, subst, ◌∙◌, slice_get}
use Rattle.std.proofs.lemmas.Option.{none-some, same_Some}
use Rattle.acc_base.specs.declared.designs.Design.{Design}
use Rattle.acc_base.specs.declared.machines.Event.{Event}
use Rattle.acc_base.specs.Lawful.{IsLawful, LeadLawfully}
use Rattle.acc_base.specs.Machine.{World}
use Rattle.acc_lift.proofs.Theorem.{lead_runs}
use Rattle.acc_recover.specs.Replays.{IsFirstUnlawful}
use Rattle.acc_recover.specs.Takes.{CanCome}

pub lead_once : (d : Design) (events : List Event) (w a b : World) → LeadLawfully d w events a → LeadLawfully d w events b → a ≡ b
lead_once d events w a b h k = same_Some a b (sym (lead_runs d events w a h) ∙ lead_runs d events w b k)

next_once : (d : Design) (w a b : World) (e : Event) → IsLawful d w e a → IsLawful d w e b → a ≡ b
next_once d w a b e h k = same_Some a b (sym h.event ∙ k.event)

-- the first event, that comes lawfully, can come
first_comes : (d : Design) (x e : Event) (w here after : World) → w ≡ here → Some x ≡ Some e → IsLawful d w x after → CanCome d here e
first_comes d x e w here after same is l =
    subst (λ (z : World). CanCome d z e) same
    (subst (λ (y : Event). CanCome d w y) (same_Some x e is) (record { after = after; lawful = l }))

-- each of events that come lawfully can come at its turn
comes : (d : Design) (events : List Event) (w last here : World) (at : ℕ) (e : Event) → LeadLawfully d w events last
    → slice_get events at ≡ Some e → LeadLawfully d w (take at events) here → CanCome d here e
comes d [] w last here zero e l is before = absurd (none-some e is)
comes d [] w last here (suc at) e l is before = absurd (none-some e is)
comes d (x ∷ rest) w last here zero e l is before = first_comes d x e w here l.0 before is l.1
comes d (x ∷ rest) w last here (suc at) e l is before =
    let same = next_once d w before.0 l.0 x before.1 l.1 in
    comes d rest l.0 last here at e l.2 is (subst (λ (z : World). LeadLawfully d z (take at rest) here) same before.2)

pub lawful_or : (d : Design) (events : List Event) (w last here : World) (at : ℕ) → LeadLawfully d w events last
    → IsFirstUnlawful d w events at here → ⊥
lawful_or d events w last here at l h = h.unlawful (comes d events w last here at h.event l h.is_event h.before)

-- the first that isn't lawful stands at one place
pub first_once : (d : Design) (events : List Event) (w here there : World) (p q : ℕ) → IsFirstUnlawful d w events p here
    → IsFirstUnlawful d w events q there → p ≡ q
first_once d [] w here there zero q h k = absurd (none-some h.event h.is_event)
first_once d [] w here there (suc p) q h k = absurd (none-some h.event h.is_event)
first_once d (x ∷ rest) w here there zero zero h k = refl
first_once d (x ∷ rest) w here there zero (suc q) h k =
    absurd (h.unlawful (first_comes d x h.event w here k.before.0 h.before h.is_event k.before.1))
first_once d (x ∷ rest) w here there (suc p) zero h k =
    absurd (k.unlawful (first_comes d x k.event w there h.before.0 k.before k.is_event h.before.1))
first_once d (x ∷ rest) w here there (suc p) (suc q) h k =
    let same = next_once d w k.before.0 h.before.0 x k.before.1 h.before.1 in
    ap suc (first_once d rest h.before.0 here there p q
    (record { event = h.event; is_event = h.is_event; before = h.before.2; unlawful = h.unlawful })
    (record {
      event = k.event;
      is_event = k.is_event;
      before = subst (λ (z : World). LeadLawfully d z (take q rest) there) same k.before.2;
      unlawful = k.unlawful;
    }))
