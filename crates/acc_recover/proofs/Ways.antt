-- How a recovery goes on, event by event.
use Rattle.std.proofs.Common.{◌≡◌, ◌++◌, List, [], ◌∷◌, length, refl, sym, ◌∙◌, ap, subst, arith, append_assoc}
use Rattle.std.specs.Prelude.{sum_by, take}
use Rattle.std.proofs.lemmas.List.{append-nil, take_at}
use Rattle.acc_base.specs.declared.designs.Design.{Design}
use Rattle.acc_base.specs.declared.machines.Event.{Event}
use Rattle.acc_base.specs.Machine.{World, start, unfinished}
use Rattle.acc_base.specs.Lawful.{IsLawful, LeadLawfully}
use Rattle.acc_base.specs.Invariant.{rest_of}
use Rattle.acc_base.specs.Compensation.{IsNext, Recovers}
use Rattle.acc_lift.proofs.FormRules.{run_rules}
use Rattle.acc_lift.proofs.Theorem.{event_logged}
use Rattle.acc_lift.proofs.Recovering.{recovery}
use Rattle.acc_machine.specs.Kept.{IsKept}
use Rattle.acc_recover.specs.Recoveries.{IsRecovery, GoesOn, AreRowsOfRecovery}

pub goes_none : (d : Design) (w : World) → GoesOn d w w
goes_none d w = record { more = []; events_are = sym (append-nil w.events); hands_on = λ rest last r. r }

pub goes_more : (d : Design) (from now new : World) (e : Event) → GoesOn d from now → IsNext now e → IsLawful d now e new →
    GoesOn d from new
goes_more d from now new e g n l = record {
  more = g.more ++ e ∷ [];
  events_are = event_logged d now e new l.event ∙ ap (λ (es : List Event). es ++ e ∷ []) g.events_are ∙ append_assoc from.events g.more
      (e ∷ []);
  hands_on = λ rest last r. subst (λ (es : List Event). Recovers d from es last) (sym (append_assoc g.more (e ∷ []) rest))
      (g.hands_on (e ∷ rest) last (n, (new, l.event, r)));
}

pub recovered : (d : Design) (from now : World) → LeadLawfully d start from.events from → GoesOn d from now → unfinished now ≡ [] →
    IsRecovery d from.events now
recovered d from now comes g idle = record {
  first = from;
  comes = comes;
  more = g.more;
  recovers = subst (λ (es : List Event). Recovers d from es now) (append-nil g.more) (g.hands_on [] now (refl, idle));
  events_are = g.events_are;
}

-- ---- a state on the way has a recovery

pub recovery_logged : (d : Design) (events : List Event) (w last : World) → Recovers d w events last → last.events ≡ w.events ++ events
recovery_logged d [] w last r = ap (λ (x : World). x.events) (sym r.0) ∙ sym (append-nil w.events)
recovery_logged d (e ∷ rest) w last r =
    recovery_logged d rest r.1.0 last r.1.2 ∙ ap (λ (es : List Event). es ++ rest) (event_logged d w e r.1.0 r.1.1) ∙ append_assoc w.events
    (e ∷ []) rest

pub on_the_way : (d : Design) (from now : World) → LeadLawfully d start from.events from → IsKept d now → GoesOn d from now →
    AreRowsOfRecovery d from.events now.rows
on_the_way d from now comes kept g =
    let r = recovery d kept.accepted.sound (run_rules d kept.accepted.formed) (sum_by (rest_of d) now.transactions) now kept.good.steady
    (omega arith) in
    let logged = recovery_logged d r.0 now r.1 r.2 in
    let first : take (length now.events) r.1.events ≡ now.events =
    ap (take (length now.events)) logged ∙ take_at now.events r.0 (length now.events) refl in (
      r.1,
      record {
        first = from;
        comes = comes;
        more = g.more ++ r.0;
        recovers = g.hands_on r.0 r.1 r.2;
        events_are = logged ∙ ap (λ (es : List Event). es ++ r.0) g.events_are ∙ append_assoc from.events g.more r.0;
      },
      (
        now,
        record {
          count = length now.events;
          came =
              subst (λ (es : List Event). LeadLawfully d start es now) (sym first) kept.good.lawful;
        },
        refl,
      ),
    )
