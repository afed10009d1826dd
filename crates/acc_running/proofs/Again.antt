-- Recovery of what a crash of a run left.
use Rattle.std.proofs.Common.{◌≡◌, ◌⊎◌, inl, inr, ℕ, zero, suc, List, [], ◌∷◌, ◌++◌, length, take, Some, refl, sym, ap, subst, ◌∙◌}
use Rattle.acc_io.specs.Causes.{Rose}
use Rattle.acc_base.specs.declared.designs.Design.{Design}
use Rattle.acc_base.specs.declared.machines.Event.{Event}
use Rattle.acc_base.specs.Compensation.{IsNext, crash, undo, Recovers}
use Rattle.acc_base.specs.Lawful.{HasLeave, LeadLawfully, AreLawful}
use Rattle.acc_base.specs.Machine.{World, start}
use Rattle.acc_print.specs.Designs.{printed}
use Rattle.acc_wal.specs.Journals.{Counts}
use Rattle.acc_wal.proofs.Once.{one_reading}
use Rattle.acc_recover.specs.Recoveries.{IsRecovery}
use Rattle.acc_recover.specs.Refusals.{RefusesRecovery, IsOfBytes}
use Rattle.acc_recover.specs.Seals.{HasSeals, HasSealsOver}
use Rattle.acc_recover.specs.declared.errors.RecoverError.{RecoverError}
use Rattle.acc_recover.specs.declared.errors.RecoverError.TheVariants.{Journal, OtherDesign, Unlawful, Differs, Disk, Memory}
use Rattle.acc_recover.proofs.Single.{one_recovery}
use Rattle.acc_recover.proofs.Sealed.{events_counted}
use Rattle.acc_journalled.proofs.Differing.{sealed_or}
use Rattle.acc_journalled.proofs.Lawfuls.{lawful_or}
use Rattle.acc_journalled.proofs.Once.{read_or, text_or, same_events}
use Rattle.acc_running.specs.Crashes.{LeavesEvents, IsRecoveredPart, IsRecoverable, IsFrontOf}
use Rattle.acc_running.specs.Recorded.{IsFound}
use Rattle.acc_running.specs.Laws.{CrashRecovers, EndRecovers}

-- ---- lawful histories

front_leads : (d : Design) (events : List Event) (w last : World) (n : ℕ) → LeadLawfully d w events last
    → (x : World) × LeadLawfully d w (take n events) x
front_leads d [] w last zero l = (w, refl)
front_leads d [] w last (suc n) l = (w, refl)
front_leads d (e ∷ rest) w last zero l = (w, refl)
front_leads d (e ∷ rest) w last (suc n) l = let k = front_leads d rest l.0 last n l.2 in (k.0, (l.0, l.1, k.1))

lead_append : (d : Design) (xs ys : List Event) (a b c : World) → LeadLawfully d a xs b → LeadLawfully d b ys c
    → LeadLawfully d a (xs ++ ys) c
lead_append d [] ys a b c l m = subst (λ (w : World). LeadLawfully d w ys c) (sym l) m
lead_append d (e ∷ xs) ys a b c l m = (l.0, l.1, lead_append d xs ys l.0 b c l.2 m)

next_leave : (d : Design) (w : World) (e : Event) → IsNext w e → HasLeave d w e
next_leave d w e (crash t f at least) = tt
next_leave d w e (undo t f at none least) = tt

recovery_leads : (d : Design) (events : List Event) (w last : World) → Recovers d w events last → LeadLawfully d w events last
recovery_leads d [] w last r = r.0
recovery_leads d (e ∷ rest) w last r =
    (r.1.0, record { leave = next_leave d w e r.0; event = r.1.1 }, recovery_leads d rest r.1.0 last r.1.2)

pub recovered_leads : (d : Design) (found : List Event) (last : World) → IsRecovery d found last → LeadLawfully d start last.events last
recovered_leads d found last r =
    subst (λ (es : List Event). LeadLawfully d start es last) (sym r.events_are)
    (lead_append d found r.more start r.first last r.comes (recovery_leads d r.more r.first last r.recovers))

-- ---- recovery

module _ (d : Design) (image : List ℕ) (events : List Event) (last : World) (sealed : HasSeals d events image)
    (leads : LeadLawfully d start events last) where
  counts : Counts image (printed d) events
  counts = events_counted image (printed d) sealed.0 events sealed.1 sealed.2.counts

  unrefused :
      (error : RecoverError) (before after : ℕ) → RefusesRecovery d error (Some image) (Rose before after) → IsOfBytes error → ⊥
  unrefused (Journal e) before after why of = read_or d image e (printed d) events counts why
  unrefused OtherDesign before after why of = text_or d image events counts why
  unrefused (Unlawful at) before after why of =
      lawful_or d why.events start last why.here at
      (subst (λ (es : List Event). LeadLawfully d start es last) (same_events d image events why.events counts why.counts) leads) why.first
  unrefused (Differs place) before after why of = sealed_or d image events place sealed why
  unrefused Disk before after why of = of
  unrefused Memory before after why of = of

  recoverable : IsRecoverable d image events
  recoverable = record {
    counts = counts;
    only = λ found c. same_events d image found events c counts;
    lawful = (last, leads);
    unrefused = unrefused;
  }

pub end_recovers : EndRecovers
end_recovers d history settled image lawful front =
    let k = front_leads d history start lawful.0 front.count lawful.1 in (
      take front.count history,
      recoverable d image (take front.count history) k.0 front.sealed k.1,
      record { count = front.count; at_least = front.at_least; within = front.within; is = refl },
    )

-- of a journal of some first of the events that were there, or came
module _ (d : Design) (file image : List ℕ) (history : List Event) (first : World) (f : IsFound d (Some file) first)
    (lawful : AreLawful d history) (e : LeavesEvents d file history image) where
  read : (e.base ≡ printed d) × (e.found ≡ f.found)
  read = one_reading file e.base (printed d) e.found f.found e.counts f.counts

  -- the states that recovery found are right, so these are
  sealed : HasSeals d e.events image
  sealed =
      let here = subst (λ (es : List Event). HasSeals d es file) (sym read.1) f.sealed in
      let there = e.sealed (subst (λ (base : List ℕ). HasSealsOver base d e.found file) (sym read.0) here) in
      subst (λ (base : List ℕ). HasSealsOver base d e.events image) read.0 there

  again : (last : World) → LeadLawfully d start e.events last → IsRecoverable d image e.events
  again last leads = recoverable d image e.events last sealed leads

  same_state : (w : World) → IsRecovery d e.found w → w ≡ first
  same_state w r = one_recovery d f.found w first (subst (λ (es : List Event). IsRecovery d es w) read.1 r) f.recovery

  part_recovers :
      (w : World) → IsRecovery d e.found w → IsRecoveredPart w.events history e.events
      → IsRecoverable d image e.events
      × ((e.events ≡ f.found) ⊎ (e.events ≡ first.events) ⊎ IsFrontOf history (length first.events) e.events)
  part_recovers w r (inl is) = (
    again w (subst (λ (es : List Event). LeadLawfully d start es w) (sym is) (recovered_leads d e.found w r)),
    inr (inl (is ∙ ap (λ (x : World). x.events) (same_state w r))),
  )
  part_recovers w r (inr front) =
      let k = front_leads d history start lawful.0 front.1.count lawful.1 in (
        again k.0 (subst (λ (es : List Event). LeadLawfully d start es k.0) (sym front.1.is) k.1),
        inr (inr (subst (λ (x : World). IsFrontOf history (length x.events) e.events) (same_state w r) front.1)),
      )

  events_recover :
      (e.events ≡ e.found) ⊎ ((w : World) × IsRecovery d e.found w × IsRecoveredPart w.events history e.events)
      → IsRecoverable d image e.events
      × ((e.events ≡ f.found) ⊎ (e.events ≡ first.events) ⊎ IsFrontOf history (length first.events) e.events)
  events_recover (inl is) =
      let same = is ∙ read.1 in (
        again f.recovery.first
            (subst (λ (es : List Event). LeadLawfully d start es f.recovery.first) (sym same) f.recovery.comes),
        inl same,
      )
  events_recover (inr h) = part_recovers h.0 h.1 h.2

pub crash_recovers : CrashRecovers
crash_recovers d file image history first f lawful (inl same) = (
  f.found,
  recoverable d image f.found f.recovery.first (subst (λ (x : List ℕ). HasSeals d f.found x) (sym same) f.sealed) f.recovery.comes,
  inl refl,
)
crash_recovers d file image history first f lawful (inr e) =
    let r = events_recover d file image history first f lawful e e.which in (e.events, r.0, r.1)
