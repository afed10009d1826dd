-- Events that are taken one after the other.
use Rattle.std.proofs.Common.{◌≡◌, ℕ, suc, ◌+◌, ◌<◌, List, [], ◌∷◌, ◌++◌, length, get_or, sym, ap, subst, ◌∙◌, arith}
use Rattle.std.specs.Prelude.{take}
use Rattle.std.proofs.Math.Seq.{take-suc}
use Rattle.std.proofs.lemmas.List.{append-nil, append_assoc}
use Rattle.acc_base.specs.declared.designs.Design.{Design}
use Rattle.acc_base.specs.declared.machines.Event.{Event}
use Rattle.acc_base.specs.Machine.{World}
use Rattle.acc_base.specs.Lawful.{IsLawful, LeadLawfully}
use Rattle.acc_lift.proofs.Theorem.{lead_more, event_logged}

module _ (d : Design) (from w : World) (events : List Event) (i : ℕ) (come : LeadLawfully d from (take i events) w) where
  pub come_on : (next : World) (e : Event) → i < length events → e ≡ get_or events i e → IsLawful d w e next
      → LeadLawfully d from (take (i + 1) events) next
  come_on next e l is k =
      let more : take (suc i) events ≡ take i events ++ e ∷ [] = take-suc events i e l ∙ ap (λ x. take i events ++ x ∷ []) (sym is) in
      let one : suc i ≡ i + 1 = omega arith in
      subst (λ n. LeadLawfully d from (take n events) next) one
      (subst (λ es. LeadLawfully d from es next) (sym more) (lead_more d (take i events) from w next e come k))

-- the history has them after those before
pub lead_logs :
    (d : Design) (events : List Event) (w0 w : World) → LeadLawfully d w0 events w → w.events ≡ w0.events ++ events
lead_logs d [] w0 w h = sym (ap (λ (z : World). z.events) h) ∙ sym (append-nil w0.events)
lead_logs d (e ∷ rest) w0 w h =
    let one : h.0.events ≡ w0.events ++ e ∷ [] = event_logged d w0 e h.0 h.1.event in
    lead_logs d rest h.0 w h.2 ∙ (ap (λ es. es ++ rest) one ∙ append_assoc w0.events (e ∷ []) rest)
