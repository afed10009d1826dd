-- Where the history of a run has grown, its journal's last state stands behind all events.
use Rattle.std.proofs.Common.{◌≡◌, ◌<◌, ◌⊎◌, inl, inr, ⊎_elim, ℕ, List, length, take, true, subst, arith}
use Rattle.std.specs.Prelude.{nat_lt}
use Rattle.std.proofs.lemmas.Bool.Decides.{nat_tests}
use Rattle.std.proofs.lemmas.List.{take_all}
use Rattle.acc_base.specs.declared.designs.Design.{Design}
use Rattle.acc_base.specs.declared.machines.Event.{Event}
use Rattle.acc_base.specs.Lawful.{LeadLawfully}
use Rattle.acc_base.specs.Machine.{World, start}
use Rattle.acc_print.specs.Designs.{printed}
use Rattle.acc_wal.specs.Journals.{CountsAll}
use Rattle.acc_recover.specs.Recoveries.{IsRecovery, LeavesUnfinished}
use Rattle.acc_engine.specs.Keeping.{Journalled}
use Rattle.acc_engine.specs.Sealing.{NeedsNoSeal, EndsSealed}
use Rattle.acc_settling.specs.Growth.{HasGrown}
use Rattle.acc_journalled.specs.Sealing.{HasLongText, EndsAt, IsSealedToEnd}
use Rattle.acc_journalled.proofs.Places.{ends_at}
use Rattle.acc_journalled.proofs.Putting.{has_grown}

-- it grew in the recovery, where something was compensated, or behind it
pub grown_since : {D : Type 0} (d : Design) (found : List Event) (first : World) (compensated : ℕ) (e : Journalled D)
    → e.found ≡ length first.events → IsRecovery d found first → LeavesUnfinished d found compensated
    → length found < length e.state.events → HasGrown (nat_lt 0 compensated) e
grown_since d found first compensated e at r u more =
    elim (native.Mathlib.Decide.dec_le (length first.events) (length found)) [
      | yes none ↦ inr (omega (arith, more, at, none))
      | no some ↦
          (let grew = has_grown d found first compensated r u (omega (arith, some)) in
          let yes : nat_lt 0 compensated ≡ true = grind (arith, nat_tests) in inl yes)
    ]

module _ {D : Type 0} (d : Design) (e : Journalled D) (design : e.design ≡ d) (base : e.base ≡ printed d)
    (lawful : LeadLawfully e.design start e.state.events e.state) (file : List ℕ)
    (counts : CountsAll file e.base e.version (take e.settled e.state.events) e.seals) where
  last_state : CountsAll file (printed d) e.version e.state.events e.seals → NeedsNoSeal e.version e.seals e.state
      → (e.version ≡ 1) ⊎ HasLongText d e.state.events ⊎ EndsAt (length e.state.events) e.seals
  last_state c (inl other) = ⊎_elim (λ one. inl one) (λ two. absurd (other two)) c.counts.known
  last_state c (inr (inl long)) =
      inr (inl (record {
        last = e.state;
        comes = subst (λ (x : Design). LeadLawfully x start e.state.events e.state) design lawful;
        long = long;
      }))
  last_state c (inr (inr at)) = inr (inr (ends_at file (printed d) e.version e.state.events e.seals c at))

  pub sealed_to_end : EndsSealed e → IsSealedToEnd d e.state.events file
  sealed_to_end ends =
      let whole : take e.settled e.state.events ≡ e.state.events =
      take_all e.settled e.state.events (let all = ends.settled in omega (arith, all)) in
      let c : CountsAll file (printed d) e.version e.state.events e.seals =
      subst (λ (b : List ℕ). CountsAll file b e.version e.state.events e.seals) base
      (subst (λ (es : List Event). CountsAll file e.base e.version es e.seals) whole counts) in
      record { version = e.version; seals = e.seals; counts = c; last = last_state c ends.last }
