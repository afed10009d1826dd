-- Which replies are durable as the history goes on.
use Rattle.std.proofs.Common.{◌≡◌, ◌≤◌, ◌⊎◌, inl, inr, ℕ, List, [], ◌∷◌, length, take, refl, sym, ap, subst, ◌∙◌, arith, ◌++◌}
use Rattle.std.specs.Prelude.{◌≢◌, option_and_then}
use Rattle.std.proofs.lemmas.List.{append-nil, take_all, take-append-le}
use Rattle.acc_base.specs.declared.designs.At.{At}
use Rattle.acc_base.specs.declared.machines.Cause.{Cause}
use Rattle.acc_base.specs.declared.machines.Event.{Event}
use Rattle.acc_base.specs.declared.machines.Event.TheVariants.{Begin}
use Rattle.acc_base.specs.declared.machines.Turn.{Turn}
use Rattle.acc_base.specs.declared.machines.Turn.TheVariants as turn
use Rattle.acc_base.specs.Machine.{World, start, world, reply_at}
use Rattle.acc_lift.proofs.Becoming.{number_cases}
use Rattle.acc_lift.proofs.Theorem.{event_logged, lead_runs}
use Rattle.acc_plain.specs.Turned.{IsUnfinished}
use Rattle.acc_machine.specs.Kept.{IsKept}
use Rattle.acc_machine.specs.Turns.{IsTurn}
use Rattle.acc_engine.specs.Acks.{durable_reply}
use Rattle.acc_engine.specs.Calls.{StaysBut, Begins}
use Rattle.acc_engine.specs.Keeping.{Journalled}
use Rattle.acc_engine.proofs.Tails.{event_keeps}
use Rattle.acc_engine.proofs.Turned.{turn_keeps, turn_stays}
use Rattle.acc_settling.specs.Chains.{but_one}
use Rattle.acc_settling.specs.Runs.{IsAcked, IsAckedButOne}

-- a turn that doesn't end
abbrev pub IsUnended : Turn → Type 0
IsUnended x = ((at : At) × (x ≡ turn.Stepped at)) ⊎ ((h : ℕ) × (n : ℕ) × (x ≡ turn.Blocked h n)) ⊎ ((c : Cause) × (x ≡ turn.Turned c))
    ⊎ ((at : At) × (x ≡ turn.Back at))

pub unended : (x : Turn) → IsUnended x → x ≢ turn.Ended
unended x (inl (at, e)) ended = let k : turn.Stepped at ≡ turn.Ended = sym e ∙ ended in absurd cc
unended x (inr (inl (h, n, e))) ended = let k : turn.Blocked h n ≡ turn.Ended = sym e ∙ ended in absurd cc
unended x (inr (inr (inl (c, e)))) ended = let k : turn.Turned c ≡ turn.Ended = sym e ∙ ended in absurd cc
unended x (inr (inr (inr (at, e)))) ended = let k : turn.Back at ≡ turn.Ended = sym e ∙ ended in absurd cc

-- where all events are durable, so is each reply
pub all_acked : {D : Type 0} (e : Journalled D) → IsKept e.design e.state → e.settled ≡ length e.state.events → IsAcked e
all_acked e kept all t =
    let events : take e.settled e.state.events ≡ e.state.events = take_all e.settled e.state.events (omega (arith, all)) in
    let run = lead_runs e.design e.state.events start e.state kept.good.lawful in
    ap (λ (es : List Event). option_and_then (reply_at t) (world e.design es)) events ∙ ap (option_and_then (reply_at t)) run

module _ {D : Type 0} (old new : Journalled D) (more : List Event) (design : new.design ≡ old.design) (settled : new.settled ≡ old.settled)
    (history : new.state.events ≡ old.state.events ++ more) (within : old.settled ≤ length old.state.events) where
  -- the durable replies are the same
  same_durable : (t : ℕ) → durable_reply new t ≡ durable_reply old t
  same_durable t =
      let front : take old.settled (old.state.events ++ more) ≡ take old.settled old.state.events =
      take-append-le old.settled old.state.events more within in
      (λ i. option_and_then (reply_at t) (world (design i) (take (settled i) (history i))))
      ∙ ap (λ (es : List Event). option_and_then (reply_at t) (world old.design es)) front

  -- each reply is as before
  pub acked_on : ((t : ℕ) → reply_at t new.state ≡ reply_at t old.state) → IsAcked old → IsAcked new
  acked_on same acked t = same_durable t ∙ acked t ∙ sym (same t)

  pub one_on : ((t : ℕ) → reply_at t new.state ≡ reply_at t old.state) → IsAckedButOne old → IsAckedButOne new
  one_on same but = record { last = but.last; others = λ t other. same_durable t ∙ but.others t other ∙ sym (same t) }

  -- each but one is as before
  pub acked_but : (last : ℕ) → ((t : ℕ) → t ≢ last → reply_at t new.state ≡ reply_at t old.state) → IsAcked old → IsAckedButOne new
  acked_but last same acked = record { last = last; others = λ t other. same_durable t ∙ acked t ∙ sym (same t other) }

  module _ (t : ℕ) (x : Turn) (unfinished : IsUnfinished t old.state) (turned : IsTurn old.design old.state new.state t x) where
    pub acked_turned : IsAcked old → IsAckedButOne new
    acked_turned = acked_but t (λ u other. turn_keeps old.design old.state new.state t x unfinished turned u other)

    pub acked_unended : x ≢ turn.Ended → IsAcked old → IsAcked new
    acked_unended n = acked_on (λ u. by u (number_cases u t))
      where
        by : (u : ℕ) → (u ≡ t) ⊎ (u ≢ t) → reply_at u new.state ≡ reply_at u old.state
        by u (inl same) =
            subst (λ (k : ℕ). reply_at k new.state ≡ reply_at k old.state) (sym same)
            (turn_stays old.design old.state new.state t x unfinished turned n)
        by u (inr other) = turn_keeps old.design old.state new.state t x unfinished turned u other

-- a call that leaves the state leaves which replies are durable
pub one_same : {D : Type 0} (old new : Journalled D) → StaysBut old new → new.state ≡ old.state → old.settled ≤ length old.state.events
    → IsAcked old → IsAckedButOne new
one_same old new stays same within acked =
    one_on old new [] stays.design stays.settled (ap (λ (w : World). w.events) same ∙ sym (append-nil old.state.events)) within
    (λ t. ap (reply_at t) same) (but_one old acked)

pub acked_same : {D : Type 0} (old new : Journalled D) → StaysBut old new → new.state ≡ old.state → old.settled ≤ length old.state.events
    → IsAcked old → IsAcked new
acked_same old new stays same within acked =
    acked_on old new [] stays.design stays.settled (ap (λ (w : World). w.events) same ∙ sym (append-nil old.state.events)) within
    (λ t. ap (reply_at t) same) acked

-- one that begins has no reply
module _ {D : Type 0} (old new : Journalled D) (place t : ℕ) (stays : StaysBut old new) (begins : Begins place t old new) where
  pub begin_history : new.state.events ≡ old.state.events ++ Begin begins.call ∷ []
  begin_history = event_logged old.design old.state (Begin begins.call) new.state begins.begins

  pub acked_begun : old.settled ≤ length old.state.events → IsAcked old → IsAcked new
  acked_begun within =
      acked_on old new (Begin begins.call ∷ []) stays.design stays.settled begin_history within
      (λ u. event_keeps old.design old.state new.state (Begin begins.call) u begins.begins refl)
