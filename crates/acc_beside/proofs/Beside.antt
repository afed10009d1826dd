-- What the calls under the lock leave of the engine and of the keeper's pass.
use Rattle.std.proofs.Common.{◌≡◌, ◌<◌, ◌≤◌, ◌^◌, ◌⊎◌, inl, inr, ℕ, List, [], ◌∷◌, ◌++◌, length, Bool, true, Option, Some}
use Rattle.std.proofs.Common.{refl, sym, ap, ◌∙◌, subst, arith}
use Rattle.std.specs.Prelude.{slice_get, nat_lt}
use Rattle.std.proofs.lemmas.List.{append-nil}
use Rattle.std.proofs.lemmas.Option.{same_Some}
use mathlib.Core.List.{IsPrefix}
use Rattle.acc_base.specs.declared.designs.At.{At}
use Rattle.acc_base.specs.declared.designs.Design.{Design}
use Rattle.acc_base.specs.declared.machines.Call.{Call}
use Rattle.acc_base.specs.declared.machines.Cause.{Cause}
use Rattle.acc_base.specs.declared.machines.Event.{Event}
use Rattle.acc_base.specs.declared.machines.Event.TheVariants.{Begin}
use Rattle.acc_base.specs.declared.machines.Turn.{Turn}
use Rattle.acc_base.specs.declared.machines.Turn.TheVariants as turn
use Rattle.acc_base.specs.Machine.{World, start, world, after_event}
use Rattle.acc_lift.proofs.Theorem.{event_logged, lead_runs}
use Rattle.acc_plain.specs.Turned.{IsUnfinished}
use Rattle.acc_machine.specs.Kept.{IsKept}
use Rattle.acc_machine.specs.Turns.{IsTurn, IsTurnEvent, AddsBy, AddsEvent}
use Rattle.acc_machine.proofs.Keeping.{kept_after}
use Rattle.acc_engine.specs.Calls.{StaysBut, DrawsLowest, IsUnmoved, RefusesTurn}
use Rattle.acc_engine.specs.Keeping.{Journalled, is_begun}
use Rattle.acc_engine.specs.declared.errors.Drawn.{Drawn}
use Rattle.acc_engine.specs.declared.errors.Drawn.TheVariants.{Begun, Empty, Full, Crowd}
use Rattle.acc_engine.specs.declared.errors.EngineError.{EngineError}
use Rattle.acc_engine.specs.declared.errors.EngineError.TheVariants.{Disk, Failed, Memory}
use Rattle.acc_engine.proofs.InSteps.{few_events}
use Rattle.acc_pass.specs.declared.views.Known.{Known}
use Rattle.acc_pass.specs.Histories.{Owns, MayAppend, MayAppendBy}
use Rattle.acc_pass.specs.Rules.{known}
use Rattle.acc_pass.proofs.Lists.{prefix_self}
use Rattle.acc_pass.proofs.Worlds.{next_is_fresh}
use Rattle.acc_engine.specs.Surviving.{Survives}
use Rattle.acc_beside.specs.Serving.{Script, begun_after, BeginsNext, Serves, CausesStay}
use Rattle.acc_beside.specs.Calls.{Tied, Called, IsBegun, DrawsAt, Draws, Makes, Turns, Fails, ShowsFault, IsNext}
use Rattle.acc_engine.proofs.Surviving.{survives_stays, survives_more, survives_none}
use Rattle.acc_beside.proofs.Growing.{next_first, next_turned, next_begun, next_marked, lowest_is, all_are, turn_moves}
use Rattle.acc_beside.proofs.Calling.{cause_on}

pub run_of : (d : Design) (w : World) → IsKept d w → world d w.events ≡ Some w
run_of d w kept = lead_runs d w.events start w kept.good.lawful

pub short : {D : Type 0} (d : Design) (j : Known) (e : Journalled D) → Tied j e → IsKept d e.state → length j.seen < 2 ^ 62
short d j e tied kept = let few = few_events d e.state kept in let same = ap length tied.1 in omega arith

-- ---- passes

-- the keeper after the engine made this event
pub record Told {D : Type 0} (j k : Known) (old new : Journalled D) (own : List Event) : Type 0 where
  pub tied : Tied k new
  pub called : Called j k old.state.events own

pub told_one : {D : Type 0} (j k : Known) (old new : Journalled D) (event : Event) → Tied j old → new.failed ≡ old.failed
    → new.state.events ≡ old.state.events ++ event ∷ []
    → k ≡ known true j.broken new.state.events (j.mine ++ (length j.seen, event) ∷ []) → Told j k old new (event ∷ [])
told_one j k old new event tied failed added is = record {
  tied = (ap (λ (x : Known). x.keeps) is, ap (λ (x : Known). x.seen) is, ap (λ (x : Known). x.broken) is ∙ tied.2 ∙ sym failed);
  called = record {
    begun = subst (λ (l : List Event). IsPrefix j.seen l) tied.1 (prefix_self j.seen);
    seen = ap (λ (x : Known). x.seen) is ∙ added;
    mine = ap (λ (x : Known). x.mine) is ∙ ap (λ (l : List Event). j.mine ++ (length l, event) ∷ []) tied.1;
    broken = λ b. ap (λ (x : Known). x.broken) is ∙ b;
  };
}

pub told_none : {D : Type 0} (j : Known) (old new : Journalled D) → Tied j old → new.failed ≡ old.failed
    → new.state.events ≡ old.state.events → Told j j old new []
told_none j old new tied failed same = record {
  tied = (tied.0, tied.1 ∙ sym same, tied.2 ∙ sym failed);
  called = record {
    begun = subst (λ (l : List Event). IsPrefix j.seen l) tied.1 (prefix_self j.seen);
    seen = tied.1 ∙ sym (append-nil old.state.events);
    mine = sym (append-nil j.mine);
    broken = λ b. b;
  };
}

-- ---- an engine of which no call is made yet

pub serves_first : {D : Type 0} (clock : D → ℕ) (left_since : D → ℕ → List ℕ → Type 0) (told : D → Option (List ℕ))
    (may_leave : D → List ℕ → Type 0) (count : D → ℕ)
    (only_now : (disk : D) (image : List ℕ) → left_since disk (clock disk) image → may_leave disk image)
    (script : Script) (first : List Event) (engine : Option (Journalled D)) (e : Journalled D)
    → engine ≡ Some e → e.state.events ≡ first → (e.design ≡ script.design) × (e.calls ≡ script.calls)
    → ((p : ℕ) → is_begun e.begun p ≡ nat_lt p script.places) → IsKept e.design e.state
    → Serves clock left_since told may_leave count script first engine e
serves_first {D} clock left_since told may_leave count only_now script first engine e is begun same places kept = record {
  kept = subst (λ (d : Design). IsKept d e.state) same.0 kept;
  design = same.0;
  calls = same.1;
  next = subst (λ (l : List Event). BeginsNext script first e.begun l) (sym begun) (next_first script first e.begun places);
  survives = λ f of.
      subst (λ (x : Journalled D). Survives clock left_since told may_leave count x e) (same_Some e f (sym is ∙ of))
      (survives_none clock left_since told may_leave count only_now e);
}

-- ---- calls that leave the disk

module _ {D : Type 0} (clock : D → ℕ) (left_since : D → ℕ → List ℕ → Type 0) (told : D → Option (List ℕ)) (may_leave : D → List ℕ → Type 0)
    (count : D → ℕ) (only_now : (disk : D) (image : List ℕ) → left_since disk (clock disk) image → may_leave disk image)
    (script : Script) (first : List Event) (engine : Option (Journalled D)) (old new : Journalled D) (s : StaysBut old new)
    (waiting : new.waiting ≡ old.waiting) (serves : Serves clock left_since told may_leave count script first engine old)
    (stuck : old.failed ≡ true → new ≡ old) where
  pub serves_on : (own : List Event) → new.state.events ≡ old.state.events ++ own → IsKept script.design new.state
      → BeginsNext script first new.begun new.state.events
      → Serves clock left_since told may_leave count script first engine new
  serves_on own added kept next = record {
    kept = kept;
    design = s.design ∙ serves.design;
    calls = s.calls ∙ serves.calls;
    next = next;
    survives = λ f is.
        survives_more clock left_since told may_leave count only_now f old new (serves.survives f is)
        (survives_stays clock left_since told may_leave count only_now old new own s waiting added) stuck;
  }

  pub serves_same : new.state ≡ old.state → ((p : ℕ) → is_begun new.begun p ≡ is_begun old.begun p)
      → Serves clock left_since told may_leave count script first engine new
  serves_same same marks =
      let events : new.state.events ≡ old.state.events = ap (λ (w : World). w.events) same in
      serves_on [] (events ∙ sym (append-nil old.state.events)) (subst (IsKept script.design) (sym same) serves.kept)
      (subst (λ (l : List Event). BeginsNext script first new.begun l) (sym events)
      (next_marked script first old.state.events old.begun new.begun marks serves.next))

  pub causes_on : (own : List Event) → new.state.events ≡ old.state.events ++ own → CausesStay script.design old new
  causes_on own added cause h =
      cause_on script.design old.state.events new.state.events old.failed new.failed cause (own, sym added) (λ f. s.failed ∙ f) h

  -- ---- a draw

  pub record Begins (t : ℕ) : Type 0 where
    pub call : Call
    pub begins : IsBegun script (begun_after script first old.state.events) t old.state new.state (Begin call ∷ [])
    pub added : new.state.events ≡ old.state.events ++ Begin call ∷ []
    pub kept : IsKept script.design new.state
    pub next : BeginsNext script first new.begun new.state.events

  pub begins_at : (t : ℕ) → DrawsLowest (Begun t) old new → Begins t
  begins_at t d =
      let b = d.2.0 in
      let place : d.0 ≡ begun_after script first old.state.events = lowest_is old.begun _ d.0 serves.next.marks_are d.1.lowest in
      let is : after_event script.design old.state (Begin b.call) ≡ Some new.state =
      subst (λ (x : Design). after_event x old.state (Begin b.call) ≡ Some new.state) serves.design b.begins in
      let added = event_logged script.design old.state (Begin b.call) new.state is in
      let call = ap (λ (l : List Call). slice_get l d.0) (sym serves.calls) ∙ b.is_call in
      let here = subst (λ (p : ℕ). slice_get script.calls p ≡ Some b.call) place call in
      record {
        call = b.call;
        begins = record { call = b.call; is_call = here; begins = is; number = b.number; own_is = refl };
        added = added;
        kept =
            kept_after script.design script.design old.state new.state (Begin b.call) serves.kept refl
            (record { leave = (d.2.1, d.2.2); event = is });
        next = subst (λ (l : List Event). BeginsNext script first new.begun l) (sym added)
            (next_begun script first old.state.events old.begun new.begun b.call here
            (subst (λ (p : ℕ). is_begun new.begun p ≡ true) place b.here)
            (λ p other. b.others p (λ e. other (e ∙ place))) serves.next);
      }

  pub begin_next : (j : Known) (t : ℕ) (log : List Event) → Tied j old → DrawsLowest (Begun t) old new → log ≡ new.state.events
      → IsNext j.seen j.mine log
  begin_next j t log tied d is =
      let b = begins_at t d in record {
        event = Begin b.call;
        is = is ∙ b.added ∙ ap (λ (l : List Event). l ++ Begin b.call ∷ []) (sym tied.1);
        may = subst (λ (l : List Event). MayAppend l j.mine (Begin b.call)) (sym tied.1)
            (next_is_fresh script.design old.state.events old.state (run_of script.design old.state serves.kept));
      }

  pub record Drew (j k : Known) (drawn : Drawn) : Type 0 where
    pub tied : Tied k new
    pub serves' : Serves clock left_since told may_leave count script first engine new
    pub causes : CausesStay script.design old new
    pub draws : Draws script first j k drawn

  pub drew_begun : (j k : Known) (t : ℕ) → Tied j old → DrawsLowest (Begun t) old new
      → ((event : Event) → new.state.events ≡ j.seen ++ event ∷ []
      → k ≡ known true j.broken new.state.events (j.mine ++ (length j.seen, event) ∷ []))
      → Drew j k (Begun t)
  drew_begun j k t tied d append =
      let b = begins_at t d in
      let told =
      told_one j k old new (Begin b.call) tied s.failed b.added
      (append (Begin b.call) (b.added ∙ ap (λ (l : List Event). l ++ Begin b.call ∷ []) (sym tied.1))) in
      record {
        tied = told.tied;
        serves' = serves_on (Begin b.call ∷ []) b.added b.kept b.next;
        causes = causes_on (Begin b.call ∷ []) b.added;
        draws = record {
          old = old.state;
          new = new.state;
          own = Begin b.call ∷ [];
          kept = serves.kept;
          left = b.kept;
          draws = (b.begins, d.2.1, d.2.2);
          added = b.added;
          called = told.called;
        };
      }

  drew_none : (j : Known) (drawn : Drawn) → Tied j old → IsUnmoved old new
      → ((new.state ≡ old.state) → DrawsAt script (begun_after script first old.state.events) drawn old.state new.state []) → Drew j j drawn
  drew_none j drawn tied u at =
      let events : new.state.events ≡ old.state.events = ap (λ (w : World). w.events) u.state in
      let added : new.state.events ≡ old.state.events ++ [] = events ∙ sym (append-nil old.state.events) in
      let told = told_none j old new tied s.failed events in
      let on = serves_same u.state u.marks in
      record {
        tied = told.tied;
        serves' = on;
        causes = causes_on [] added;
        draws = record {
          old = old.state;
          new = new.state;
          own = [];
          kept = serves.kept;
          left = on.kept;
          draws = at u.state;
          added = added;
          called = told.called;
        };
      }

  pub drew_empty : (j : Known) → Tied j old → DrawsLowest Empty old new → Drew j j Empty
  drew_empty j tied d =
      drew_none j Empty tied d.1
      (λ same. (
        subst (λ (l : List Call). length l ≤ begun_after script first old.state.events) serves.calls
            (all_are old.begun _ (length old.calls) serves.next.marks_are d.0),
        (same, refl),
      ))

  within : (place : ℕ) → place < length old.calls → place ≡ begun_after script first old.state.events
      → begun_after script first old.state.events < length script.calls
  within place lt is = subst (λ (p : ℕ). p < length script.calls) is (subst (λ (l : List Call). place < length l) serves.calls lt)

  pub drew_full : (j : Known) → Tied j old → DrawsLowest Full old new → Drew j j Full
  drew_full j tied d =
      drew_none j Full tied d.2.1
      (λ same. (within d.0 d.1.within (lowest_is old.begun _ d.0 serves.next.marks_are d.1.lowest), d.2.0, (same, refl)))

  pub drew_crowd : (j : Known) → Tied j old → DrawsLowest Crowd old new → Drew j j Crowd
  drew_crowd j tied d =
      drew_none j Crowd tied d.2.2
      (λ same. (within d.0 d.1.within (lowest_is old.begun _ d.0 serves.next.marks_are d.1.lowest), d.2.0, d.2.1, (same, refl)))

  -- ---- a call that isn't done

  fault : (j : Known) (error : EngineError) → Tied j old → RefusesTurn error old.failed → ShowsFault error j.broken
  fault j Disk tied why = absurd why
  fault j Failed tied why = tied.2 ∙ why
  fault j Memory tied why = tt

  pub record Failing (j : Known) (error : EngineError) : Type 0 where
    pub tied : Tied j new
    pub serves' : Serves clock left_since told may_leave count script first engine new
    pub causes : CausesStay script.design old new
    pub fails : Fails script.design j j error

  pub failing : (j : Known) (error : EngineError) → Tied j old → new.state ≡ old.state
      → ((p : ℕ) → is_begun new.begun p ≡ is_begun old.begun p) → RefusesTurn error old.failed → Failing j error
  failing j error tied same marks why =
      let events : new.state.events ≡ old.state.events = ap (λ (w : World). w.events) same in
      let told = told_none j old new tied s.failed events in record {
        tied = told.tied;
        serves' = serves_same same marks;
        causes = causes_on [] (events ∙ sym (append-nil old.state.events));
        fails = record { looks = record { old = old.state; kept = serves.kept; called = told.called }; shown = fault j error tied why };
      }

  -- ---- a turn

  pub record Went (t : ℕ) (j k : Known) (turn : Turn) : Type 0 where
    pub tied : Tied k new
    pub serves' : Serves clock left_since told may_leave count script first engine new
    pub causes : CausesStay script.design old new
    pub turns : Turns script.design t j k turn

  module _ (t : ℕ) (unfinished : IsUnfinished t old.state) (marks : new.begun ≡ old.begun) (kept : IsKept script.design new.state) where
    pub turn_next : (j : Known) (log : List Event) → Tied j old → Owns j.seen j.mine t → AddsEvent t old.state new.state
        → log ≡ new.state.events → IsNext j.seen j.mine log
    turn_next j log tied own a is = record {
      event = a.event;
      is = is ∙ a.added ∙ ap (λ (l : List Event). l ++ a.event ∷ []) (sym tied.1);
      may = subst (MayAppendBy j.seen j.mine) (sym (turn_moves t a.event a.of_turn)) own;
    }

    pub went_on : (j k : Known) (x : Turn) → Tied j old → IsTurn old.design old.state new.state t x
        → (a : AddsEvent t old.state new.state)
        → ((event : Event) → new.state.events ≡ j.seen ++ event ∷ []
        → k ≡ known true j.broken new.state.events (j.mine ++ (length j.seen, event) ∷ []))
        → Makes t (a.event ∷ []) x
        → Went t j k x
    went_on j k x tied is a append makes =
        let told =
        told_one j k old new a.event tied s.failed a.added
        (append a.event (a.added ∙ ap (λ (l : List Event). l ++ a.event ∷ []) (sym tied.1))) in
        record {
          tied = told.tied;
          serves' = serves_on (a.event ∷ []) a.added kept
              (rw a.added
              (subst (λ (m : List Bool). BeginsNext script first m (old.state.events ++ a.event ∷ [])) (sym marks)
              (next_turned script first old.state.events old.begun t a.event a.of_turn serves.next)));
          causes = causes_on (a.event ∷ []) a.added;
          turns = record {
            old = old.state;
            new = new.state;
            own = a.event ∷ [];
            kept = serves.kept;
            left = kept;
            unfinished = unfinished;
            turns = subst (λ (d : Design). IsTurn d old.state new.state t x) serves.design is;
            makes = makes;
            added = a.added;
            called = told.called;
          };
        }

    pub went_blocked : (j : Known) (holder entry : ℕ) → Tied j old → IsTurn old.design old.state new.state t (turn.Blocked holder entry)
        → new.state ≡ old.state → Went t j j (turn.Blocked holder entry)
    went_blocked j holder entry tied is same =
        let events : new.state.events ≡ old.state.events = ap (λ (w : World). w.events) same in
        let added : new.state.events ≡ old.state.events ++ [] = events ∙ sym (append-nil old.state.events) in
        let told = told_none j old new tied s.failed events in record {
          tied = told.tied;
          serves' = serves_same same (λ p. ap (λ (m : List Bool). is_begun m p) marks);
          causes = causes_on [] added;
          turns = record {
            old = old.state;
            new = new.state;
            own = [];
            kept = serves.kept;
            left = kept;
            unfinished = unfinished;
            turns = subst (λ (d : Design). IsTurn d old.state new.state t (turn.Blocked holder entry)) serves.design is;
            makes = refl;
            added = added;
            called = told.called;
          };
        }

-- a turn that went isn't blocked
pub unblocked : (x : Turn)
    → ((at : At) × (x ≡ turn.Stepped at)) ⊎ (((c : Cause) × (x ≡ turn.Turned c)) ⊎ (((at : At) × (x ≡ turn.Back at)) ⊎ (x ≡ turn.Ended)))
    → (h n : ℕ) → x ≡ turn.Blocked h n → ⊥
unblocked x (inl stepped) h n is = let e = sym stepped.1 ∙ is in cc
unblocked x (inr (inl turned)) h n is = let e = sym turned.1 ∙ is in cc
unblocked x (inr (inr (inl back))) h n is = let e = sym back.1 ∙ is in cc
unblocked x (inr (inr (inr ended))) h n is = let e = sym ended ∙ is in cc

-- what it adds, and makes
pub adds_event : (t : ℕ) (x : Turn) (old new : World) → ((h n : ℕ) → x ≡ turn.Blocked h n → ⊥) → AddsBy old new t x → AddsEvent t old new
adds_event t (turn.Blocked h n) old new other a = absurd (other h n refl)
adds_event t (turn.Stepped at) old new other a = a
adds_event t (turn.Turned c) old new other a = a
adds_event t (turn.Back at) old new other a = a
adds_event t turn.Ended old new other a = a

pub makes_event : (t : ℕ) (x : Turn) (event : Event) → ((h n : ℕ) → x ≡ turn.Blocked h n → ⊥) → IsTurnEvent t event → Makes t (event ∷ []) x
makes_event t (turn.Blocked h n) event other of = absurd (other h n refl)
makes_event t (turn.Stepped at) event other of = record { event = event; of_turn = of; own_is = refl }
makes_event t (turn.Turned c) event other of = record { event = event; of_turn = of; own_is = refl }
makes_event t (turn.Back at) event other of = record { event = event; of_turn = of; own_is = refl }
makes_event t turn.Ended event other of = record { event = event; of_turn = of; own_is = refl }
