-- What comes of beginning a place of an engine.
use Rattle.std.proofs.Common.{◌≡◌, ◌≤◌, ◌<◌, ◌-◌, ℕ, zero, suc, List, [], ◌∷◌, length, Option, Some, None, false, refl}
use Rattle.std.proofs.Common.{sym, ap, ◌∙◌, arith}
use Rattle.std.specs.Prelude.{◌≢◌, Ok, slice_get}
use Rattle.std.proofs.lemmas.List.{append-nil}
use Rattle.acc_base.specs.declared.machines.Call.{Call}
use Rattle.acc_base.specs.declared.machines.Event.TheVariants.{Begin}
use Rattle.acc_base.specs.Machine.{World}
use Rattle.acc_machine.specs.Begun.{HasRoom}
use Rattle.acc_engine.specs.Calls.{Draws, Begins, StaysBut, RefusesTurn}
use Rattle.acc_engine.specs.Keeping.{Journalled}
use Rattle.acc_engine.specs.declared.errors.Drawn.{Drawn}
use Rattle.acc_engine.specs.declared.errors.Drawn.TheVariants.{Begun, Empty, Full, Crowd}
use Rattle.acc_engine.specs.declared.errors.EngineError.{EngineError}
use Rattle.acc_engine.specs.declared.errors.EngineError.TheVariants as engine_error
use Rattle.acc_player.specs.declared.stops.Stop.{Stop}
use Rattle.acc_player.specs.declared.stops.Stop.TheVariants.{Memory}
use Rattle.acc_player.specs.Players.{BeginsAt, CanStart, IsNoBegin}
use Rattle.acc_player.proofs.Items.{item_is}
use Rattle.acc_lock_rules.specs.LockRules.{with_locks}
use Rattle.acc_lock_rules.proofs.Rooms.{no_room_when_full, no_room_in_a_crowd}
use Rattle.acc_settling.specs.Chains.{but_one, runs_stays, again_stays}
use Rattle.acc_settling.specs.Leaving.{number_in, stop_of, LeavesEngine}
use Rattle.acc_settling.specs.Openings.{CanBegin}
use Rattle.acc_settling.proofs.Acks.{begin_history, acked_begun, one_same, acked_same}

-- each place has its call
call_there : (calls : List Call) (i : ℕ) → i < length calls → (call : Call) × (slice_get calls i ≡ Some call)
call_there [] i less = absurd (omega (arith, less))
call_there (call ∷ calls) zero less = (call, refl)
call_there (call ∷ calls) (suc i) less = call_there calls i (omega (arith, less))

module _ {D : Type 0} (old new : Journalled D) (place : ℕ) (above : 0 < place) where
  -- a call begins where there is room
  begins_so : (t : ℕ) → Draws (Begun t) (place - 1) old new
      → BeginsAt (with_locks old.design) old.calls place old.state (Some t) new.state
  begins_so t h = record {
    call = h.0.call;
    is_call = item_is place old.calls h.0.call above h.0.is_call;
    world = Some new.state;
    allowed = ((h.1, h.2), h.0.begins);
    comes = (h.0.number, refl);
  }

  -- or can't, where there is none
  cannot_so : place ≤ length old.calls → ¬ HasRoom old.state → new.state ≡ old.state
      → BeginsAt (with_locks old.design) old.calls place old.state None new.state
  cannot_so high full same =
      let there = call_there old.calls (place - 1) (omega (arith, above, high)) in
      record {
        call = there.0;
        is_call = item_is place old.calls there.0 above there.1;
        world = None;
        allowed = full;
        comes = same;
      }

  pub draws_begin : (drawn : Drawn) → place ≤ length old.calls → Draws drawn (place - 1) old new
      → BeginsAt (with_locks old.design) old.calls place old.state (number_in drawn) new.state
  draws_begin (Begun t) high h = begins_so t h
  draws_begin Empty high h = absurd h
  draws_begin Full high h = cannot_so high (no_room_when_full old.state h.0) h.1.state
  draws_begin Crowd high h = cannot_so high (no_room_in_a_crowd old.state h.1) h.2.state

  pub draws_others : (drawn : Drawn) → Draws drawn (place - 1) old new → (at : ℕ) → at ≢ place - 1 → CanBegin old at → CanBegin new at
  draws_others (Begun t) h at other fresh = h.0.others at other ∙ fresh
  draws_others Empty h at other fresh = absurd h
  draws_others Full h at other fresh = h.1.marks at ∙ fresh
  draws_others Crowd h at other fresh = h.2.marks at ∙ fresh

  pub draws_none : (drawn : Drawn) → Draws drawn (place - 1) old new → IsNoBegin {E = Stop} (Ok (number_in drawn)) → (at : ℕ)
      → CanBegin old at → CanBegin new at
  draws_none (Begun t) h none at fresh = absurd none
  draws_none Empty h none at fresh = absurd h
  draws_none Full h none at fresh = h.1.marks at ∙ fresh
  draws_none Crowd h none at fresh = h.2.marks at ∙ fresh

-- want of memory is told where there is room for the call
pub room_to_start : {D : Type 0} (old : Journalled D) (place : ℕ) (error : EngineError)
    → (error ≡ engine_error.Memory → HasRoom old.state) → stop_of error ≡ Memory
    → CanStart (with_locks old.design) old.calls place old.state
room_to_start old place engine_error.Disk room is call at full = absurd (let e = is in cc)
room_to_start old place engine_error.Failed room is call at full = absurd (let e = is in cc)
room_to_start old place engine_error.Memory room is call at full = full (room refl)

module _ {D : Type 0} (clock : D → ℕ) (left_since : D → ℕ → List ℕ → Type 0) (told : D → Option (List ℕ)) (may_leave : D → List ℕ → Type 0)
    (count : D → ℕ) (only_now : (disk : D) (image : List ℕ) → left_since disk (clock disk) image → may_leave disk image)
    (old new : Journalled D) (stays : StaysBut old new) (waiting : new.waiting ≡ old.waiting) (unfailed : old.failed ≡ false)
    (within : old.settled ≤ length old.state.events) where
  begun_leaves : (place t : ℕ) → Begins place t old new → LeavesEngine clock left_since told may_leave count None old new
  begun_leaves place t begins =
      let history = begin_history old new place t stays begins in
      let acked = acked_begun old new place t stays begins within in (
        runs_stays clock left_since told may_leave count only_now old new (Begin begins.call ∷ []) stays waiting history
            (λ a. but_one new (acked a)),
        again_stays told may_leave old new (Begin begins.call ∷ []) stays history unfailed acked,
      )

  same_leaves : new.state ≡ old.state → LeavesEngine clock left_since told may_leave count None old new
  same_leaves same =
      let history = ap (λ (w : World). w.events) same ∙ sym (append-nil old.state.events) in (
        runs_stays clock left_since told may_leave count only_now old new [] stays waiting history (one_same old new stays same within),
        again_stays told may_leave old new [] stays history unfailed (acked_same old new stays same within),
      )

  pub draws_leave : (place : ℕ) (drawn : Drawn) → Draws drawn place old new
      → LeavesEngine clock left_since told may_leave count None old new
  draws_leave place (Begun t) h = begun_leaves place t h.0
  draws_leave place Empty h = absurd h
  draws_leave place Full h = same_leaves h.1.state
  draws_leave place Crowd h = same_leaves h.2.state

  -- a begin or a turn that is refused
  pub refuses_leave : (error : EngineError) → RefusesTurn error old.failed → new.state ≡ old.state
      → LeavesEngine clock left_since told may_leave count (Some (stop_of error)) old new
  refuses_leave engine_error.Disk why same = absurd why
  refuses_leave engine_error.Failed why same = absurd (let e = sym unfailed ∙ why in cc)
  refuses_leave engine_error.Memory why same = ((same_leaves same).0, stays.failed ∙ unfailed)
