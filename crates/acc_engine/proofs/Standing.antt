-- What an engine keeps, as its calls change it; and what a crash leaves of its history.
use Rattle.std.proofs.Common.{◌≡◌, ◌⊎◌, inl, inr, ◌≤◌, ◌++◌, [], ◌∷◌, ℕ, List, Bool, false, Option, Some, length, drop, take, refl}
use Rattle.std.proofs.Common.{sym, ◌∙◌, ap, subst, arith, length-append}
use Rattle.std.proofs.lemmas.List.{append-nil, drop-append-le, take_all, take_at, take-append-le}
use Rattle.acc_base.specs.declared.designs.Design.{Design}
use Rattle.acc_base.specs.declared.machines.Call.{Call}
use Rattle.acc_base.specs.declared.machines.Event.{Event}
use Rattle.acc_base.specs.declared.machines.Event.TheVariants.{Begin}
use Rattle.acc_base.specs.Machine.{World}
use Rattle.acc_disk.specs.Moments.{AtAnyMoment}
use Rattle.acc_lift.proofs.Theorem.{event_logged}
use Rattle.acc_wal.specs.Fronts.{CountsFront}
use Rattle.acc_wal.specs.Journals.{Counts, CountsAll}
use Rattle.acc_wal.specs.Settling.{SameButRoom, PushesSeal}
use Rattle.acc_wal.specs.Wals.{Journal, CountsEither}
use Rattle.acc_wal.proofs.FrontLemmas.{front_of_either, front_goes_on}
use Rattle.acc_wal.proofs.Moments.{weaker}
use Rattle.acc_wal.specs.declared.items.Seal.{Seal}
use Rattle.acc_recover.proofs.Sealed.{events_counted}
use Rattle.acc_machine.specs.Begun.{HasRoom}
use Rattle.acc_machine.specs.Kept.{IsKept}
use Rattle.acc_machine.specs.Turns.{AddsEvent}
use Rattle.acc_machine.proofs.Keeping.{kept_after, kept_same}
use Rattle.acc_engine.specs.Calls.{StaysBut, IsUnmoved, Begins}
use Rattle.acc_engine.specs.Keeping.{Journalled, IsInStep, BeginsFrom, is_begun, times_begun}
use Rattle.acc_engine.specs.Lags.{CatchesUp}
use Rattle.acc_engine.specs.Standing.{IsSound, CountsDurableOrAll}
use Rattle.acc_engine.proofs.InSteps.{begin_begins}

-- ---- what a crash leaves

-- the durable part, or that with the whole tail, in words of the history
pub durable_or_all : (base image : List ℕ) (durable tail history : List Event) → durable ++ tail ≡ history →
    CountsEither base durable tail image
    → CountsDurableOrAll base history (length durable) image
durable_or_all base image durable tail history same (inl before) =
    let fronts : take (length durable) history ≡ durable =
    ap (λ (h : List Event). take (length durable) h) (sym same) ∙ take_at durable tail (length durable) refl in
    inl (subst (λ (events : List Event). Counts image base events) (sym fronts) before)
durable_or_all base image durable tail history same (inr after) =
    inr (subst (λ (events : List Event). Counts image base events) same after)

-- it is a front of the history, of all that was durable at least
pub front_of_durable_or_all : (base image : List ℕ) (history : List Event) (settled : ℕ) → settled ≤ length history →
    CountsDurableOrAll base history settled image
    → CountsFront base history settled image
front_of_durable_or_all base image history settled within (inl before) = record {
  count = settled;
  at_least = omega arith;
  within = within;
  counts = before;
}
front_of_durable_or_all base image history settled within (inr after) = record {
  count = length history;
  at_least = within;
  within = omega arith;
  counts = subst (λ (events : List Event). Counts image base events) (sym (take_all (length history) history (omega arith))) after;
}

-- so at any moment of a call a crash leaves such a front
pub front_at_moments : {D : Type 0} (clock : D → ℕ) (left_since : D → ℕ → List ℕ → Type 0) (old new : D) (base : List ℕ)
    (history : List Event) (settled : ℕ) → settled ≤ length history
    → AtAnyMoment clock left_since old new (CountsDurableOrAll base history settled)
    → AtAnyMoment clock left_since old new (CountsFront base history settled)
front_at_moments clock left_since old new base history settled within run =
    weaker clock left_since old new (CountsDurableOrAll base history settled) (CountsFront base history settled)
    (λ image left. front_of_durable_or_all base image history settled within left) run

-- ---- what is kept

-- an engine of this state and this journal, as contracts see it
abbrev pub seen : {D : Type 0} → Design → World → Journal D → ℕ → List Call → List Bool → Journalled D
seen d w wal found calls marks = record {
  disk = wal.disk;
  version = wal.version;
  base = wal.base;
  seals = wal.seals;
  waiting = wal.waiting;
  design = d;
  state = w;
  settled = length wal.durable;
  found = found;
  calls = calls;
  begun = marks;
  failed = wal.spent;
}

-- what its type keeps, with what the journal tells of its disk
pub sound_in_step : {D : Type 0} (told : D → Option (List ℕ)) (d : Design) (w : World) (wal : Journal D) (found : ℕ) (calls : List Call)
    (marks : List Bool) (lowest : ℕ) → IsInStep d w wal.durable wal.tail found calls marks lowest
    → (wal.spent ≡ false → (file : List ℕ) → told wal.disk ≡ Some file → CountsAll file wal.base wal.version wal.durable wal.seals)
    → IsSound told (seen d w wal found calls marks)
sound_in_step told d w wal found calls marks lowest k counts = record {
  kept = k.state;
  begins = k.begins;
  within = omega (arith, ap length k.same, length-append wal.durable wal.tail);
  counts = λ unfailed file is.
      subst (λ (h : List Event). CountsFront wal.base h (length wal.durable) file) k.same
      (front_of_either wal.base file wal.durable wal.tail
      (inl (events_counted file wal.base wal.version wal.durable wal.seals (counts unfailed file is))));
  journal = λ unfailed file is.
      subst (λ (es : List Event). CountsAll file wal.base wal.version es wal.seals)
      (sym (ap (λ (h : List Event). take (length wal.durable) h) (sym k.same) ∙ take_at wal.durable wal.tail (length wal.durable) refl))
      (counts unfailed file is);
}

-- the journal's room doesn't show
pub seen_again : {D : Type 0} (d d2 : Design) (w w2 : World) (old new : Journal D) (found : ℕ) (calls : List Call) (marks : List Bool)
    → d2 ≡ d → w2 ≡ w → SameButRoom old new → seen d2 w2 new found calls marks ≡ seen d w old found calls marks
seen_again d d2 w w2 old new found calls marks design state same =
    let disk = same.disk in
    let version = same.lists.version in
    let base = same.lists.base in
    let seals = same.lists.seals in
    let waiting = same.lists.waiting in
    let settled = ap length same.lists.durable in
    let failed = same.spent in
    cc

-- what changes neither disk nor script and goes on with the history keeps it, where the state is good and the marks are right
pub sound_on : {D : Type 0} (told : D → Option (List ℕ)) (old new : Journalled D) (more : List Event) → StaysBut old new
    → new.state.events ≡ old.state.events ++ more → IsKept new.design new.state
    → BeginsFrom new.calls new.begun (drop new.found new.state.events) → IsSound told old → IsSound told new
sound_on told old new more stays history kept begins sound = record {
  kept = kept;
  begins = begins;
  within = omega (arith, sound.within, stays.settled, ap length history, length-append old.state.events more);
  counts = λ unfailed file is.
      let was = sound.counts (sym stays.failed ∙ unfailed) file (ap told (sym stays.disk) ∙ is) in
      subst (λ (base : List ℕ). CountsFront base new.state.events new.settled file) (sym stays.base)
      (subst (λ (h : List Event). CountsFront old.base h new.settled file) (sym history)
      (front_goes_on old.base file old.state.events more old.settled new.settled (omega (arith, stays.settled)) was));
  journal = λ unfailed file is.
      let was = sound.journal (sym stays.failed ∙ unfailed) file (ap told (sym stays.disk) ∙ is) in
      let first : take new.settled new.state.events ≡ take old.settled old.state.events =
      ap (λ n. take n new.state.events) stays.settled ∙ ap (λ (h : List Event). take old.settled h) history
      ∙ take-append-le old.settled old.state.events more sound.within in
      subst (λ (base : List ℕ). CountsAll file base new.version (take new.settled new.state.events) new.seals) (sym stays.base)
      (subst (λ n. CountsAll file old.base n (take new.settled new.state.events) new.seals) (sym stays.version)
      (subst (λ (l : List Seal). CountsAll file old.base old.version (take new.settled new.state.events) l) (sym stays.seals)
      (subst (λ (es : List Event). CountsAll file old.base old.version es old.seals) (sym first) was)));
}

-- a turn
module _ {D : Type 0} (told : D → Option (List ℕ)) (d d2 : Design) (w w2 : World) (old mid new : Journal D) (found : ℕ)
    (calls : List Call) (marks : List Bool) (lowest : ℕ) (same : SameButRoom old mid) (up : CatchesUp w2.events mid new) (is : d2 ≡ d)
    (step : IsInStep d2 w2 new.durable new.tail found calls marks lowest) (sound : IsSound told (seen d w old found calls marks)) where
  stays : StaysBut (seen d w old found calls marks) (seen d2 w2 new found calls marks)
  stays = record {
    disk = up.disk ∙ same.disk;
    version = up.version ∙ same.lists.version;
    base = up.base ∙ same.lists.base;
    seals = up.seals ∙ same.lists.seals;
    design = is;
    settled = ap length (up.durable ∙ same.lists.durable);
    found = refl;
    calls = refl;
    failed = up.spent ∙ same.spent;
  }

  on : (more : List Event) → w2.events ≡ w.events ++ more → IsSound told (seen d2 w2 new found calls marks)
  on more history =
      sound_on told (seen d w old found calls marks) (seen d2 w2 new found calls marks) more stays history step.state step.begins sound

  pub sound_turned : (t : ℕ) → (w2.events ≡ w.events) ⊎ AddsEvent t w w2 → IsSound told (seen d2 w2 new found calls marks)
  sound_turned t (inl events) = on [] (events ∙ sym (append-nil w.events))
  sound_turned t (inr turns) = on (turns.event ∷ []) turns.added

-- a state that is put
pub sound_sealed : {D : Type 0} (told : D → Option (List ℕ)) (d : Design) (w : World) (old new : Journal D) (found : ℕ) (calls : List Call)
    (marks : List Bool) (text : List ℕ) → old.spent ≡ false → PushesSeal text old new → IsSound told (seen d w old found calls marks)
    → IsSound told (seen d w new found calls marks)
sound_sealed told d w old new found calls marks text unspent push sound =
    sound_on told (seen d w old found calls marks) (seen d w new found calls marks) [] (record {
      disk = push.disk;
      version = push.version;
      base = push.base;
      seals = push.seals;
      design = refl;
      settled = ap length push.durable;
      found = refl;
      calls = refl;
      failed = push.spent ∙ sym unspent;
    }) (sym (append-nil w.events)) sound.kept sound.begins sound

-- the same calls and events, and other marks of the same places
begins_so : (calls calls2 : List Call) (marks marks2 : List Bool) (events events2 : List Event) → calls2 ≡ calls → events2 ≡ events
    → ((p : ℕ) → is_begun marks2 p ≡ is_begun marks p) → BeginsFrom calls marks events → BeginsFrom calls2 marks2 events2
begins_so calls calls2 marks marks2 events events2 same_calls same_events same_marks b =
    subst (λ (cs : List Call). BeginsFrom cs marks2 events2) (sym same_calls)
    (subst (λ (es : List Event). BeginsFrom calls marks2 es) (sym same_events)
    (record {
      no_crash = b.no_crash;
      places = b.places;
      are = b.are;
      once = λ p. b.once p ∙ ap times_begun (sym (same_marks p));
    }))

module _ {D : Type 0} (told : D → Option (List ℕ)) (old new : Journalled D) (stays : StaysBut old new) (sound : IsSound told old) where
  -- a place that doesn't begin
  pub sound_unmoved : IsUnmoved old new → IsSound told new
  sound_unmoved unmoved =
      let events : new.state.events ≡ old.state.events = ap (λ (w : World). w.events) unmoved.state in
      let later : drop new.found new.state.events ≡ drop old.found old.state.events =
      ap (λ n. drop n new.state.events) stays.found ∙ ap (λ (es : List Event). drop old.found es) events in
      sound_on told old new [] stays (events ∙ sym (append-nil old.state.events))
      (kept_same old.design new.design old.state new.state sound.kept stays.design unmoved.state)
      (begins_so old.calls new.calls old.begun new.begun (drop old.found old.state.events) (drop new.found new.state.events) stays.calls
      later unmoved.marks sound.begins) sound

  -- a place that begins
  pub sound_begun : (place t : ℕ) → old.found ≤ length old.state.events → is_begun old.begun place ≡ false → HasRoom old.state
      → Begins place t old new → IsSound told new
  sound_begun place t within fresh room b =
      let more : new.state.events ≡ old.state.events ++ Begin b.call ∷ [] =
      event_logged old.design old.state (Begin b.call) new.state b.begins in
      let later : drop new.found new.state.events ≡ drop old.found old.state.events ++ Begin b.call ∷ [] =
      ap (λ n. drop n new.state.events) stays.found ∙ ap (λ (es : List Event). drop old.found es) more
      ∙ drop-append-le old.found old.state.events (Begin b.call ∷ []) within in
      sound_on told old new (Begin b.call ∷ []) stays more
      (kept_after old.design new.design old.state new.state (Begin b.call) sound.kept stays.design
      (record { leave = room; event = b.begins }))
      (subst (λ (es : List Event). BeginsFrom new.calls new.begun es) (sym later)
      (subst (λ (cs : List Call). BeginsFrom cs new.begun (drop old.found old.state.events ++ Begin b.call ∷ [])) (sym stays.calls)
      (begin_begins old.calls old.begun new.begun (drop old.found old.state.events) place b.call fresh b.here b.others b.is_call
      sound.begins))) sound
