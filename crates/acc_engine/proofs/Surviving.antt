-- Calls of an engine, put together: what is kept through each of them is kept through all.
use Rattle.std.proofs.Common.{◌≡◌, ◌≤◌, ◌⊎◌, inl, inr, ◌++◌, ℕ, List, [], length, length-append, Bool, true, false, Option, Some, None}
use Rattle.std.proofs.Common.{refl, take, sym, ◌∙◌, ap, subst, arith, append_assoc, true≢false}
use Rattle.std.proofs.lemmas.List.{append-nil}
use Rattle.acc_base.specs.declared.designs.Design.{Design}
use Rattle.acc_base.specs.declared.machines.Event.{Event}
use Rattle.acc_base.specs.Machine.{World}
use Rattle.acc_io.specs.Causes.{Rose}
use Rattle.acc_disk.specs.Crashes.{Only, IsCalm}
use Rattle.acc_disk.specs.Moments.{AtAnyMoment}
use Rattle.acc_wal.proofs.Moments.{started, weaker, together}
use Rattle.acc_recover.specs.Seals.{HasSealsOver}
use Rattle.acc_engine.specs.Calls.{StaysBut}
use Rattle.acc_engine.specs.Keeping.{Journalled}
use Rattle.acc_engine.specs.Ready.{IsReady}
use Rattle.acc_engine.specs.Sealing.{SealedFront, SealedDurableOrAll}
use Rattle.acc_engine.specs.Surviving.{GoesOn, Survives}
use Rattle.acc_engine.proofs.Sealed.{sealed_goes_on, sealed_at_moments}

-- ---- histories

pub stays_none : {D : Type 0} (e : Journalled D) → StaysBut e e
stays_none e = record {
  disk = refl;
  version = refl;
  base = refl;
  seals = refl;
  design = refl;
  settled = refl;
  found = refl;
  calls = refl;
  failed = refl;
}

pub goes_stays : {D : Type 0} (old new : Journalled D) (more : List Event) → StaysBut old new → new.state.events ≡ old.state.events ++ more
    → GoesOn old new
goes_stays old new more s is =
    record { base = s.base; design = s.design; calls = s.calls; found = s.found; more = more; history = is }

pub goes_more : {D : Type 0} (old mid new : Journalled D) → GoesOn old mid → GoesOn mid new → GoesOn old new
goes_more old mid new a b = record {
  base = b.base ∙ a.base;
  design = b.design ∙ a.design;
  calls = b.calls ∙ a.calls;
  found = b.found ∙ a.found;
  more = a.more ++ b.more;
  history = b.history ∙ ap (λ (l : List Event). l ++ b.more) a.history ∙ append_assoc old.state.events a.more b.more;
}

pub grows : {D : Type 0} (old new : Journalled D) → GoesOn old new → length old.state.events ≤ length new.state.events
grows old new on =
    let longer = ap length on.history ∙ length-append old.state.events on.more in
    omega (arith, longer)

-- ---- disks

pub calm_file : (told : Option (List ℕ)) (may_leave : List ℕ → Type 0) → IsCalm told may_leave
    → (file : List ℕ) × (told ≡ Some file) × Only file may_leave
calm_file None may_leave calm = absurd calm
calm_file (Some file) may_leave calm = (file, refl, calm)

-- ---- failures

-- it fails only where the count rose, in the first calls or in those behind them
rose_since : {D : Type 0} (count : D → ℕ) (old mid new : Journalled D) → count old.disk ≤ count mid.disk → count mid.disk ≤ count new.disk
    → (mid.failed ≡ true → (old.failed ≡ true) ⊎ Rose (count old.disk) (count mid.disk))
    → (mid.failed ≡ true) ⊎ Rose (count mid.disk) (count new.disk) → (old.failed ≡ true) ⊎ Rose (count old.disk) (count new.disk)
rose_since count old mid new first second before (inl failed) = by (before failed)
  where
    by : (old.failed ≡ true) ⊎ Rose (count old.disk) (count mid.disk) → (old.failed ≡ true) ⊎ Rose (count old.disk) (count new.disk)
    by (inl had) = inl had
    by (inr rose) = inr (omega (arith, second, rose))
rose_since count old mid new first second before (inr rose) = inr (omega (arith, first, rose))

-- what a settling leaves as it was: the state, the script, and the journal's base and version
pub record Kept {D : Type 0} (old new : Journalled D) : Type 0 where
  pub kept : (new.state ≡ old.state) × (new.base ≡ old.base) × (new.design ≡ old.design) × (new.version ≡ old.version)
  pub calls : (new.calls ≡ old.calls) × (new.begun ≡ old.begun) × (new.found ≡ old.found)

goes_settled : {D : Type 0} (old new : Journalled D) → Kept old new → GoesOn old new
goes_settled old new k = record {
  base = k.kept.1;
  design = k.kept.2;
  calls = k.calls.0;
  found = k.calls.2;
  more = [];
  history = ap (λ (w : World). w.events) k.kept.0 ∙ sym (append-nil old.state.events);
}

-- ---- the next call may come

-- a front of the one history is one of a history that goes on from it
front_on : {D : Type 0} (old new : Journalled D) (image : List ℕ) → GoesOn old new
    → SealedFront old.design old.base old.state.events old.settled image → SealedFront new.design new.base new.state.events old.settled image
front_on old new image on front =
    subst (λ (d : Design). SealedFront d new.base new.state.events old.settled image) (sym on.design)
    (subst (λ (b : List ℕ). SealedFront old.design b new.state.events old.settled image) (sym on.base)
    (subst (λ (h : List Event). SealedFront old.design old.base h old.settled image) (sym on.history)
    (sealed_goes_on old.design old.base image old.state.events on.more old.settled old.settled (omega arith) front)))

module _ {D : Type 0} (told : D → Option (List ℕ)) (may_leave : D → List ℕ → Type 0) where
  -- a call that leaves the disk
  pub ready_stays : (old new : Journalled D) (more : List Event) → StaysBut old new → new.state.events ≡ old.state.events ++ more
      → IsReady told may_leave old → IsReady told may_leave new
  ready_stays old new more s is ready = record {
    unfailed = s.failed ∙ ready.unfailed;
    calm = subst (λ d. IsCalm (told d) (may_leave d)) (sym s.disk) ready.calm;
    counts = λ file is_told.
        subst (λ (n : ℕ). SealedFront new.design new.base new.state.events n file) (sym s.settled)
        (front_on old new file (goes_stays old new more s is) (ready.counts file (ap told (sym s.disk) ∙ is_told)));
  }

  -- what a crash leaves then
  left_now : (e : Journalled D) → IsReady told may_leave e → (image : List ℕ) → may_leave e.disk image
      → SealedFront e.design e.base e.state.events e.settled image
  left_now e ready image left =
      let is = calm_file (told e.disk) (may_leave e.disk) ready.calm in
      subst (λ (f : List ℕ). SealedFront e.design e.base e.state.events e.settled f) (sym (is.2 image left)) (ready.counts is.0 is.1)

module _ {D : Type 0} (clock : D → ℕ) (left_since : D → ℕ → List ℕ → Type 0) (told : D → Option (List ℕ)) (may_leave : D → List ℕ → Type 0)
    (count : D → ℕ) (only_now : (disk : D) (image : List ℕ) → left_since disk (clock disk) image → may_leave disk image) where
  here : (e : Journalled D) → IsReady told may_leave e
      → AtAnyMoment clock left_since e.disk e.disk (SealedFront e.design e.base e.state.events e.settled)
  here e ready =
      started clock left_since e.disk (SealedFront e.design e.base e.state.events e.settled)
      (λ image left. left_now told may_leave e ready image (only_now e.disk image left))

  -- at any moment of some calls, in words of the history that goes on, from its base
  on_at_moments : (old new : Journalled D) → GoesOn old new → (from to : D)
      → AtAnyMoment clock left_since from to (SealedFront old.design old.base old.state.events old.settled)
      → AtAnyMoment clock left_since from to (SealedFront new.design old.base new.state.events old.settled)
  on_at_moments old new on from to run =
      weaker clock left_since from to (SealedFront old.design old.base old.state.events old.settled)
      (SealedFront new.design old.base new.state.events old.settled)
      (λ image front. subst (λ (b : List ℕ). SealedFront new.design b new.state.events old.settled image) on.base
      (front_on old new image on front)) run

  -- ---- a call that leaves the disk, and makes these events
  pub survives_stays : (old new : Journalled D) (more : List Event) → StaysBut old new → new.waiting ≡ old.waiting
      → new.state.events ≡ old.state.events ++ more → Survives clock left_since told may_leave count old new
  survives_stays old new more s waiting is = record {
    goes_on = goes_stays old new more s is;
    settled = omega (arith, s.settled);
    waiting = λ none unfailed. waiting ∙ none;
    faults = let e = ap count s.disk in omega (arith, e);
    rose = λ failed. inl (sym s.failed ∙ failed);
    stays_failed = λ failed. s.failed ∙ failed;
    moments = λ ready.
        subst (λ d. AtAnyMoment clock left_since old.disk d (SealedFront new.design old.base new.state.events old.settled)) (sym s.disk)
        (on_at_moments old new (goes_stays old new more s is) old.disk old.disk (here old ready));
    left = λ ready. left_now told may_leave new (ready_stays told may_leave old new more s is ready);
    ready = λ ready _. ready_stays told may_leave old new more s is ready;
  }

  -- no call
  pub survives_none : (e : Journalled D) → Survives clock left_since told may_leave count e e
  survives_none e = survives_stays e e [] (stays_none e) refl (sym (append-nil e.state.events))

  -- ---- calls behind calls

  -- where the first leave the disk calm, if it was
  pub survives_behind : (old mid new : Journalled D) → Survives clock left_since told may_leave count old mid
      → (IsReady told may_leave old → IsReady told may_leave mid) → Survives clock left_since told may_leave count mid new
      → Survives clock left_since told may_leave count old new
  survives_behind old mid new a ready_again b =
      let P = SealedFront new.design old.base new.state.events old.settled in
      let first : (image : List ℕ) → SealedFront mid.design old.base mid.state.events old.settled image → P image =
      λ image front. subst (λ (d : Design). SealedFront d old.base new.state.events old.settled image) (sym b.goes_on.design)
      (subst (λ (h : List Event). SealedFront mid.design old.base h old.settled image) (sym b.goes_on.history)
      (sealed_goes_on mid.design old.base image mid.state.events b.goes_on.more old.settled old.settled (omega arith) front)) in
      let second : (image : List ℕ) → SealedFront new.design mid.base new.state.events mid.settled image → P image =
      λ image front. record {
        count = front.count;
        at_least = omega (arith, a.settled, front.at_least);
        within = front.within;
        sealed = subst (λ (b : List ℕ). HasSealsOver b new.design (take front.count new.state.events) image) a.goes_on.base front.sealed;
      } in
      record {
        goes_on = goes_more old mid new a.goes_on b.goes_on;
        settled = omega (arith, a.settled, b.settled);
        waiting = λ none unfailed. b.waiting (a.waiting none (unfailed_before mid new b unfailed)) unfailed;
        faults = omega (arith, a.faults, b.faults);
        rose = λ failed. rose_since count old mid new a.faults b.faults a.rose (b.rose failed);
        stays_failed = λ failed. b.stays_failed (a.stays_failed failed);
        moments = λ ready.
            together clock left_since old.disk mid.disk new.disk P
            (weaker clock left_since old.disk mid.disk (SealedFront mid.design old.base mid.state.events old.settled) P first
            (a.moments ready))
            (weaker clock left_since mid.disk new.disk (SealedFront new.design mid.base new.state.events mid.settled) P second
            (b.moments (ready_again ready)));
        left = λ ready. b.left (ready_again ready);
        ready = λ ready. b.ready (ready_again ready);
      }
    where
      unfailed_before : (e f : Journalled D) → Survives clock left_since told may_leave count e f → f.failed ≡ false → e.failed ≡ false
      unfailed_before e f s unfailed = by e.failed refl
        where
          by : (x : Bool) → e.failed ≡ x → e.failed ≡ false
          by true is = absurd (true≢false (sym (s.stays_failed is) ∙ unfailed))
          by false is = is

  -- where those behind do nothing if the engine has failed
  pub survives_more : (old mid new : Journalled D) → Survives clock left_since told may_leave count old mid
      → Survives clock left_since told may_leave count mid new → (mid.failed ≡ true → new ≡ mid)
      → Survives clock left_since told may_leave count old new
  survives_more old mid new a b stuck = by mid.failed refl
    where
      by : (f : Bool) → mid.failed ≡ f → Survives clock left_since told may_leave count old new
      by true is = subst (λ (e : Journalled D). Survives clock left_since told may_leave count old e) (sym (stuck is)) a
      by false is = survives_behind old mid new a (λ ready. a.ready ready is) b

  -- ---- a settling

  module _ (old new : Journalled D) (k : Kept old new) (unfailed : old.failed ≡ false) (within : old.settled ≤ length old.state.events)
      (moments : IsReady told may_leave old → AtAnyMoment clock left_since old.disk new.disk
      (SealedDurableOrAll old.design old.base old.state.events old.settled)) (faults : count old.disk ≤ count new.disk) where
    since_then : IsReady told may_leave old
        → AtAnyMoment clock left_since old.disk new.disk (SealedFront new.design old.base new.state.events old.settled)
    since_then ready =
        on_at_moments old new (goes_settled old new k) old.disk new.disk
        (sealed_at_moments clock left_since old.disk new.disk old.design old.base old.state.events old.settled within (moments ready))

    -- all is durable then
    pub survives_settled : new.settled ≡ length new.state.events → new.failed ≡ false → new.waiting ≡ []
        → (IsReady told may_leave old → IsReady told may_leave new) → Survives clock left_since told may_leave count old new
    survives_settled all now none ready = record {
      goes_on = goes_settled old new k;
      settled = let e = ap (λ (w : World). length w.events) k.kept.0 in omega (arith, within, all, e);
      waiting = λ was _. none;
      faults = faults;
      rose = λ failed. absurd (true≢false (sym failed ∙ now));
      stays_failed = λ failed. absurd (true≢false (sym failed ∙ unfailed));
      moments = since_then;
      left = λ was. left_now told may_leave new (ready was);
      ready = λ was _. ready was;
    }

    -- its disk has failed
    pub survives_fault : ((disk : D) (time : ℕ) (image : List ℕ) → time ≤ clock disk → may_leave disk image → left_since disk time image)
        → new.settled ≡ old.settled → new.failed ≡ true → Rose (count old.disk) (count new.disk)
        → Survives clock left_since told may_leave count old new
    survives_fault counts_now same failed rose = record {
      goes_on = goes_settled old new k;
      settled = omega (arith, same);
      waiting = λ _ now. absurd (true≢false (sym failed ∙ now));
      faults = faults;
      rose = λ _. inr rose;
      stays_failed = λ _. failed;
      moments = since_then;
      left = λ ready image left.
          let run = since_then ready in
          let front = run.each image (counts_now new.disk (clock old.disk) image run.later left) in
          subst (λ (n : ℕ). SealedFront new.design new.base new.state.events n image) (sym same)
          (subst (λ (b : List ℕ). SealedFront new.design b new.state.events old.settled image) (sym k.kept.1) front);
      ready = λ _ now. absurd (true≢false (sym failed ∙ now));
    }
