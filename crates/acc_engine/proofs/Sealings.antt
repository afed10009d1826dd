-- A state that is put behind the history, or isn't, and a settling behind that.
use Rattle.std.proofs.Common.{◌≡◌, ◌≤◌, ◌⊎◌, inl, inr, ℕ, List, [], ◌∷◌, ◌++◌, length, Bool, true, false, Option, Result, Ok, Err, refl}
use Rattle.std.proofs.Common.{sym, ap, subst, ◌∙◌, arith, true≢false}
use Rattle.std.specs.Prelude.{◌==◌}
use Rattle.std.specs.List.{list_any}
use Rattle.std.proofs.lemmas.Bool.{false≢true}
use Rattle.std.proofs.lemmas.Bool.Decides.{nat_tests}
use Rattle.std.proofs.lemmas.List.{append-nil}
use Rattle.std.proofs.lemmas.List.Folds.{Any-from_list_any, list_any-from_Any}
use Rattle.std.proofs.lemmas.List.Quantifiers.{Any-push}
use Rattle.acc_base.specs.Machine.{World}
use Rattle.acc_ckpt.specs.Texts.{text_of}
use Rattle.acc_io.specs.Causes.{Rose}
use Rattle.acc_disk.specs.Moments.{AtAnyMoment}
use Rattle.acc_wal.specs.declared.items.Seal.{Seal}
use Rattle.acc_engine.specs.Calls.{StaysBut, RefusesSettling}
use Rattle.acc_engine.specs.Keeping.{Journalled}
use Rattle.acc_engine.specs.Ready.{IsReady}
use Rattle.acc_engine.specs.Sealing.{IsSealedAt, NeedsNoSeal, SealsSo, EndsSealed, SealedFront, SealedDurableOrAll}
use Rattle.acc_engine.specs.Surviving.{Survives}
use Rattle.acc_engine.specs.declared.errors.EngineError.{EngineError}
use Rattle.acc_engine.specs.declared.errors.EngineError.TheVariants.{Disk, Failed, Memory}
use Rattle.acc_engine.proofs.Surviving.{Kept, goes_stays, goes_more, ready_stays, survives_settled, survives_fault}

-- ---- places of states

pub sealed_at : (seals : List Seal) (n place : ℕ) → n ≡ place → list_any (λ (seal : Seal). seal.place == n) seals ≡ true
    → IsSealedAt place seals
sealed_at seals n place is h =
    let found = Any-from_list_any (λ (seal : Seal). seal.place == n) seals h in
    let test = found.4 in
    let same : found.1.place ≡ n = grind (arith, nat_tests) in
    (found.0, found.1, found.2, found.3, same ∙ is)

pub not_sealed_at : (seals : List Seal) (n place : ℕ) → n ≡ place → list_any (λ (seal : Seal). seal.place == n) seals ≡ false
    → IsSealedAt place seals → ⊥
not_sealed_at seals n place is h found =
    let same : found.1.place ≡ n = found.4 ∙ sym is in
    let test : (found.1.place == n) ≡ true = grind (arith, nat_tests) in
    false≢true (sym h ∙ list_any-from_Any (λ (seal : Seal). seal.place == n) seals (found.0, found.1, found.2, found.3, test))

-- ---- all is durable then, with the state that was put

needs_no_seal : (version another : ℕ) (seals others : List Seal) (w v : World) → another ≡ version → others ≡ seals → v ≡ w
    → NeedsNoSeal version seals w → NeedsNoSeal another others v
needs_no_seal version another seals others w v version_is seals_are world_is h =
    subst (λ n. NeedsNoSeal n others v) (sym version_is)
    (subst (λ (l : List Seal). NeedsNoSeal version l v) (sym seals_are)
    (subst (λ (x : World). NeedsNoSeal version seals x) (sym world_is) h))

pub ends_sealed : {D : Type 0} (sealed : Bool) (old mid new : Journalled D) → SealsSo sealed old mid → StaysBut old mid
    → mid.state ≡ old.state → new.state ≡ mid.state → new.version ≡ mid.version → new.settled ≡ length new.state.events
    → new.failed ≡ false → new.seals ≡ mid.seals ++ mid.waiting → new.waiting ≡ [] → EndsSealed new
ends_sealed true old mid new seals stays same state version all unfailed are none =
    let seal : Seal = record { place = length old.state.events; text = text_of old.state.rows } in
    let more : new.seals ≡ mid.seals ++ seal ∷ [] = are ∙ ap (λ (l : List Seal). mid.seals ++ l) seals.0 in
    let place : seal.place ≡ length new.state.events = ap (λ (w : World). length w.events) (sym (state ∙ same)) in
    record {
      settled = all;
      unfailed = unfailed;
      waiting = none;
      last = inr (inr (subst (λ (l : List Seal). IsSealedAt (length new.state.events) l) (sym more)
          (Any-push (λ (s : Seal). s.place ≡ length new.state.events) mid.seals seal place)));
    }
ends_sealed false old mid new seals stays same state version all unfailed are none = record {
  settled = all;
  unfailed = unfailed;
  waiting = none;
  last =
      needs_no_seal old.version new.version old.seals new.seals old.state new.state (version ∙ stays.version)
      (are ∙ ap (λ (l : List Seal). mid.seals ++ l) seals.0 ∙ append-nil mid.seals ∙ stays.seals) (state ∙ same) seals.1;
}

-- ---- what is kept

-- it hadn't failed where a state was put, or none was to be
pub unfailed_ok : {T : Type 0} (failed : Bool) (r : Result T EngineError) (x : T) → r ≡ Ok x → (failed ≡ true → r ≡ Err Failed)
    → failed ≡ false
unfailed_ok false r x is stuck = refl
unfailed_ok true r x is stuck = let e = sym is ∙ stuck refl in absurd cc

module _ {D : Type 0} (clock : D → ℕ) (left_since : D → ℕ → List ℕ → Type 0) (told : D → Option (List ℕ)) (may_leave : D → List ℕ → Type 0)
    (count : D → ℕ) (only_now : (disk : D) (image : List ℕ) → left_since disk (clock disk) image → may_leave disk image)
    (old mid new : Journalled D) (s : StaysBut old mid) (same : mid.state ≡ old.state) where
  events : mid.state.events ≡ old.state.events ++ []
  events = ap (λ (w : World). w.events) same ∙ sym (append-nil old.state.events)

  again : IsReady told may_leave old → IsReady told may_leave mid
  again = ready_stays told may_leave old mid [] s events

  -- of calls behind one that leaves the disk and the state, whatever waits
  from_old : Survives clock left_since told may_leave count mid new → (new.failed ≡ false → new.waiting ≡ [])
      → Survives clock left_since told may_leave count old new
  from_old b none = record {
    goes_on = goes_more old mid new (goes_stays old mid [] s events) b.goes_on;
    settled = omega (arith, s.settled, b.settled);
    waiting = λ _ unfailed. none unfailed;
    faults = let e = ap count s.disk in omega (arith, e, b.faults);
    rose = λ failed. rose (b.rose failed);
    stays_failed = λ failed. b.stays_failed (s.failed ∙ failed);
    moments = λ ready.
        subst (λ x. AtAnyMoment clock left_since x new.disk (SealedFront new.design old.base new.state.events old.settled)) s.disk
        (subst (λ (l : List ℕ). AtAnyMoment clock left_since mid.disk new.disk (SealedFront new.design l new.state.events old.settled))
        s.base
        (subst (λ (n : ℕ). AtAnyMoment clock left_since mid.disk new.disk (SealedFront new.design mid.base new.state.events n)) s.settled
        (b.moments (again ready))));
    left = λ ready. b.left (again ready);
    ready = λ ready. b.ready (again ready);
  }
    where
      rose : (mid.failed ≡ true) ⊎ Rose (count mid.disk) (count new.disk) → (old.failed ≡ true) ⊎ Rose (count old.disk) (count new.disk)
      rose (inl failed) = inl (sym s.failed ∙ failed)
      rose (inr more) = inr (let e = ap count s.disk in omega (arith, e, more))

  module _ (k : Kept mid new) (unfailed : mid.failed ≡ false) (within : mid.settled ≤ length mid.state.events)
      (moments : IsReady told may_leave mid → AtAnyMoment clock left_since mid.disk new.disk
      (SealedDurableOrAll mid.design mid.base mid.state.events mid.settled)) (faults : count mid.disk ≤ count new.disk) where
    -- all is durable then
    pub sealed_survives : new.settled ≡ length new.state.events → new.failed ≡ false → new.waiting ≡ []
        → (IsReady told may_leave mid → IsReady told may_leave new) → Survives clock left_since told may_leave count old new
    sealed_survives all now none ready =
        from_old
        (survives_settled clock left_since told may_leave count only_now mid new k unfailed within moments faults all now none ready)
        (λ _. none)

    -- its disk has failed
    pub sealing_fails : ((disk : D) (time : ℕ) (image : List ℕ) → time ≤ clock disk → may_leave disk image → left_since disk time image)
        → (error : EngineError) → RefusesSettling error mid.failed new.failed (Rose (count mid.disk) (count new.disk))
        → new.settled ≡ mid.settled → Survives clock left_since told may_leave count old new
    sealing_fails counts_now Disk why kept =
        from_old
        (survives_fault clock left_since told may_leave count only_now mid new k unfailed within moments faults counts_now kept why.1 why.2)
        (λ now. absurd (true≢false (sym why.1 ∙ now)))
    sealing_fails counts_now Failed why kept = absurd (true≢false (sym why ∙ unfailed))
    sealing_fails counts_now Memory why kept = absurd why
