-- A recovered journal, with the text of the rows behind it where the history has grown.
use Rattle.std.proofs.Common.{◌≡◌, ◌≤◌, ◌<◌, inl, inr, ⊎_elim, ℕ, zero, suc, List, [], ◌∷◌, length, Option, Some, Result, Ok, Err}
use Rattle.std.proofs.Common.{refl, sym, ap, subst, ◌∙◌, arith}
use Rattle.std.specs.Prelude.{◌⊎◌, Bool, IfSome, IfOk, OnOk, IfErr, false}
use Rattle.std.proofs.lemmas.List.{append-nil, take_all}
use Rattle.acc_base.specs.Annotated.{IsIdle}
use Rattle.acc_base.specs.Lawful.{LeadLawfully}
use Rattle.acc_base.specs.Machine.{World, start, unfinished}
use Rattle.acc_base.specs.declared.designs.Design.{Design}
use Rattle.acc_base.specs.declared.machines.Event.{Event}
use Rattle.acc_base.specs.declared.machines.Frame.{Frame}
use Rattle.acc_disk.specs.Crashes.{IsCalm}
use Rattle.acc_disk.specs.Moments.{AtAnyMoment}
use Rattle.acc_engine.specs.Calls.{StopsSealing}
use Rattle.acc_engine.specs.Keeping.{Journalled}
use Rattle.acc_engine.specs.Ready.{IsReady}
use Rattle.acc_engine.specs.Sealing.{NeedsNoSeal, SealedFront}
use Rattle.acc_engine.specs.Surviving.{Survives}
use Rattle.acc_engine.proofs.Sealed.{front_of_all}
use Rattle.acc_engine.specs.declared.errors.EngineError.{EngineError}
use Rattle.acc_engine.specs.declared.errors.EngineError.TheVariants as engine
use Rattle.acc_io.specs.Causes.{Rose}
use Rattle.acc_machine.proofs.Replaying.{lead_logs}
use Rattle.acc_print.specs.Designs.{printed}
use Rattle.acc_wal.specs.Journals.{Counts, CountsAll}
use Rattle.acc_wal.specs.Wals.{Journal, IsOpened}
use Rattle.acc_wal.specs.declared.items.Seal.{Seal}
use Rattle.acc_wal.proofs.Keeping.{calm_is}
use Rattle.acc_wal.proofs.Moments.{together, weaker, if_some}
use Rattle.acc_wal.proofs.Once.{one_reading}
use Rattle.acc_recover.specs.Answers.{RecoversFile}
use Rattle.acc_recover.specs.Recoveries.{IsRecovery, LeavesUnfinished, LeavesRecovery}
use Rattle.acc_recover.specs.Seals.{AreSealsOf, IsSealed}
use Rattle.acc_recover.proofs.Sealed.{events_counted, counted_within, seals_go_on}
use Rattle.acc_recover.proofs.Single.{one_recovery}
use Rattle.acc_journalled.specs.Recovering.{IsRecoveredFrom, RecoversState, StopsBehind, FailsToSeal}
use Rattle.acc_journalled.specs.Tellings.{Telling, SaysFault}
use Rattle.acc_journalled.specs.Sealing.{HasLongText, SealsGrowth, EndsAt}
use Rattle.acc_journalled.proofs.Endings.{holds, sealed_so}
use Rattle.acc_journalled.proofs.Places.{ends_at}

-- ---- an engine over a recovered journal

-- it is safe against crashes where the disk is calm
pub ready_over : {D : Type 0} (told : D → Option (List ℕ)) (may_leave : D → List ℕ → Type 0) (e : Journalled D) (version : ℕ)
    (seals : List Seal)
    → e.failed ≡ false → e.settled ≡ length e.state.events → IsCalm (told e.disk) (may_leave e.disk)
    → AreSealsOf e.design e.state.events seals
    → ((file : List ℕ) → told e.disk ≡ Some file → CountsAll file e.base version e.state.events seals) → IsReady told may_leave e
ready_over told may_leave e version seals unfailed settled calm each counts = record {
  unfailed = unfailed;
  calm = calm;
  counts = λ file is.
      front_of_all e.design e.base file e.state.events e.settled (omega (arith, settled))
      (version, seals, record { counts = counts file is; each = each });
}

-- a front with all events is all of them
pub all_of_front : (d : Design) (base : List ℕ) (events : List Event) (least : ℕ) (image : List ℕ) → length events ≤ least
    → SealedFront d base events least image → Counts image base events
all_of_front d base events least image all f =
    subst (λ (es : List Event). Counts image base es) (take_all f.count events (omega (arith, all, f.at_least)))
    (events_counted image base f.sealed.0 _ f.sealed.1 f.sealed.2.counts)

-- what a crash leaves of a calm disk that holds such a journal
pub calm_counts : {D : Type 0} (wal : Journal D) (told : Option (List ℕ)) (may_leave : List ℕ → Type 0) (events : List Event)
    → wal.durable ≡ events
    → ((file : List ℕ) → told ≡ Some file → CountsAll file wal.base wal.version wal.durable wal.seals) → IsCalm told may_leave
    → (image : List ℕ) → may_leave image → Counts image wal.base events
calm_counts wal told may_leave events durable counts calm image left =
    let now = calm_is told may_leave calm in
    subst (λ (es : List Event). Counts image wal.base es) durable
    (subst (λ f. Counts f wal.base wal.durable) (sym (now.2 image left))
    (events_counted now.0 wal.base wal.version wal.durable wal.seals (counts now.0 now.1)))

-- an engine was made over a journal, survived a call that kept the state, and gave the disk back
module _ {D : Type 0} (clock : D → ℕ) (left_since : D → ℕ → List ℕ → Type 0) (told : D → Option (List ℕ))
    (may_leave : D → List ℕ → Type 0) (count : D → ℕ) (d : Design) (w : World) (wal : Journal D) (e now : Journalled D) (end : D)
    (state : (e.state ≡ w) × (e.design ≡ d)) (journal : (e.disk ≡ wal.disk) × (e.base ≡ wal.base) × (e.failed ≡ false))
    (all : e.settled ≡ length e.state.events) (kept : now.state ≡ e.state)
    (survives : Survives clock left_since told may_leave count e now) (back : end ≡ now.disk) (durable : wal.durable ≡ w.events)
    (counts : (file : List ℕ) → told wal.disk ≡ Some file → CountsAll file wal.base wal.version wal.durable wal.seals)
    (calm : IsCalm (told wal.disk) (may_leave wal.disk)) (each : AreSealsOf d w.events wal.seals) where
  events_are : e.state.events ≡ w.events
  events_are = ap (λ (x : World). x.events) state.0

  ready : IsReady told may_leave e
  ready =
      ready_over told may_leave e wal.version wal.seals journal.2 all
      (subst (λ x. IsCalm (told x) (may_leave x)) (sym journal.0) calm)
      (subst (λ (es : List Event). AreSealsOf e.design es wal.seals) (sym events_are)
      (subst (λ x. AreSealsOf x w.events wal.seals) (sym state.1) each))
      (λ file is.
      subst (λ (b : List ℕ). CountsAll file b wal.version e.state.events wal.seals) (sym journal.1)
      (subst (λ (es : List Event). CountsAll file wal.base wal.version es wal.seals) (durable ∙ sym events_are)
      (counts file (ap told (sym journal.0) ∙ is))))

  of_all : (base : List ℕ) (least : ℕ) (image : List ℕ) → base ≡ wal.base → length e.state.events ≤ least
      → SealedFront now.design base now.state.events least image → Counts image wal.base w.events
  of_all base least image same enough f =
      subst (λ (b : List ℕ). Counts image b w.events) same
      (subst (λ (es : List Event). Counts image base es) (ap (λ (x : World). x.events) kept ∙ events_are)
      (all_of_front now.design base now.state.events least image
      (omega (arith, enough, ap (λ (x : World). length x.events) kept)) f))

  pub survived : AtAnyMoment clock left_since wal.disk end (λ image. Counts image wal.base w.events)
  survived =
      subst (λ x. AtAnyMoment clock left_since wal.disk x (λ image. Counts image wal.base w.events)) (sym back)
      (subst (λ x. AtAnyMoment clock left_since x now.disk (λ image. Counts image wal.base w.events)) journal.0
      (weaker clock left_since e.disk now.disk (SealedFront now.design e.base now.state.events e.settled)
      (λ image. Counts image wal.base w.events)
      (λ image f. of_all e.base e.settled image journal.1 (omega (arith, all)) f) (survives.moments ready)))

  pub left_behind : (image : List ℕ) → may_leave end image → Counts image wal.base w.events
  left_behind image left =
      of_all now.base now.settled image (survives.goes_on.base ∙ journal.1) (omega (arith, all, survives.settled))
      (survives.left ready image (subst (λ x. may_leave x image) back left))

  pub calm_behind : now.failed ≡ false → IsCalm (told end) (may_leave end)
  calm_behind unfailed = subst (λ x. IsCalm (told x) (may_leave x)) (sym back) (survives.ready ready unfailed).calm

-- ---- where the history has grown something was compensated

none_of : (frames : List Frame) (n : ℕ) → n ≡ length frames → n ≡ 0 → frames ≡ []
none_of [] n long is = refl
none_of (f ∷ frames) n long is = absurd (omega (arith, long, is))

module _ (d : Design) (found : List Event) (w : World) (compensated : ℕ) (r : IsRecovery d found w)
    (u : LeavesUnfinished d found compensated)
  where
    nothing_more : compensated ≡ 0 → w.events ≡ found
    nothing_more is =
        let logged = lead_logs d found start u.first u.comes in
        let last : w ≡ u.first = one_recovery d found w u.first r (record {
          first = u.first;
          comes = u.comes;
          more = [];
          recovers = (refl, none_of (unfinished u.first) compensated u.count_is is);
          events_are = logged ∙ sym (append-nil found);
        }) in
        ap (λ (x : World). x.events) last ∙ logged

    pub has_grown : length found < length w.events → 0 < compensated
    has_grown longer = by compensated refl
      where
        by : (n : ℕ) → compensated ≡ n → 0 < n
        by zero is = absurd (omega (arith, longer, ap length (nothing_more is)))
        by (suc n) is = omega arith

-- ---- what is recovered, and stands on the disk then

module _ {D : Type 0} (d : Design) (told : Option (List ℕ)) (w : World) (wal : Journal D) (compensated : ℕ)
    (file : RecoversFile d told w wal compensated) (idle : IsIdle d w.rows) where
  pub recovered_from : IsRecoveredFrom d told w
  recovered_from = record {
    found = file.found;
    counts = file.counts;
    sealed = sealed_so told d file.found wal.version wal.seals file.sealed;
    recovery = file.recovery;
    idle = idle;
  }

  -- the states that were there are the texts of the rows at their places still
  pub seals_of_all : (bytes : List ℕ) → told ≡ Some bytes → AreSealsOf d w.events wal.seals
  seals_of_all bytes is =
      let sealed = if_some told (IsSealed d wal.version file.found wal.seals) bytes is file.sealed in
      subst (λ (es : List Event). AreSealsOf d es wal.seals) (sym file.recovery.events_are)
      (seals_go_on d file.found file.recovery.more wal.seals
      (counted_within bytes (printed d) wal.version file.found wal.seals sealed.counts) sealed.each)

  -- a journal of the recovered history is one of those that a recovery leaves
  pub leaves_all : (bytes image : List ℕ) → told ≡ Some bytes → Counts image wal.base w.events → LeavesRecovery d bytes image
  leaves_all bytes image is c =
      inr (
        printed d,
        file.found,
        if_some told (λ f. Counts f (printed d) file.found) bytes is file.counts,
        inr (w, file.recovery, subst (λ (b : List ℕ). Counts image b w.events) file.settled.base_is c),
      )

  pub leaves_behind : (clock : D → ℕ) (left_since : D → ℕ → List ℕ → Type 0) (bytes : List ℕ) (old new : D) → told ≡ Some bytes
      → AtAnyMoment clock left_since old wal.disk (LeavesRecovery d bytes)
      → AtAnyMoment clock left_since wal.disk new (λ image. Counts image wal.base w.events)
      → AtAnyMoment clock left_since old new (LeavesRecovery d bytes)
  leaves_behind clock left_since bytes old new is first second =
      together clock left_since old wal.disk new (LeavesRecovery d bytes) first
      (weaker clock left_since wal.disk new (λ image. Counts image wal.base w.events) (LeavesRecovery d bytes)
      (λ image c. leaves_all bytes image is c) second)

  module _ (now : Journal D) (told' : Option (List ℕ)) (opened : IsOpened wal.base w.events now)
      (counts : (bytes : List ℕ) → told' ≡ Some bytes → CountsAll bytes now.base now.version now.durable now.seals) where
    opened_text : IsOpened (printed d) w.events now
    opened_text = subst (λ (b : List ℕ). IsOpened b w.events now) file.settled.base_is opened

    pub holds_all : IfSome told' (λ bytes. Counts bytes (printed d) w.events)
    holds_all =
        holds now (printed d) w.events told' opened_text
        (λ bytes is. events_counted bytes now.base now.version now.durable now.seals (counts bytes is))

    counts_now : (bytes : List ℕ) → told' ≡ Some bytes → CountsAll bytes (printed d) now.version w.events now.seals
    counts_now bytes is =
        subst (λ (b : List ℕ). CountsAll bytes b now.version w.events now.seals) opened_text.base_is
        (subst (λ (es : List Event). CountsAll bytes now.base now.version es now.seals) opened_text.durable_is (counts bytes is))

    last_seal : (bytes : List ℕ) → CountsAll bytes (printed d) now.version w.events now.seals → LeadLawfully d start w.events w
        → NeedsNoSeal now.version now.seals w
        → (now.version ≡ 1) ⊎ HasLongText d w.events ⊎ EndsAt (length w.events) now.seals
    last_seal bytes c leads (inl other) = ⊎_elim (λ one. inl one) (λ two. absurd (other two)) c.counts.known
    last_seal bytes c leads (inr (inl long)) = inr (inl (record { last = w; comes = leads; long = long }))
    last_seal bytes c leads (inr (inr at)) = inr (inr (ends_at bytes (printed d) now.version w.events now.seals c at))

    grown : LeadLawfully d start w.events w → (0 < compensated → NeedsNoSeal now.version now.seals w) → SealsGrowth d told told' w.events
    grown leads put bytes found is counts_found longer after after_is =
        let same = (one_reading bytes (printed d) (printed d) found file.found counts_found
        (if_some told (λ f. Counts f (printed d) file.found) bytes is file.counts)).1 in
        let c = counts_now after after_is in
        record {
          version = now.version;
          seals = now.seals;
          counts = c;
          last = last_seal after c leads (put (has_grown d file.found w compensated file.recovery file.unfinished_were
              (subst (λ (es : List Event). length es < length w.events) same longer)));
        }

    pub recovers_state : LeadLawfully d start w.events w → (0 < compensated → NeedsNoSeal now.version now.seals w)
        → RecoversState d told told' w compensated
    recovers_state leads put = record {
      found = file.found;
      counts = file.counts;
      sealed = sealed_so told d file.found wal.version wal.seals file.sealed;
      recovery = file.recovery;
      idle = idle;
      unfinished_were = file.unfinished_were;
      holds = holds_all;
      grown = grown leads put;
    }

  -- ---- where the text isn't put

  pub stops_behind : (error : EngineError) (spent : Bool) (told' : Option (List ℕ)) (a b c : ℕ) (history : List Event) (settled : ℕ)
      → a ≤ b → StopsSealing error false spent (Rose b c) → history ≡ w.events → settled ≡ length w.events
      → (spent ≡ false → IfSome told' (λ bytes. Counts bytes (printed d) w.events))
      → StopsBehind d told told' (Rose a c) history settled
  stops_behind error spent told' a b c history settled le why same all kept =
      record { last = w; recovered = recovered_from; history_is = same; all_durable = all; why = by error why }
    where
      by : (error : EngineError) → StopsSealing error false spent (Rose b c)
          → Rose a c ⊎ IfSome told' (λ bytes. Counts bytes (printed d) w.events)
      by engine.Disk why = let rose = why.2 in inl (omega (arith, le, rose))
      by engine.Failed why = absurd cc
      by engine.Memory why = inr (kept why.1)

  -- it is a fault of the disk
  pub fails_to_seal : (error : EngineError) (spent : Bool) (a b c : ℕ) (t : Telling) → a ≤ b → StopsSealing error false spent (Rose b c)
      → error ≡ engine.Disk → SaysFault w t → FailsToSeal d told (Rose a c) t
  fails_to_seal error spent a b c t le why is says =
      let rose = (subst (λ (x : EngineError). StopsSealing x false spent (Rose b c)) is why).2 in
      record { failed = omega (arith, le, rose); last = w; recovered = recovered_from; says = says }

-- ---- what an answer is

pub by_ok : {X E : Type 0} (r : Result X E) (x : X) (P : Type 0) → r ≡ Ok x → OnOk r P → P
by_ok r x P is h = subst (λ q. OnOk q P) is h

pub by_err : {X E : Type 0} (r : Result X E) (e : E) (P : E → Type 0) → r ≡ Err e → IfErr r P → P e
by_err r e P is h = subst (λ q. IfErr q P) is h

pub not_said : {X E : Type 0} (r : Result X E) (e : E) (P : X → Type 0) → r ≡ Err e → IfOk r P
not_said r e P is = subst (λ q. IfOk q P) (sym is) tt
