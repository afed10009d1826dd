-- What comes of an engine's run over a recovered journal, or where none was recovered, whoever took the turns: what is said of it, and what
-- a crash leaves.
use Rattle.std.proofs.Common.{◌≡◌, ◌≤◌, ◌<◌, ◌∙◌, inl, inr, ℕ, List, [], length, Bool, Option, Some, true, false, Result, Ok, Err, sym, ap}
use Rattle.std.proofs.Common.{subst, arith}
use Rattle.std.proofs.Common.{true≢false}
use Rattle.std.specs.Prelude.{◌≢◌, ◌⊎◌, IfOk, IfSome}
use Rattle.std.specs.declared.alloc.AllocError.{AllocError}
use Rattle.std.proofs.lemmas.Result.{IfOk-weaker}
use Rattle.acc_io.specs.Causes.{Rose}
use Rattle.acc_base.specs.declared.designs.Design.{Design}
use Rattle.acc_base.specs.declared.machines.Call.{Call}
use Rattle.acc_base.specs.declared.machines.Event.{Event}
use Rattle.acc_base.specs.Machine.{World}
use Rattle.acc_base.specs.Plays.{Play}
use Rattle.acc_disk.specs.Crashes.{Only, IsCalm}
use Rattle.acc_disk.specs.Moments.{AtAnyMoment}
use Rattle.acc_print.specs.Designs.{printed}
use Rattle.acc_wal.specs.Journals.{Counts, CountsAll}
use Rattle.acc_wal.specs.declared.items.Seal.{Seal}
use Rattle.acc_wal.proofs.Moments.{calm_of, if_some}
use Rattle.acc_recover.specs.Recoveries.{CountsAllRecovered, LeavesRecovery}
use Rattle.acc_recover.specs.Refusals.{RefusesRecovery, IsOfJournal, IsOfBytes, CountsSame}
use Rattle.acc_recover.specs.declared.errors.RecoverError.{RecoverError}
use Rattle.acc_engine.specs.Keeping.{Journalled}
use Rattle.acc_engine.specs.Ready.{IsReady}
use Rattle.acc_engine.specs.Sealing.{SealedFront}
use Rattle.acc_engine.specs.Standing.{IsSound}
use Rattle.acc_engine.specs.Surviving.{Survives}
use Rattle.acc_settling.specs.Growth.{HasGrown}
use Rattle.acc_settling.specs.Wholes.{IsFrontOfSchedule}
use Rattle.acc_journalled.specs.declared.answers.Answer.{Answer}
use Rattle.acc_journalled.specs.declared.answers.Ending.{Ending}
use Rattle.acc_journalled.specs.declared.answers.Ending.TheVariants.{Done, Unbegun, DiskFailed}
use Rattle.acc_journalled.specs.Recovering.{SaysNotRecovered}
use Rattle.acc_journalled.specs.Sealing.{SealsGrowth}
use Rattle.acc_journalled.specs.Tellings.{telling_of, unrun_telling}
use Rattle.acc_journalled.proofs.Endings.{was_of_bytes}
use Rattle.acc_journalled.proofs.Once.{same_events}
use Rattle.acc_running.specs.Crashes.{LeavesRun, LeavesDurable, RunsOver}
use Rattle.acc_running.specs.Engines.{SaysAll, SaysRun, HandsOver, IsThrough}
use Rattle.acc_running.specs.Recorded.{IsFound, Records}
use Rattle.acc_running.specs.Running.{RunsFrom, Follows}
use Rattle.acc_running.proofs.Recording.{Begins, Ends, moved, handed, design_is, history_is, recorded, runs_from}
use Rattle.acc_running.proofs.Crashing.{only_recovery, run_behind, left_recovery}
use Rattle.acc_running.proofs.Growing.{sealed_to_end}

-- the end of a sound engine
pub ends_so : {D : Type 0} (told : D → Option (List ℕ)) (e : Journalled D) → IsSound told e → Ends e
ends_so told e sound = record { kept = sound.kept; begins = sound.begins; within = sound.within }

-- where the disk didn't fail, it is calm again
calm_said : {D : Type 0} (told : D → Option (List ℕ)) (may_leave : D → List ℕ → Type 0) (d : Design) (calls : List Call) (order : List ℕ)
    (opened : Play) (grew : Bool) (new : Journalled D) (s : Answer) → (new.failed ≡ false → IsReady told may_leave new)
    → SaysRun d calls order opened grew new s → s.ending ≢ DiskFailed → IsCalm (told new.disk) (may_leave new.disk)
calm_said told may_leave d calls order opened grew new s again (inl all) sound = (again all.unfailed).calm
calm_said told may_leave d calls order opened grew new s again (inr f) sound = absurd (sound f.says.0)

-- a run that broke off hasn't come to its end
not_through : (ending : Ending) → ending ≡ DiskFailed → IsThrough ending → ⊥
not_through ending is (inl done) = let e : DiskFailed ≡ Done = sym is ∙ done in cc
not_through ending is (inr unbegun) = let e : DiskFailed ≡ Unbegun = sym is ∙ unbegun in cc

if_ok : (r : Result Answer AllocError) {P : Answer → Type 0} → ((a : Answer) → P a) → IfOk r P
if_ok (Ok a) so = so a
if_ok (Err e) so = tt

module _ {D : Type 0} (clock : D → ℕ) (left_since : D → ℕ → List ℕ → Type 0) (told : D → Option (List ℕ)) (may_leave : D → List ℕ → Type 0)
    (count : D → ℕ) (d : Design) (calls : List Call) (order : List ℕ) (Opens : World → Play → Type 0) (disk : D) where
  -- An engine over a journal that was recovered from this disk, from when it was made to its last call; the order's turns began at a play.
  -- Whether the history grew before the engine was made is told.
  pub record Went (grew : Bool) (first : World) (old new : Journalled D) : Type 0 where
    pub begins : Begins d calls first old
    pub found : IsFound d (told disk) first
    pub faults : count disk ≤ count old.disk
    pub unfailed : old.failed ≡ false
    pub ready : IsCalm (told disk) (may_leave disk) → IsReady told may_leave old
    pub recovering :
        (file : List ℕ) → told disk ≡ Some file → Only file (may_leave disk) → (history : List Event)
        → AtAnyMoment clock left_since disk old.disk (LeavesRun d file history)
    pub survives : Survives clock left_since told may_leave count old new
    pub sound : IsSound told new
    pub opened : Play
    pub opens : Opens first opened
    pub front : IsFrontOfSchedule d calls order opened new.state.events
    pub grown : length found.found < length new.state.events → HasGrown grew new

  module _ (grew : Bool) (first : World) (old new : Journalled D) (w : Went grew first old new) (end : D) (history : List Event)
      (settled : ℕ)
      (hands : HandsOver new end history settled) where
    ends : Ends new
    ends = ends_so told new w.sound

    failed_rose : new.failed ≡ true → Rose (count disk) (count new.disk)
    failed_rose failed = by (w.survives.rose failed)
      where
        by : (old.failed ≡ true) ⊎ Rose (count old.disk) (count new.disk) → Rose (count disk) (count new.disk)
        by (inl before) = absurd (true≢false (sym before ∙ w.unfailed))
        by (inr rose) = omega (arith, w.faults, rose)

    -- where the history grew, the last state stands at its end
    seals_growth : (s : Answer) → SaysAll d calls order w.opened grew new s → SealsGrowth d (told disk) (told new.disk) new.state.events
    seals_growth s all file found is counts more now is_now =
        let same = same_events d file found w.found.found counts (if_some (told disk) (λ f. Counts f (printed d) w.found.found) file is
        w.found.counts) in
        let grown = w.grown (subst (λ (es : List Event). length es < length new.state.events) same more) in
        sealed_to_end d new (design_is d calls first old new w.begins w.survives.goes_on w.survives.settled ends)
        (w.survives.goes_on.base ∙ w.begins.base) w.sound.kept.good.lawful now
        (w.sound.journal all.unfailed now is_now) (all.sealed grown)

    pub went_answer : (said answer : Result Answer AllocError) → answer ≡ said → IfOk said (SaysRun d calls order w.opened grew new)
        → IfOk answer (λ a. RunsFrom d calls order Opens (told disk) (told end) (Rose (count disk) (count end))
        (telling_of a history settled))
    went_answer said answer is says =
        handed
        (λ x es n. IfOk answer (λ (a : Answer). RunsFrom d calls order Opens (told disk) (told x) (Rose (count disk) (count x))
        (telling_of a es n))) new end history settled hands
        (subst (λ r. IfOk r (λ (a : Answer). RunsFrom d calls order Opens (told disk) (told new.disk) (Rose (count disk) (count new.disk))
        (telling_of a new.state.events new.settled))) (sym is)
        (IfOk-weaker said _ _
        (runs_from d calls first old new w.begins w.survives.goes_on w.survives.settled ends order Opens w.opened w.opens w.front
        (told disk) (told new.disk) w.found w.sound.counts grew seals_growth (Rose (count disk) (count new.disk)) failed_rose) says))

    pub went_calm : (said answer : Result Answer AllocError) → answer ≡ said → IfOk said (SaysRun d calls order w.opened grew new)
        → IfOk answer (λ a. a.ending ≢ DiskFailed → IsCalm (told disk) (may_leave disk) → IsCalm (told end) (may_leave end))
    went_calm said answer is says =
        handed
        (λ x es n. IfOk answer (λ (a : Answer). a.ending ≢ DiskFailed → IsCalm (told disk) (may_leave disk)
        → IsCalm (told x) (may_leave x))) new end history settled hands
        (subst (λ r. IfOk r (λ (a : Answer). a.ending ≢ DiskFailed → IsCalm (told disk) (may_leave disk)
        → IsCalm (told new.disk) (may_leave new.disk))) (sym is)
        (IfOk-weaker said _ _
        (λ a so sound calm. calm_said told may_leave d calls order w.opened grew new a (w.survives.ready (w.ready calm)) so sound) says))

    pub went_sealed : (said answer : Result Answer AllocError) → answer ≡ said → IfOk said (SaysRun d calls order w.opened grew new)
        → IfOk answer (λ a. IsThrough a.ending → SealsGrowth d (told disk) (told end) history)
    went_sealed said answer is says =
        handed (λ x es n. IfOk answer (λ (a : Answer). IsThrough a.ending → SealsGrowth d (told disk) (told x) es)) new end history settled
        hands
        (subst (λ r. IfOk r (λ (a : Answer). IsThrough a.ending → SealsGrowth d (told disk) (told new.disk) new.state.events)) (sym is)
        (IfOk-weaker said _ _ (λ a so. through_grown a so) says))
      where
        through_grown : (s : Answer) → SaysRun d calls order w.opened grew new s → IsThrough s.ending
            → SealsGrowth d (told disk) (told new.disk) new.state.events
        through_grown s (inl all) through = seals_growth s all
        through_grown s (inr f) through = absurd (not_through s.ending f.says.0 through)

    pub went_faults : count disk ≤ count end
    went_faults =
        let same = ap count hands.disk_is in
        omega (arith, w.faults, w.survives.faults, same)

    pub went_moments : (file : List ℕ) → told disk ≡ Some file → Only file (may_leave disk)
        → AtAnyMoment clock left_since disk end (LeavesRun d file history)
    went_moments file is only =
        let ready = w.ready (calm_of (told disk) (may_leave disk) file is only) in
        let read = if_some (told disk) (λ f. Counts f (printed d) w.found.found) file is w.found.counts in
        handed (λ x es n. AtAnyMoment clock left_since disk x (LeavesRun d file es)) new end history settled hands
        (run_behind clock left_since d file disk first w.found.found w.survives.goes_on.more old new read w.found.recovery w.begins.base
        (design_is d calls first old new w.begins w.survives.goes_on w.survives.settled ends) w.begins.settled
        (history_is d calls first old new w.begins w.survives.goes_on w.survives.settled ends)
        (w.recovering file is only new.state.events) (w.survives.moments ready))

    pub went_over : ((P : List ℕ → Type 0) → AtAnyMoment clock left_since disk end P → IfSome (told end) P)
        → RunsOver clock left_since told may_leave d calls order Opens disk end history settled
    went_over read = record {
      recorded =
          handed (λ x es n. Records d calls (told disk) es n) new end history settled hands
          (inr (first, w.found, recorded d calls first old new w.begins w.survives.goes_on w.survives.settled ends));
      follows =
          handed (λ x es n. Follows d calls order Opens (told disk) es) new end history settled hands
          (inr (first, w.opened, w.found, w.opens, w.front));
      moments = went_moments;
      left = λ file is only. read (LeavesRun d file history) (went_moments file is only);
      behind = λ file is only.
          let ready = w.ready (calm_of (told disk) (may_leave disk) file is only) in
          let at_base = w.survives.goes_on.base ∙ w.begins.base in
          let at_design = design_is d calls first old new w.begins w.survives.goes_on w.survives.settled ends in
          handed (λ x es n. (image : List ℕ) → may_leave x image → LeavesDurable d file es n image) new end history settled hands
          (λ image left. inr (subst (λ (x : Design). SealedFront x (printed d) new.state.events new.settled image) at_design
          (subst (λ (t : List ℕ). SealedFront new.design t new.state.events new.settled image) at_base
          (w.survives.left ready image left))));
    }

  -- ---- it isn't recovered: nothing ran

  module _ (back end : D) (history : List Event) (settled : ℕ) (same : end ≡ back) (none : (history ≡ []) × (settled ≡ 0)) where
    pub refused_answer : (error : RecoverError) (said answer : Result Answer AllocError) → answer ≡ said
        → RefusesRecovery d error (told disk) (Rose (count disk) (count back)) → (IsOfJournal error → told back ≡ told disk)
        → (IsOfBytes error → CountsSame (told disk) (told back)) → IfOk said (λ a. SaysNotRecovered error (unrun_telling a))
        → IfOk answer (λ a. RunsFrom d calls order Opens (told disk) (told end) (Rose (count disk) (count end))
        (telling_of a history settled))
    refused_answer error said answer is why unread kept says =
        moved
        (λ x es n. IfOk answer (λ (a : Answer). RunsFrom d calls order Opens (told disk) (told x) (Rose (count disk) (count x))
        (telling_of a es n))) back end [] history 0 settled same none.0 none.1
        (subst (λ r. IfOk r (λ (a : Answer). RunsFrom d calls order Opens (told disk) (told back) (Rose (count disk) (count back))
        (unrun_telling a))) (sym is)
        (IfOk-weaker said _ _
        (λ a so. inr (inr (record { error = error; cause = why; same = unread; kept = kept; says = so }))) says))

    pub refused_over : ((file : List ℕ) → told disk ≡ Some file → Only file (may_leave disk)
        → AtAnyMoment clock left_since disk back (LeavesRecovery d file))
        → ((file base : List ℕ) (version : ℕ) (found : List Event) (seals : List Seal) → told disk ≡ Some file → Only file (may_leave disk)
        → CountsAll file base version found seals → AtAnyMoment clock left_since disk back (CountsAllRecovered d base version found seals))
        → ((time : ℕ) (image : List ℕ) → time ≤ clock back → may_leave back image → left_since back time image)
        → ((P : List ℕ → Type 0) → AtAnyMoment clock left_since disk end P → IfSome (told end) P)
        → RunsOver clock left_since told may_leave d calls order Opens disk end history settled
    refused_over leaves states now read =
        let moments : (file : List ℕ) → told disk ≡ Some file → Only file (may_leave disk)
        → AtAnyMoment clock left_since disk end (LeavesRun d file history) =
        λ file is only.
        subst (λ x. AtAnyMoment clock left_since disk x (LeavesRun d file history)) (sym same)
        (only_recovery clock left_since d file disk back history (leaves file is only)
        (λ base version found seals counts. states file base version found seals is only counts)) in
        record {
          recorded = inl none;
          follows = inl none.0;
          moments = moments;
          left = λ file is only. read (LeavesRun d file history) (moments file is only);
          behind = λ file is only.
              moved (λ x es n. (image : List ℕ) → may_leave x image → LeavesDurable d file es n image) back end [] history 0 settled
              same none.0 none.1
              (left_recovery clock left_since d file disk back (may_leave back) now (leaves file is only));
        }

    pub refused_calm : (error : RecoverError) (said answer : Result Answer AllocError) → answer ≡ said
        → (IsCalm (told disk) (may_leave disk) → IsOfBytes error → IsCalm (told back) (may_leave back))
        → IfOk said (λ a. SaysNotRecovered error (unrun_telling a))
        → IfOk answer (λ a. a.ending ≢ DiskFailed → IsCalm (told disk) (may_leave disk) → IsCalm (told end) (may_leave end))
    refused_calm error said answer is again says =
        moved
        (λ x es n. IfOk answer (λ (a : Answer). a.ending ≢ DiskFailed → IsCalm (told disk) (may_leave disk)
        → IsCalm (told x) (may_leave x))) back end [] history 0 settled same none.0 none.1
        (subst (λ r. IfOk r (λ (a : Answer). a.ending ≢ DiskFailed → IsCalm (told disk) (may_leave disk)
        → IsCalm (told back) (may_leave back))) (sym is)
        (IfOk-weaker said _ _ (λ a so sound calm. again calm (was_of_bytes error (unrun_telling a) so sound)) says))

    -- no event is handed back, so none came
    pub refused_sealed : (answer : Result Answer AllocError) → IfOk answer
        (λ a. IsThrough a.ending → SealsGrowth d (told disk) (told end) history)
    refused_sealed answer = if_ok answer (λ a through file found is counts more now is_now.
        absurd (let e = ap length none.0 in omega (arith, more, e)))

    pub refused_faults : count disk ≤ count back → count disk ≤ count end
    refused_faults le = let e = ap count same in omega (arith, le, e)
