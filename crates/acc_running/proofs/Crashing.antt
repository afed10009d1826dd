-- What a crash leaves of a run: of its recovery, and of the engine behind it.
use Rattle.std.proofs.Common.{◌≡◌, ◌≤◌, ◌⊎◌, inl, inr, ⊎_elim, ℕ, List, [], ◌++◌, length, take, Option, Some, refl, sym, subst}
use Rattle.std.specs.Prelude.{IfSome}
use Rattle.acc_base.specs.declared.designs.Design.{Design}
use Rattle.acc_base.specs.declared.machines.Event.{Event}
use Rattle.acc_base.specs.Machine.{World}
use Rattle.acc_disk.specs.Crashes.{Only}
use Rattle.acc_disk.specs.Moments.{AtAnyMoment}
use Rattle.acc_print.specs.Designs.{printed}
use Rattle.acc_wal.specs.Journals.{Counts, CountsAll}
use Rattle.acc_wal.specs.declared.items.Seal.{Seal}
use Rattle.acc_wal.proofs.Moments.{started, weaker, together, if_some}
use Rattle.acc_recover.proofs.Sealed.{events_counted}
use Rattle.acc_recover.specs.Recoveries.{IsRecovery, CountsAllRecovered, LeavesRecovery}
use Rattle.acc_recover.specs.Seals.{IsSealed}
use Rattle.acc_engine.specs.Keeping.{Journalled}
use Rattle.acc_engine.specs.Sealing.{SealedFront}
use Rattle.acc_running.specs.Crashes.{LeavesEvents, LeavesRun, LeavesDurable}
use Rattle.acc_running.proofs.States.{all_counted, seals_found, seals_recovered}

-- what was found, or the recovered history, with the states that were there
recovered_run : (d : Design) (file base : List ℕ) (version : ℕ) (found : List Event) (seals : List Seal) (history : List Event)
    (image : List ℕ) → CountsAll file base version found seals → CountsAllRecovered d base version found seals image
    → LeavesEvents d file history image
recovered_run d file base version found seals history image counts (inl left) = record {
  base = base;
  found = found;
  counts = events_counted file base version found seals counts;
  events = found;
  left = events_counted image base version found seals left;
  sealed = λ s. (version, seals, record { counts = left; each = seals_found d file base version found seals counts s });
  which = inl refl;
}
recovered_run d file base version found seals history image counts (inr (last, recovery, left)) = record {
  base = base;
  found = found;
  counts = events_counted file base version found seals counts;
  events = last.events;
  left = events_counted image base version last.events seals left;
  sealed = λ s. (
    version,
    seals,
    record {
      counts = left;
      each =
          seals_recovered d file base version found seals counts last recovery
          (seals_found d file base version found seals counts s);
    },
  );
  which = inr (last, recovery, inl refl);
}

module _ {D : Type 0} (clock : D → ℕ) (left_since : D → ℕ → List ℕ → Type 0) (d : Design) (file : List ℕ) where
  -- a recovery of a journal
  pub recovery_run : (disk new : D) (base : List ℕ) (version : ℕ) (found : List Event) (seals : List Seal) (history : List Event)
      → CountsAll file base version found seals → AtAnyMoment clock left_since disk new (CountsAllRecovered d base version found seals)
      → AtAnyMoment clock left_since disk new (LeavesRun d file history)
  recovery_run disk new base version found seals history counts run =
      weaker clock left_since disk new (CountsAllRecovered d base version found seals) (LeavesRun d file history)
      (λ image left. inr (recovered_run d file base version found seals history image counts left)) run

  -- of a disk whose bytes are told
  pub recovered_moments : (told : Option (List ℕ)) (disk new : D) (version : ℕ) (found : List Event) (seals : List Seal)
      (history : List Event) → told ≡ Some file → IfSome told (IsSealed d version found seals)
      → (CountsAll file (printed d) version found seals
      → AtAnyMoment clock left_since disk new (CountsAllRecovered d (printed d) version found seals))
      → AtAnyMoment clock left_since disk new (LeavesRun d file history)
  recovered_moments told disk new version found seals history is sealed run =
      let counts = (if_some told (IsSealed d version found seals) file is sealed).counts in
      recovery_run disk new (printed d) version found seals history counts (run counts)

  -- no call was made
  pub calm_states : (disk : D) (may_leave : List ℕ → Type 0) (base : List ℕ) (version : ℕ) (found : List Event) (seals : List Seal)
      → ((image : List ℕ) → left_since disk (clock disk) image → may_leave image) → Only file may_leave
      → CountsAll file base version found seals → AtAnyMoment clock left_since disk disk (CountsAllRecovered d base version found seals)
  calm_states disk may_leave base version found seals only_now only counts =
      started clock left_since disk (CountsAllRecovered d base version found seals)
      (λ image left. inl (subst (λ (f : List ℕ). CountsAll f base version found seals) (sym (only image (only_now image left))) counts))

  -- one of bytes that may be no journal's: nothing else took place
  module _ (disk new : D) (history : List Event) (run : AtAnyMoment clock left_since disk new (LeavesRecovery d file))
      (states : (base : List ℕ) (version : ℕ) (found : List Event) (seals : List Seal) → CountsAll file base version found seals
      → AtAnyMoment clock left_since disk new (CountsAllRecovered d base version found seals)) where
    -- at each moment since the recovery began
    since_then : (base : List ℕ) (found : List Event) → Counts file base found
        → AtAnyMoment clock left_since disk new (LeavesRun d file history)
    since_then base found counts =
        let all = all_counted file base found counts in
        recovery_run disk new base all.0 found all.1 history all.2 (states base all.0 found all.1 all.2)

    pub only_recovery : AtAnyMoment clock left_since disk new (LeavesRun d file history)
    only_recovery = record {
      later = run.later;
      each = λ image left. at_end image left (run.each image left);
      before = λ time image le left. ⊎_elim (λ old. inl old) (earlier time image le left) (run.before time image le left);
    }
      where
        at_end : (image : List ℕ) → left_since new (clock disk) image → LeavesRecovery d file image → LeavesRun d file history image
        at_end image left (inl same) = inl same
        at_end image left (inr r) = (since_then r.0 r.1 r.2).each image left

        earlier : (time : ℕ) (image : List ℕ) → time ≤ clock disk → left_since new time image → LeavesRecovery d file image
            → left_since disk time image ⊎ LeavesRun d file history image
        earlier time image le left (inl same) = inr (inl same)
        earlier time image le left (inr r) = (since_then r.0 r.1 r.2).before time image le left

  -- an engine ran behind it
  pub run_behind : (disk : D) (first : World) (found more : List Event) (old new : Journalled D) → Counts file (printed d) found
      → IsRecovery d found first → old.base ≡ printed d → new.design ≡ d
      → old.settled ≡ length first.events → new.state.events ≡ first.events ++ more
      → AtAnyMoment clock left_since disk old.disk (LeavesRun d file new.state.events)
      → AtAnyMoment clock left_since old.disk new.disk (SealedFront new.design old.base new.state.events old.settled)
      → AtAnyMoment clock left_since disk new.disk (LeavesRun d file new.state.events)
  run_behind disk first found more old new counts r at_base at_design settled history recovering running =
      together clock left_since disk old.disk new.disk (LeavesRun d file new.state.events) recovering
      (weaker clock left_since old.disk new.disk (SealedFront new.design old.base new.state.events old.settled)
      (LeavesRun d file new.state.events)
      (λ image front. inr (behind image
      (subst (λ (n : ℕ). SealedFront d (printed d) new.state.events n image) settled
      (subst (λ (x : Design). SealedFront x (printed d) new.state.events old.settled image) at_design
      (subst (λ (t : List ℕ). SealedFront new.design t new.state.events old.settled image) at_base front))))) running)
    where
      behind : (image : List ℕ) → SealedFront d (printed d) new.state.events (length first.events) image
          → LeavesEvents d file new.state.events image
      behind image front = record {
        base = printed d;
        found = found;
        counts = counts;
        events = take front.count new.state.events;
        left = events_counted image (printed d) front.sealed.0 (take front.count new.state.events) front.sealed.1 front.sealed.2.counts;
        sealed = λ _. front.sealed;
        which = inr (
          first,
          r,
          inr (
            (more, history),
            record {
              count = front.count;
              at_least = front.at_least;
              within = front.within;
              is = refl;
            },
          ),
        );
      }

  -- after a recovery alone
  pub left_recovery : (disk new : D) (may_leave : List ℕ → Type 0)
      → ((time : ℕ) (image : List ℕ) → time ≤ clock new → may_leave image → left_since new time image)
      → AtAnyMoment clock left_since disk new (LeavesRecovery d file) → (image : List ℕ) → may_leave image
      → LeavesDurable d file [] 0 image
  left_recovery disk new may_leave now run image left =
      inl (record { none = refl; none_durable = refl; left = run.each image (now (clock disk) image run.later left) })
