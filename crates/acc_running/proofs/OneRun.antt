-- One thing is said of a run over a disk that tells its bytes.
use Rattle.std.proofs.Common.{◌≡◌, ◌⊎◌, ⊎_elim, inl, inr, ℕ, List, length, Option, Some, sym, ap, subst, ◌∙◌}
use Rattle.acc_base.specs.declared.designs.Design.{Design}
use Rattle.acc_base.specs.declared.machines.Call.{Call}
use Rattle.acc_base.specs.declared.machines.Event.{Event}
use Rattle.acc_base.specs.Machine.{World}
use Rattle.acc_base.specs.Plays.{Play}
use Rattle.acc_schedule.specs.Schedules.{TellsScheduleFrom}
use Rattle.acc_schedule.proofs.OneSchedule.{tells_once}
use Rattle.acc_settling.specs.Openings.{opening_at}
use Rattle.acc_recover.specs.Recoveries.{IsRecovery}
use Rattle.acc_recover.proofs.Single.{one_recovery}
use Rattle.acc_journalled.specs.Tellings.{Telling}
use Rattle.acc_journalled.proofs.Once.{same_events, recovered_or, refuses_once}
use Rattle.acc_running.specs.Engines.{ending_at}
use Rattle.acc_running.specs.Running.{RunsThrough, RunsFrom, RunsJournal, IsOpening}

telling_same : (a b : Telling) → a.ending ≡ b.ending → a.text ≡ b.text → a.history ≡ b.history → a.settled ≡ b.settled → a ≡ b
telling_same a b ending text history settled =
    λ i. record { ending = ending i; text = text i; history = history i; settled = settled i }

module _ (d : Design) (calls : List Call) (order : List ℕ) (file : List ℕ) (one other : Option (List ℕ)) (a b : Telling) where
  -- two runs without a fault are refused in one way, or both go to their end
  pub running_or : (X : Type 0) (Opens : World → Play → Type 0)
      → (RunsThrough d calls order Opens (Some file) one a → RunsThrough d calls order Opens (Some file) other b → X)
      → (x y : Type 0) → ¬ x → ¬ y → RunsFrom d calls order Opens (Some file) one x a → RunsFrom d calls order Opens (Some file) other y b
      → (a ≡ b) ⊎ X
  running_or X Opens both x y calm sound (inl h) (inl k) = inr (both h k)
  running_or X Opens both x y calm sound (inl h) (inr (inr k)) =
      absurd (recovered_or d file h.found.found h.first k.error y b sound h.found.counts h.found.sealed h.found.recovery k.cause k.says)
  running_or X Opens both x y calm sound (inr (inr h)) (inl k) =
      absurd (recovered_or d file k.found.found k.first h.error x a calm k.found.counts k.found.sealed k.found.recovery h.cause h.says)
  running_or X Opens both x y calm sound (inr (inr h)) (inr (inr k)) =
      inl (refuses_once d file (λ w n. a.text) one other a b x y calm sound h k)
  running_or X Opens both x y calm sound (inr (inl h)) k = absurd (calm h.failed)
  running_or X Opens both x y calm sound h (inr (inl k)) = absurd (sound k.failed)

  through_once : RunsThrough d calls order (IsOpening calls) (Some file) one a
      → RunsThrough d calls order (IsOpening calls) (Some file) other b → a ≡ b
  through_once h k =
      let found = same_events d file h.found.found k.found.found h.found.counts k.found.counts in
      let first : h.first ≡ k.first = one_recovery d k.found.found h.first k.first
      (subst (λ (es : List Event). IsRecovery d es h.first) found h.found.recovery) k.found.recovery in
      let opens = h.opens ∙ ap (λ (w : World). opening_at w calls) first ∙ sym k.opens in
      let tells = subst (λ (p : Play). TellsScheduleFrom d calls p order a.text a.history h.all_begun) opens h.tells in
      let once = tells_once d calls k.opened order a.text b.text a.history b.history h.all_begun k.all_begun tells k.tells in
      telling_same a b (h.ending ∙ ap ending_at once.2 ∙ sym k.ending) once.0 once.1 (h.settled ∙ ap length once.1 ∙ sym k.settled)

  pub running_once : (x y : Type 0) → ¬ x → ¬ y → RunsJournal d calls order (Some file) one x a
      → RunsJournal d calls order (Some file) other y b → a ≡ b
  running_once x y calm sound h k =
      ⊎_elim (λ same. same) (λ same. same) (running_or (a ≡ b) (IsOpening calls) through_once x y calm sound h k)
