-- Runs of an engine's calls, put together.
use Rattle.std.proofs.Common.{◌≡◌, ◌++◌, ℕ, List, false, Option, ◌∙◌}
use Rattle.acc_base.specs.declared.machines.Event.{Event}
use Rattle.acc_engine.specs.Calls.{StaysBut}
use Rattle.acc_engine.specs.Keeping.{Journalled}
use Rattle.acc_engine.specs.Ready.{IsReady}
use Rattle.acc_engine.proofs.Surviving.{ready_stays, survives_stays, survives_none, survives_behind}
use Rattle.acc_settling.specs.Runs.{IsAcked, IsAckedButOne, RunsOn, IsReadyAgain}

pub but_one : {D : Type 0} (e : Journalled D) → IsAcked e → IsAckedButOne e
but_one e acked = record { last = 0; others = λ t other. acked t }

module _ {D : Type 0} (told : D → Option (List ℕ)) (may_leave : D → List ℕ → Type 0) where
  -- a call that leaves the disk
  pub again_stays : (old new : Journalled D) (more : List Event) → StaysBut old new → new.state.events ≡ old.state.events ++ more
      → old.failed ≡ false → (IsAcked old → IsAcked new) → IsReadyAgain told may_leave old new
  again_stays old new more s is unfailed acked =
      record { unfailed = s.failed ∙ unfailed; ready = ready_stays told may_leave old new more s is; acked = acked }

  pub again_none : (e : Journalled D) → e.failed ≡ false → IsReadyAgain told may_leave e e
  again_none e unfailed = record { unfailed = unfailed; ready = λ ready. ready; acked = λ acked. acked }

  pub again_more : (old mid new : Journalled D) → IsReadyAgain told may_leave old mid → IsReadyAgain told may_leave mid new
      → IsReadyAgain told may_leave old new
  again_more old mid new a b =
      record { unfailed = b.unfailed; ready = λ ready. b.ready (a.ready ready); acked = λ acked. b.acked (a.acked acked) }

module _ {D : Type 0} (clock : D → ℕ) (left_since : D → ℕ → List ℕ → Type 0) (told : D → Option (List ℕ)) (may_leave : D → List ℕ → Type 0)
    (count : D → ℕ) (only_now : (disk : D) (image : List ℕ) → left_since disk (clock disk) image → may_leave disk image) where
  pub runs_stays : (old new : Journalled D) (more : List Event) → StaysBut old new → new.waiting ≡ old.waiting
      → new.state.events ≡ old.state.events ++ more → (IsAcked old → IsAckedButOne new)
      → RunsOn clock left_since told may_leave count old new
  runs_stays old new more s waiting is ends =
      record { survives = survives_stays clock left_since told may_leave count only_now old new more s waiting is; ends = ends }

  pub runs_none : (e : Journalled D) → RunsOn clock left_since told may_leave count e e
  runs_none e = record { survives = survives_none clock left_since told may_leave count only_now e; ends = but_one e }

  -- a run, and a run behind it
  pub runs_behind : (old mid new : Journalled D) → RunsOn clock left_since told may_leave count old mid
      → (IsReady told may_leave old → IsReady told may_leave mid) → (IsAcked old → IsAckedButOne new)
      → RunsOn clock left_since told may_leave count mid new → RunsOn clock left_since told may_leave count old new
  runs_behind old mid new a ready_again ends b = record {
    survives = survives_behind clock left_since told may_leave count only_now old mid new a.survives ready_again b.survives;
    ends = ends;
  }

  pub runs_more : (old mid new : Journalled D) → RunsOn clock left_since told may_leave count old mid
      → IsReadyAgain told may_leave old mid
      → RunsOn clock left_since told may_leave count mid new → RunsOn clock left_since told may_leave count old new
  runs_more old mid new a again b = runs_behind old mid new a again.ready (λ acked. b.ends (again.acked acked)) b
