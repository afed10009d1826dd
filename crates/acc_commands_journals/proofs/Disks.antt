-- What a command does to the disk that it is handed: the same in weaker words, and where it asks the disk nothing.
use Rattle.std.proofs.Common.{◌≡◌, ◌≤◌, inl, inr, ⊎_elim, ℕ, List, [], Option, Some, None, Result, refl, sym, subst, arith}
use Rattle.std.specs.Prelude.{◌≢◌, IfOk, IfSome}
use Rattle.std.specs.declared.alloc.AllocError.{AllocError}
use Rattle.std.proofs.lemmas.Result.{IfOk-weaker}
use Rattle.acc_base.specs.declared.machines.Event.{Event}
use Rattle.acc_disk.specs.Crashes.{IsCalm}
use Rattle.acc_wal.proofs.Moments.{started, weaker}
use Rattle.acc_journalled.specs.declared.answers.Answer.{Answer}
use Rattle.acc_journalled.specs.declared.answers.Ending.TheVariants.{DiskFailed}
use Rattle.acc_journalled.specs.Tellings.{Telling, telling_of, unrun_telling}
use Rattle.acc_commands_inputs.specs.Text.{IsEarly}
use Rattle.acc_commands_journals.specs.Disks.{Seen, seen, OrUntouched, LeavesSo, Ends}

-- ---- what it leaves

pub some_weaker : (told : Option (List ℕ)) (P Q : List ℕ → Type 0) → ((file : List ℕ) → P file → Q file) → IfSome told P → IfSome told Q
some_weaker None P Q so p = tt
some_weaker (Some file) P Q so p = so file p

module _ {D : Type 0} {clock : D → ℕ} {left_since : D → ℕ → List ℕ → Type 0} {told : D → Option (List ℕ)} {may_leave : D → List ℕ → Type 0}
  where
    pub leaves_weaker : {old new : D} (P Q : List ℕ → List ℕ → Type 0) → ((file image : List ℕ) → P file image → Q file image) →
        LeavesSo clock left_since told may_leave P old new → LeavesSo clock left_since told may_leave Q old new
    leaves_weaker {old = old} {new = new} P Q so run = record {
      moments = λ file is only. weaker clock left_since old new (P file) (Q file) (so file) (run.moments file is only);
      left = λ file is only. some_weaker (told new) (P file) (Q file) (so file) (run.left file is only);
    }

    -- a disk that was asked nothing
    pub leaves_nothing : {disk : D} (P : List ℕ → List ℕ → Type 0)
        → ((image : List ℕ) → left_since disk (clock disk) image → may_leave disk image) → ((file : List ℕ) → P file file)
        → LeavesSo clock left_since told may_leave P disk disk
    leaves_nothing {disk = disk} P only_now here = record {
      moments = λ file is only. started clock left_since disk (P file)
          (λ image left. subst (P file) (sym (only image (only_now image left))) (here file));
      left = λ file is only. subst (λ t. IfSome t (P file)) (sym is) (here file);
    }

-- ---- how it ends

module _ {D : Type 0} {told : D → Option (List ℕ)} {may_leave : D → List ℕ → Type 0} {faults : D → ℕ} {old new : D}
    {answer : Result Answer AllocError} {history : List Event} {settled : ℕ} where
  pub ends_weaker : {Means So : Seen → Seen → Telling → Type 0} {Leaves Then : D → D → List Event → ℕ → Type 0}
      → ((before after : Seen) (t : Telling) → Means before after t → So before after t)
      → (Leaves old new history settled → Then old new history settled)
      → Ends told may_leave faults Means Leaves old new answer history settled
      → Ends told may_leave faults So Then old new answer history settled
  ends_weaker so then run = record {
    means = IfOk-weaker answer _ _
        (λ a. so (seen (told old) (faults old)) (seen (told new) (faults new)) (telling_of a history settled)) run.means;
    refused = run.refused;
    leaves = then run.leaves;
    calm = run.calm;
    counts = run.counts;
  }

  -- a run, or nothing was asked of the disk
  pub runs_weaker : {Means So : Seen → Seen → Telling → Type 0} (Runs Then : D → D → List Event → ℕ → Type 0)
      → ((before after : Seen) (t : Telling) → Means before after t → So before after t)
      → (Runs old new history settled → Then old new history settled)
      → Ends told may_leave faults Means (OrUntouched Runs) old new answer history settled
      → Ends told may_leave faults So (OrUntouched Then) old new answer history settled
  runs_weaker Runs Then so then =
      ends_weaker {Leaves = OrUntouched Runs} so (⊎_elim (λ none. inl none) (λ run. inr (then run)))

  -- the journal decided
  pub ends_late : {Leaves : D → D → List Event → ℕ → Type 0} (Means So : Seen → Seen → Telling → Type 0)
      → ((before after : Seen) (t : Telling) → Means before after t → IsEarly t.ending → ⊥)
      → ((before after : Seen) (t : Telling) → Means before after t → So before after t)
      → IfOk answer (λ a. Means (seen (told old) (faults old)) (seen (told new) (faults new)) (telling_of a history settled))
      → Leaves old new history settled
      → IfOk answer (λ a. a.ending ≢ DiskFailed → IsCalm (told old) (may_leave old) → IsCalm (told new) (may_leave new))
      → faults old ≤ faults new → Ends told may_leave faults So Leaves old new answer history settled
  ends_late Means So late so means leaves calm counts =
      let before = seen (told old) (faults old) in
      let after = seen (told new) (faults new) in
      record {
        means = IfOk-weaker answer _ _ (λ a. so before after (telling_of a history settled)) means;
        refused = IfOk-weaker answer _ _
            (λ a says early. absurd (late before after (telling_of a history settled) says early)) means;
        leaves = leaves;
        calm = calm;
        counts = counts;
      }

  -- no machine ran
  pub ends_untouched : {Means : Seen → Seen → Telling → Type 0} {Leaves : D → D → List Event → ℕ → Type 0}
      {given : Result Answer AllocError}
      → (history ≡ []) × (settled ≡ 0) → new ≡ old → answer ≡ given
      → IfOk given (λ a. Means (seen (told old) (faults old)) (seen (told old) (faults old)) (unrun_telling a)) → Leaves old old [] 0
      → Ends told may_leave faults Means Leaves old new answer history settled
  ends_untouched {Means = Means} {Leaves = Leaves} {given = given} none same is means leaves =
      let run : Ends told may_leave faults Means Leaves old old given [] 0 = record {
        means = means;
        refused = IfOk-weaker given _ _ (λ a says early. refl) means;
        leaves = leaves;
        calm = IfOk-weaker given _ _ (λ a says sound calm. calm) means;
        counts = omega arith;
      } in
      subst (λ (x : D). Ends told may_leave faults Means Leaves old x answer history settled) (sym same)
      (subst (λ (r : Result Answer AllocError). Ends told may_leave faults Means Leaves old old r history settled) (sym is)
      (subst (λ (es : List Event). Ends told may_leave faults Means Leaves old old given es settled) (sym none.0)
      (subst (λ (n : ℕ). Ends told may_leave faults Means Leaves old old given [] n) (sym none.1) run)))
