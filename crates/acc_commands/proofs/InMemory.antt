-- How a command without a journal ends.
use Rattle.std.proofs.Common.{◌≡◌, ◌≤◌, ℕ, true, false, List, [], Option, Result, Ok, Err, sym, subst, arith}
use Rattle.std.specs.Prelude.{IfOk, IfErr}
use Rattle.std.specs.declared.alloc.AllocError.{AllocError}
use Rattle.std.proofs.lemmas.Result.{IfOk-weaker}
use Rattle.acc_base.specs.declared.machines.Event.{Event}
use Rattle.acc_disk.specs.Crashes.{IsCalm}
use Rattle.acc_commands_journals.specs.Command.{Command}
use Rattle.acc_commands_journals.specs.Command.TheVariants as command
use Rattle.acc_commands_journals.specs.Answers.{said_of, said_alone}
use Rattle.acc_commands_journals.specs.Words.{is_journalled}
use Rattle.acc_journalled.specs.declared.answers.Answer.{Answer}
use Rattle.acc_journalled.specs.Tellings.{telling_of}
use Rattle.acc_commands_files.specs.declared.memory_runs.MemoryRun.{MemoryRun}
use Rattle.acc_commands_files.specs.Runs.{told_by}
use Rattle.acc_commands_journals.specs.Disks.{Ends, seen}
use Rattle.acc_commands.specs.Means.{MeansOfFiles, Means, LeavesOf, TellsInMemory}
use Rattle.acc_commands.proofs.Tables.{means_without}

module _ {D : Type 0} (clock : D → ℕ) (left_since : D → ℕ → List ℕ → Type 0) (told : D → Option (List ℕ)) (may_leave : D → List ℕ → Type 0)
    (faults : D → ℕ) where
  leaves_disk : (c : Command) (files : List (List ℕ)) (old new : D) (history : List Event) (settled : ℕ) → is_journalled c ≡ false
      → new ≡ old → settled ≡ 0 → LeavesOf clock left_since told may_leave faults c files old new history settled
  unfolding LeavesOf
  leaves_disk command.Init files old new history settled is same none = (let e : true ≡ false = is in absurd cc)
  leaves_disk command.Sched files old new history settled is same none = (let e : true ≡ false = is in absurd cc)
  leaves_disk (command.Run workers) files old new history settled is same none = (let e : true ≡ false = is in absurd cc)
  leaves_disk command.Recover files old new history settled is same none = (let e : true ≡ false = is in absurd cc)
  leaves_disk command.Dump files old new history settled is same none = (let e : true ≡ false = is in absurd cc)
  leaves_disk command.Replies files old new history settled is same none = (let e : true ≡ false = is in absurd cc)
  leaves_disk command.Verify files old new history settled is same none = (let e : true ≡ false = is in absurd cc)
  leaves_disk command.Migrate files old new history settled is same none = (let e : true ≡ false = is in absurd cc)
  leaves_disk command.BookingVerify files old new history settled is same none = (let e : true ≡ false = is in absurd cc)
  leaves_disk (command.Advise side) files old new history settled is same none = (same, none)
  leaves_disk command.Audit files old new history settled is same none = (same, none)
  leaves_disk (command.Follow size) files old new history settled is same none = (same, none)
  leaves_disk command.TpccDesign files old new history settled is same none = (same, none)
  leaves_disk command.BookingDesign files old new history settled is same none = (same, none)
  leaves_disk (command.TpccLoad scale) files old new history settled is same none = (same, none)
  leaves_disk (command.TpccMix mix) files old new history settled is same none = (same, none)
  leaves_disk (command.Bench mix) files old new history settled is same none = (same, none)
  leaves_disk command.Play files old new history settled is same none = (same, none)
  leaves_disk command.Rehearse files old new history settled is same none = (same, none)
  leaves_disk command.Print files old new history settled is same none = (same, none)
  leaves_disk command.Draw files old new history settled is same none = (same, none)
  leaves_disk command.Check files old new history settled is same none = (same, none)
  leaves_disk command.Prove files old new history settled is same none = (same, none)
  leaves_disk command.Help files old new history settled is same none = (same, none)
  leaves_disk command.Version files old new history settled is same none = (same, none)

  -- the disk is handed back as it is, and no event is durable
  pub ends_in_memory : (c : Command) (points files : List (List ℕ)) → is_journalled c ≡ false → (old new : D) → new ≡ old
      → (answer : Result Answer AllocError) (history : List Event) (settled : ℕ) → settled ≡ 0
      → IfOk answer (λ a. MeansOfFiles c points files (said_of a history))
      → Ends told may_leave faults (Means c points files) (LeavesOf clock left_since told may_leave faults c files) old new answer history settled
  ends_in_memory c points files is old new same answer history settled none says = record {
    means = IfOk-weaker answer _ _
        (λ a means. subst
        (λ (x : D). Means c points files (seen (told old) (faults old)) (seen (told x) (faults x)) (telling_of a history settled)) (sym same)
        (means_without c points files (seen (told old) (faults old)) (telling_of a history settled) is none means)) says;
    refused = IfOk-weaker answer _ _ (λ a means early. same) says;
    leaves = leaves_disk c files old new history settled is same none;
    calm = IfOk-weaker answer _ _
        (λ a means fails calm. subst (λ (x : D). IsCalm (told x) (may_leave x)) (sym same) calm) says;
    counts = subst (λ (x : D). faults old ≤ faults x) (sym same) (omega arith);
  }

  -- of an answer alone
  pub ends_alone : (c : Command) (points files : List (List ℕ)) → is_journalled c ≡ false → (old new : D) → new ≡ old
      → (given answer : Result Answer AllocError) → answer ≡ given → (history : List Event) (settled : ℕ) → history ≡ [] → settled ≡ 0
      → IfOk given (λ a. MeansOfFiles c points files (said_alone a))
      → Ends told may_leave faults (Means c points files) (LeavesOf clock left_since told may_leave faults c files) old new answer history settled
  ends_alone c points files is old new same given answer answered history settled empty none says =
      ends_in_memory c points files is old new same answer history settled none
      (subst (λ (h : List Event). IfOk answer (λ a. MeansOfFiles c points files (said_of a h))) (sym empty)
      (subst (λ (r : Result Answer AllocError). IfOk r (λ a. MeansOfFiles c points files (said_alone a))) (sym answered) says))

  -- of a run in memory
  pub ends_run : (c : Command) (points files : List (List ℕ)) → is_journalled c ≡ false → (old new : D) → new ≡ old
      → (run : Result MemoryRun AllocError) (answer : Result Answer AllocError) (history : List Event) (settled : ℕ)
      → TellsInMemory run answer history → settled ≡ 0 → IfOk run (λ r. MeansOfFiles c points files (told_by r))
      → Ends told may_leave faults (Means c points files) (LeavesOf clock left_since told may_leave faults c files) old new answer history settled
  ends_run c points files is old new same (Ok r) answer history settled tells none says =
      ends_in_memory c points files is old new same answer history settled none
      (subst (λ (h : List Event). IfOk answer (λ a. MeansOfFiles c points files (said_of a h))) (sym tells.1)
      (subst (λ (x : Result Answer AllocError). IfOk x (λ a. MeansOfFiles c points files (said_of a r.history))) (sym tells.0) says))
  ends_run c points files is old new same (Err e) answer history settled tells none says =
      ends_in_memory c points files is old new same answer history settled none
      (subst (λ (x : Result Answer AllocError). IfOk x (λ a. MeansOfFiles c points files (said_of a history))) (sym tells.0) tt)

-- where memory lacks for a run, no event is told
pub lacks_run : (run : Result MemoryRun AllocError) (answer : Result Answer AllocError) (history : List Event) → TellsInMemory run answer history
    → IfErr answer (λ e. history ≡ [])
lacks_run (Ok r) answer history tells =
    subst (λ (x : Result Answer AllocError). IfErr x (λ e. history ≡ [])) (sym tells.0) tt
lacks_run (Err e) answer history tells =
    subst (λ (x : Result Answer AllocError). IfErr x (λ e. history ≡ [])) (sym tells.0) tells.1

-- no event is told
pub lacks_none : (answer : Result Answer AllocError) (history : List Event) (settled : ℕ) → history ≡ [] → settled ≡ 0
    → IfErr answer (λ e. (history ≡ []) × (settled ≡ 0))
lacks_none (Ok a) history settled none zero = tt
lacks_none (Err e) history settled none zero = (none, zero)
