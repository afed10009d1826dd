-- What a command leaves of the file that a calm disk held, from what it leaves of the disk.
use Rattle.std.proofs.Common.{◌≡◌, ℕ, List, [], ◌∷◌, Option, inl, inr, refl, sym, subst}
use Rattle.acc_base.specs.declared.designs.Design.{Design}
use Rattle.acc_base.specs.declared.machines.Call.{Call}
use Rattle.acc_base.specs.declared.machines.Event.{Event}
use Rattle.acc_commands_journals.specs.Command.{Command}
use Rattle.acc_commands_journals.specs.Command.TheVariants as command
use Rattle.acc_commands_journals.specs.Crashes.{LeavesRun, WorksOver}
use Rattle.acc_commands_journals.specs.Disks.{OrUntouched, LeavesSo}
use Rattle.acc_commands_journals.specs.RunFiles.{RunLeaves, FilesRun, OrderRuns}
use Rattle.acc_commands_journals.proofs.Disks.{leaves_weaker, leaves_nothing}
use Rattle.acc_commands.specs.Means.{LeavesOfFile, LeavesDisk, LeavesOf}

module _ {D : Type 0} (clock : D → ℕ) (left_since : D → ℕ → List ℕ → Type 0) (told : D → Option (List ℕ)) (may_leave : D → List ℕ → Type 0)
  where
    -- a disk that was asked nothing
    pub leaves_untouched : (old new : D) (P : List ℕ → List ℕ → Type 0)
        → ((image : List ℕ) → left_since old (clock old) image → may_leave old image) → ((file : List ℕ) → P file file) → new ≡ old
        → LeavesSo clock left_since told may_leave P old new
    leaves_untouched old new P only_now here same =
        subst (λ (x : D). LeavesSo clock left_since told may_leave P old x) (sym same) (leaves_nothing P only_now here)

    -- the files' calls ran, and this is what they left
    files_leave : (Runs : Design → List Call → D → D → List Event → ℕ → Type 0) (design certificate script : List ℕ) (old new : D)
        (history : List Event) (settled : ℕ) (run : FilesRun Runs design certificate script old new history settled)
        → LeavesSo clock left_since told may_leave (λ file. LeavesRun run.d file history) old new
        → LeavesSo clock left_since told may_leave (RunLeaves design certificate) old new
    files_leave Runs design certificate script old new history settled run =
        leaves_weaker (λ file. LeavesRun run.d file history) (RunLeaves design certificate)
        (λ file image left. inr (record {
          d = run.d;
          is_text = run.is_text;
          formed = run.formed;
          accepted = run.accepted;
          left = inr (history, left);
        }))

    run_leaves : (design certificate script order : List ℕ) (old new : D) (history : List Event) (settled : ℕ)
        → ((image : List ℕ) → left_since old (clock old) image → may_leave old image)
        → OrUntouched (FilesRun (OrderRuns clock left_since told may_leave order) design certificate script) old new history settled
        → LeavesSo clock left_since told may_leave (RunLeaves design certificate) old new
    run_leaves design certificate script order old new history settled only_now (inl none) =
        leaves_untouched old new (RunLeaves design certificate) only_now (λ file. inl refl) none.0
    run_leaves design certificate script order old new history settled only_now (inr run) =
        let over = run.runs.runs.over in
        files_leave (OrderRuns clock left_since told may_leave order) design certificate script old new history settled run
        (record { moments = over.moments; left = over.left })

    work_leaves : (design certificate script : List ℕ) (old new : D) (history : List Event) (settled : ℕ)
        → ((image : List ℕ) → left_since old (clock old) image → may_leave old image)
        → OrUntouched (FilesRun (WorksOver clock left_since told may_leave) design certificate script) old new history settled
        → LeavesSo clock left_since told may_leave (RunLeaves design certificate) old new
    work_leaves design certificate script old new history settled only_now (inl none) =
        leaves_untouched old new (RunLeaves design certificate) only_now (λ file. inl refl) none.0
    work_leaves design certificate script old new history settled only_now (inr run) =
        files_leave (WorksOver clock left_since told may_leave) design certificate script old new history settled run
        (record { moments = run.runs.moments; left = run.runs.left })

    -- no command over a journal, or not its files
    disk_same : (old new : D) (history : List Event) (settled : ℕ)
        → ((image : List ℕ) → left_since old (clock old) image → may_leave old image) → LeavesDisk old new history settled
        → LeavesSo clock left_since told may_leave (λ file image. image ≡ file) old new
    disk_same old new history settled only_now same = leaves_untouched old new (λ file image. image ≡ file) only_now (λ file. refl) same.0

    pub leaves_file : (faults : D → ℕ) (c : Command) (files : List (List ℕ)) (old new : D) (history : List Event) (settled : ℕ)
        → ((image : List ℕ) → left_since old (clock old) image → may_leave old image)
        → LeavesOf clock left_since told may_leave faults c files old new history settled
        → LeavesSo clock left_since told may_leave (LeavesOfFile c files) old new
    unfolding LeavesOf LeavesOfFile
    leaves_file faults command.Init [] old new history settled now h = disk_same old new history settled now h
    leaves_file faults command.Init (design ∷ []) old new history settled now h = h.leaves
    leaves_file faults command.Init (design ∷ more ∷ rest) old new history settled now h = disk_same old new history settled now h
    leaves_file faults command.Sched [] old new history settled now h = disk_same old new history settled now h
    leaves_file faults command.Sched (design ∷ []) old new history settled now h = disk_same old new history settled now h
    leaves_file faults command.Sched (design ∷ certificate ∷ []) old new history settled now h = disk_same old new history settled now h
    leaves_file faults command.Sched (design ∷ certificate ∷ script ∷ []) old new history settled now h = disk_same old new history settled now h
    leaves_file faults command.Sched (design ∷ certificate ∷ script ∷ order ∷ []) old new history settled now h =
        run_leaves design certificate script order old new history settled now h
    leaves_file faults command.Sched (design ∷ certificate ∷ script ∷ order ∷ more ∷ rest) old new history settled now h =
        disk_same old new history settled now h
    leaves_file faults (command.Run workers) [] old new history settled now h = disk_same old new history settled now h
    leaves_file faults (command.Run workers) (design ∷ []) old new history settled now h = disk_same old new history settled now h
    leaves_file faults (command.Run workers) (design ∷ certificate ∷ []) old new history settled now h = disk_same old new history settled now h
    leaves_file faults (command.Run workers) (design ∷ certificate ∷ script ∷ []) old new history settled now h =
        work_leaves design certificate script old new history settled now h
    leaves_file faults (command.Run workers) (design ∷ certificate ∷ script ∷ more ∷ rest) old new history settled now h =
        disk_same old new history settled now h
    leaves_file faults command.Recover [] old new history settled now h = disk_same old new history settled now h
    leaves_file faults command.Recover (design ∷ []) old new history settled now h = disk_same old new history settled now h
    leaves_file faults command.Recover (design ∷ certificate ∷ []) old new history settled now h = h.leaves
    leaves_file faults command.Recover (design ∷ certificate ∷ more ∷ rest) old new history settled now h = disk_same old new history settled now h
    leaves_file faults command.Dump [] old new history settled now h = disk_same old new history settled now h
    leaves_file faults command.Dump (design ∷ []) old new history settled now h = disk_same old new history settled now h
    leaves_file faults command.Dump (design ∷ certificate ∷ []) old new history settled now h = h.leaves
    leaves_file faults command.Dump (design ∷ certificate ∷ more ∷ rest) old new history settled now h = disk_same old new history settled now h
    leaves_file faults command.Replies [] old new history settled now h = disk_same old new history settled now h
    leaves_file faults command.Replies (design ∷ []) old new history settled now h = disk_same old new history settled now h
    leaves_file faults command.Replies (design ∷ certificate ∷ []) old new history settled now h = h.leaves
    leaves_file faults command.Replies (design ∷ certificate ∷ more ∷ rest) old new history settled now h = disk_same old new history settled now h
    leaves_file faults command.Verify [] old new history settled now h = disk_same old new history settled now h
    leaves_file faults command.Verify (design ∷ []) old new history settled now h = disk_same old new history settled now h
    leaves_file faults command.Verify (design ∷ certificate ∷ []) old new history settled now h = h.leaves
    leaves_file faults command.Verify (design ∷ certificate ∷ more ∷ rest) old new history settled now h = disk_same old new history settled now h
    leaves_file faults command.Migrate [] old new history settled now h = disk_same old new history settled now h
    leaves_file faults command.Migrate (design ∷ []) old new history settled now h = disk_same old new history settled now h
    leaves_file faults command.Migrate (design ∷ certificate ∷ []) old new history settled now h = disk_same old new history settled now h
    leaves_file faults command.Migrate (design ∷ certificate ∷ source ∷ []) old new history settled now h = h.leaves
    leaves_file faults command.Migrate (design ∷ certificate ∷ source ∷ more ∷ rest) old new history settled now h =
        disk_same old new history settled now h
    leaves_file faults command.BookingVerify [] old new history settled now h = disk_same old new history settled now h
    leaves_file faults command.BookingVerify (design ∷ []) old new history settled now h = disk_same old new history settled now h
    leaves_file faults command.BookingVerify (design ∷ certificate ∷ []) old new history settled now h = h.leaves
    leaves_file faults command.BookingVerify (design ∷ certificate ∷ more ∷ rest) old new history settled now h =
        disk_same old new history settled now h
    leaves_file faults (command.Advise side) files old new history settled now h = disk_same old new history settled now h
    leaves_file faults command.Audit files old new history settled now h = disk_same old new history settled now h
    leaves_file faults (command.Follow size) files old new history settled now h = disk_same old new history settled now h
    leaves_file faults command.TpccDesign files old new history settled now h = disk_same old new history settled now h
    leaves_file faults command.BookingDesign files old new history settled now h = disk_same old new history settled now h
    leaves_file faults (command.TpccLoad scale) files old new history settled now h = disk_same old new history settled now h
    leaves_file faults (command.TpccMix mix) files old new history settled now h = disk_same old new history settled now h
    leaves_file faults (command.Bench mix) files old new history settled now h = disk_same old new history settled now h
    leaves_file faults command.Play files old new history settled now h = disk_same old new history settled now h
    leaves_file faults command.Rehearse files old new history settled now h = disk_same old new history settled now h
    leaves_file faults command.Print files old new history settled now h = disk_same old new history settled now h
    leaves_file faults command.Draw files old new history settled now h = disk_same old new history settled now h
    leaves_file faults command.Check files old new history settled now h = disk_same old new history settled now h
    leaves_file faults command.Prove files old new history settled now h = disk_same old new history settled now h
    leaves_file faults command.Help files old new history settled now h = disk_same old new history settled now h
    leaves_file faults command.Version files old new history settled now h = disk_same old new history settled now h
