-- What stands behind `sched` and `run`, whoever took which turn, whatever their order and however the program ends.
use Rattle.std.specs.Prelude.{ℕ, List, [], ◌∷◌, Option}
use Rattle.acc_base.specs.declared.machines.Event.{Event}
use Rattle.acc_io.specs.Shelves.{Told}
use Rattle.acc_commands.specs.Command.TheVariants as command
use Rattle.acc_commands.specs.Words.{files_of}
use Rattle.acc_commands.specs.Files.{AreFiles}
use Rattle.acc_commands.specs.Crashes.{WorksOver}
use Rattle.acc_commands.specs.Disks.{OrUntouched}
use Rattle.acc_commands.specs.RunFiles.{FilesRun, OrderRuns}

module _ {D : Type 0} (clock : D → ℕ) (left_since : D → ℕ → List ℕ → Type 0) (told : D → Option (List ℕ)) (may_leave : D → List ℕ → Type 0)
    (held : List ℕ → Told) (words : List (List ℕ)) where
  -- The files of `sched` are given, and their calls ran in the order: what is told begins with the recovered history, and the calls run
  -- behind it, lawful, annotated, idle whenever nothing is unfinished, each end durable but one at most; and what a crash leaves of that.
  pub record RunsGiven (old new : D) (history : List Event) (settled : ℕ) : Type 0 where
    pub design : List ℕ
    pub certificate : List ℕ
    pub script : List ℕ
    pub order : List ℕ
    pub given : AreFiles held (files_of command.Sched words) (design ∷ certificate ∷ script ∷ order ∷ [])
    pub run : FilesRun (OrderRuns clock left_since told may_leave order) design certificate script old new history settled

  -- nothing was asked of the disk, and nothing is told; or they ran
  abbrev pub RunsLine : D → D → List Event → ℕ → Type 0
  RunsLine = OrUntouched RunsGiven

  -- The files of `run` are given, and so many workers ran their calls: what is told begins with the recovered history, and the calls run
  -- behind it, lawful, annotated and idle whenever nothing is unfinished, whatever the workers did; and what a crash leaves of that.
  pub record WorksGiven (workers : ℕ) (old new : D) (history : List Event) (settled : ℕ) : Type 0 where
    pub design : List ℕ
    pub certificate : List ℕ
    pub script : List ℕ
    pub given : AreFiles held (files_of (command.Run workers) words) (design ∷ certificate ∷ script ∷ [])
    pub run : FilesRun (WorksOver clock left_since told may_leave) design certificate script old new history settled

  abbrev pub WorksLine : ℕ → D → D → List Event → ℕ → Type 0
  WorksLine workers = OrUntouched (WorksGiven workers)
