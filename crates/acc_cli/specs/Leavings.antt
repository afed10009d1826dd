-- What a command line leaves of the disk, and the events that it tells, also where memory ran out.
-- The clauses below `acc` speak of this.
use Rattle.std.specs.Prelude.{◌≡◌, ℕ, List, length, Option, Some}
use Rattle.acc_base.specs.declared.machines.Event.{Event}
use Rattle.acc_io.specs.Shelves.{Told}
use Rattle.acc_commands.specs.Command.{Command}
use Rattle.acc_commands.specs.Words.{command_of, file_count, files_of}
use Rattle.acc_commands.specs.Files.{AreFiles}
use Rattle.acc_commands.specs.Disks.{OrUntouched}
use Rattle.acc_commands.specs.Means.{LeavesOf}

module _ {D : Type 0} (clock : D → ℕ) (left_since : D → ℕ → List ℕ → Type 0) (told : D → Option (List ℕ)) (may_leave : D → List ℕ → Type 0)
    (faults : D → ℕ) (held : List ℕ → Told) (words : List (List ℕ)) where
  -- the command's files are given, and so it leaves
  pub record LeavesGiven (old new : D) (history : List Event) (settled : ℕ) : Type 0 where
    pub command : Command
    pub form : command_of words ≡ Some command
    pub files : List (List ℕ)
    pub count : length files ≡ file_count command
    pub given : AreFiles held (files_of command words) files
    pub left : LeavesOf clock left_since told may_leave faults command files old new history settled

  -- nothing was asked of the disk, and nothing is told; or so
  abbrev pub LeavesLine : D → D → List Event → ℕ → Type 0
  LeavesLine = OrUntouched LeavesGiven
