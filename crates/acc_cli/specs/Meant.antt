-- What is answered to a command line, where memory lasts and each byte can be written.
use Rattle.std.specs.Prelude.{◌≡◌, ℕ, List, [], length, ◌⊎◌, Option, Some, None, codes}
use Rattle.acc_io.specs.Counted.{after_files}
use Rattle.acc_io.specs.Shelves.{Told}
use Rattle.acc_io.specs.declared.counts.Counts.{Counts}
use Rattle.acc_io.specs.declared.shelf.ShelfError.{ShelfError}
use Rattle.acc_commands.specs.Command.{Command}
use Rattle.acc_journalled.specs.declared.answers.Ending.{Ending}
use Rattle.acc_cli.specs.declared.status.Status.TheVariants.{Usage, File, Ran}
use Rattle.acc_base.specs.Lines.{line}
use Rattle.acc_cli.specs.Replies.{Reply}
use Rattle.acc_commands.specs.Words.{command_of, files_of, points_of}
use Rattle.acc_commands.specs.Disks.{Seen}
use Rattle.acc_commands.specs.Means.{Means, LeavesOfFile}
use Rattle.acc_commands.specs.Files.{AreFiles, IsFirstRefused, SaysRefused}

-- no machine ran, and the disk is as before
abbrev pub RunsNothing : Seen → Seen → Reply → Type 0
RunsNothing disk disk' reply = (reply.history ≡ []) × (reply.settled ≡ 0) × (disk' ≡ disk)

-- the first file that isn't given is refused
abbrev pub RefusesFile : (List ℕ → Told) → Counts → Counts → Seen → Seen → List (List ℕ) → Reply → Type 0
RefusesFile held counts counts' disk disk' names reply = (reply.status ≡ File) × RunsNothing disk disk' reply ×
    ((name : List ℕ) × (error : ShelfError) × IsFirstRefused held counts counts' names name error × SaysRefused name error reply.text)

-- the command says this of the words that name points, of its files and of the disk, and the status tells how it ends
abbrev pub RunsSo : Command → List (List ℕ) → List (List ℕ) → Seen → Seen → Reply → Type 0
RunsSo command points files disk disk' reply = (ending : Ending) × (reply.status ≡ Ran ending) × Means command points files disk disk'
    (record { ending = ending; text = reply.text; history = reply.history; settled = reply.settled })

-- all files are given, each by one read
abbrev pub Runs : (List ℕ → Told) → Counts → Counts → Seen → Seen → Command → List (List ℕ) → List (List ℕ) → Reply → Type 0
Runs held counts counts' disk disk' command points names reply =
    (files : List (List ℕ)) × AreFiles held names files × (counts' ≡ after_files (length names) counts)
    × RunsSo command points files disk disk' reply

-- the words are no form, and nothing is read
abbrev pub SaysUsage : Counts → Counts → Seen → Seen → Reply → Type 0
SaysUsage counts counts' disk disk' reply =
    (reply.status ≡ Usage) × (counts' ≡ counts) × (reply.text ≡ line (codes "usage")) × RunsNothing disk disk' reply

-- The order of the refusals: the words, the files in the order of the words, and then the command's own.
abbrev pub MeansForm : (List ℕ → Told) → Counts → Counts → Seen → Seen → List (List ℕ) → Option Command → Reply → Type 0
MeansForm held counts counts' disk disk' words None reply = SaysUsage counts counts' disk disk' reply
MeansForm held counts counts' disk disk' words (Some command) reply =
    RefusesFile held counts counts' disk disk' (files_of command words) reply
    ⊎ Runs held counts counts' disk disk' command (points_of command words) (files_of command words) reply

abbrev pub Meant : (List ℕ → Told) → Counts → Counts → Seen → Seen → List (List ℕ) → Reply → Type 0
Meant held counts counts' disk disk' words = MeansForm held counts counts' disk disk' words (command_of words)

-- the command's files are given, and this is so to the file that the disk held
pub record LeavesByCommand (held : List ℕ → Told) (words : List (List ℕ)) (file image : List ℕ) : Type 0 where
  pub command : Command
  pub form : command_of words ≡ Some command
  pub files : List (List ℕ)
  pub given : AreFiles held (files_of command words) files
  pub left : LeavesOfFile command files file image

-- what a crash at any moment of the program leaves of the file that a calm disk held: that, or what one in the command leaves of it
abbrev pub LeavesOfLine : (List ℕ → Told) → List (List ℕ) → List ℕ → List ℕ → Type 0
LeavesOfLine held words file image = (image ≡ file) ⊎ LeavesByCommand held words file image
