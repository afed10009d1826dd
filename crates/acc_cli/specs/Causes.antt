-- When each status comes.
use Rattle.std.specs.Prelude.{◌≡◌, ◌⊎◌, ℕ, false, List, [], ◌∷◌, length, Some, None, IfSome}
use Rattle.acc_base.specs.declared.designs.Design.{Design}
use Rattle.acc_base.specs.declared.machines.Call.{Call}
use Rattle.acc_io.specs.Causes.{Rose}
use Rattle.acc_io.specs.Counted.{after_files}
use Rattle.acc_io.specs.Shelves.{Told}
use Rattle.acc_io.specs.declared.counts.Counts.{Counts}
use Rattle.acc_io.specs.declared.shelf.ShelfError.{ShelfError}
use Rattle.acc_commands.specs.Schedules.{TellsSchedule}
use Rattle.acc_wal.specs.Creating.{IsThere}
use Rattle.acc_recover.specs.Refusals.{RefusesRecovery, IsOfJournal, IsOfBytes, CountsSame}
use Rattle.acc_recover.specs.declared.errors.RecoverError.{RecoverError}
use Rattle.acc_commands.specs.Command.{Command}
use Rattle.acc_commands.specs.Command.TheVariants as command
use Rattle.acc_journalled.specs.declared.answers.Ending.{Ending}
use Rattle.acc_journalled.specs.declared.answers.Ending.TheVariants.{Done, JournalRefused, DiskFailed, Unbegun, Open, ConditionFalse}
use Rattle.acc_cli.specs.declared.status.Status.{Status}
use Rattle.acc_cli.specs.declared.status.Status.TheVariants.{Usage, File, Sink, Memory, Ran}
use Rattle.acc_commands.specs.Words.{command_of, files_of, points_of}
use Rattle.acc_commands.specs.Files.{AreFiles, IsFirstRefused, SaysRefused}
use Rattle.acc_commands.specs.Means.{Means}
use Rattle.acc_commands.specs.Overs.{IsRecovering, IsMaking, RefusesSource, LeavesBy, FindsFalse, LeavesBench, BenchFindsFalse}
use Rattle.acc_commands.specs.Overs.{RefusesCopy, AuditFinds, RefusesFollowing}
use Rattle.acc_commands.specs.ProveFiles.{StaysOpen}
use Rattle.acc_journalled.specs.Tellings.{Telling}
use Rattle.acc_commands.specs.Disks.{Seen}

-- the words are a form, one of whose files isn't given
pub record LacksFile (held : List ℕ → Told) (counts counts' : Counts) (words : List (List ℕ)) : Type 0 where
  pub command : Command
  pub form : command_of words ≡ Some command
  pub name : List ℕ
  pub error : ShelfError
  pub first : IsFirstRefused held counts counts' (files_of command words) name error
  -- so it isn't want of memory
  pub text : List ℕ
  pub printed : SaysRefused name error text

-- the words are a form, all files are given, each by one read, and their command ends so
pub record EndsSo (held : List ℕ → Told) (counts counts' : Counts) (disk disk' : Seen) (words : List (List ℕ)) (ending : Ending)
    : Type 0 where
  pub command : Command
  pub form : command_of words ≡ Some command
  pub files : List (List ℕ)
  pub given : AreFiles held (files_of command words) files
  pub counted : counts' ≡ after_files (length (files_of command words)) counts
  pub said : Telling
  pub ending_is : said.ending ≡ ending
  pub meant : Means command (points_of command words) files disk disk' said

-- it is `rehearse`, and its schedule leaves a place that couldn't begin, since the history is full
pub record LeavesInMemory (c : Command) (said : Telling) : Type 0 where
  pub is_rehearse : c ≡ command.Rehearse
  pub d : Design
  pub calls : List Call
  pub order : List ℕ
  pub tells : TellsSchedule d calls order said.text said.history false

-- a schedule leaves a place that couldn't begin, or a load and a mix do, with each condition true
pub record LeavesUnbegun (held : List ℕ → Told) (counts counts' : Counts) (disk disk' : Seen) (words : List (List ℕ)) : Type 0 where
  pub ends : EndsSo held counts counts' disk disk' words Unbegun
  pub left : LeavesInMemory ends.command ends.said ⊎ LeavesBy ends.command ends.said ⊎ LeavesBench ends.command ends.said

-- it makes a journal, the first two bytes of the disk say that one is there, and it holds what it held
pub record FindsJournal (c : Command) (disk disk' : Seen) : Type 0 where
  pub is_making : IsMaking c
  pub there : IfSome disk.told IsThere
  pub same : disk'.told ≡ disk.told

-- It is a command that recovers a journal, and the bytes of the disk give this cause why nothing is recovered. What
-- is no journal is left as it is; a journal that is refused counts what it counted.
pub record RefusesRecovering (c : Command) (disk disk' : Seen) : Type 0 where
  pub is_over : IsRecovering c
  pub d : Design
  pub error : RecoverError
  pub of_bytes : IsOfBytes error
  pub cause : RefusesRecovery d error disk.told (Rose disk.faults disk'.faults)
  pub same : IsOfJournal error → disk'.told ≡ disk.told
  pub kept : CountsSame disk.told disk'.told

-- It is `migrate`, and the bytes of its source give a cause why nothing is recovered from them. The disk tells what it told.
pub record RefusesMigration (c : Command) (files : List (List ℕ)) (disk disk' : Seen) : Type 0 where
  pub source : RefusesSource c files
  pub same : disk'.told ≡ disk.told

-- It is `audit`, and the bytes of the copy give a cause why they aren't judged. The disk is asked nothing.
pub record RefusesAudit (c : Command) (files : List (List ℕ)) (disk disk' : Seen) : Type 0 where
  pub copy : RefusesCopy c files
  pub same : disk'.told ≡ disk.told

-- It is `follow`, and the bytes of the copy give a cause why they aren't followed on. The disk is asked nothing.
pub record StopsFollowing (c : Command) (files : List (List ℕ)) (disk disk' : Seen) : Type 0 where
  pub following : RefusesFollowing c files
  pub same : disk'.told ≡ disk.told

-- the journal is there already, or isn't one that is recovered, or an old one or a copy isn't one that is recovered, judged or followed on
pub record RefusesJournal (held : List ℕ → Told) (counts counts' : Counts) (disk disk' : Seen) (words : List (List ℕ)) : Type 0 where
  pub ends : EndsSo held counts counts' disk disk' words JournalRefused
  pub why : FindsJournal ends.command disk disk' ⊎ RefusesRecovering ends.command disk disk'
      ⊎ RefusesMigration ends.command ends.files disk disk' ⊎ RefusesAudit ends.command ends.files disk disk'
      ⊎ StopsFollowing ends.command ends.files disk disk'

-- it is `prove`, and obligations of the design stay open: what is said has a line for each
pub record LeavesOpen (held : List ℕ → Told) (counts counts' : Counts) (disk disk' : Seen) (words : List (List ℕ)) : Type 0 where
  pub ends : EndsSo held counts counts' disk disk' words Open
  pub is_prove : ends.command ≡ command.Prove
  pub design : List ℕ
  pub file : ends.files ≡ design ∷ []
  pub stays : StaysOpen design ends.said.text

-- it is `verify`, and a consistency condition is false of the recovered rows; or `bench`, and one is false of the rows at its end; or
-- `audit`, and behind an event of the copy a clause is false, or can't be told of
pub record FindsConditionFalse (held : List ℕ → Told) (counts counts' : Counts) (disk disk' : Seen) (words : List (List ℕ)) : Type 0
  where
    pub ends : EndsSo held counts counts' disk disk' words ConditionFalse
    pub finds : ((ends.command ≡ command.Verify) × FindsFalse disk disk' ends.said) ⊎ BenchFindsFalse ends.command ends.said
        ⊎ AuditFinds ends.command ends.files

-- Want of memory alone is free. No status but that of a file comes after a read that gave no file.
pub record HasCauses (held : List ℕ → Told) (counts counts' : Counts) (disk disk' : Seen) (words : List (List ℕ)) (sink_fault : Type 0)
    (status : Status) : Type 0 where
  pub usage : status ≡ Usage → (command_of words ≡ None) × (counts' ≡ counts)
  pub usage_only : command_of words ≡ None → (status ≡ Usage) ⊎ (status ≡ Memory)
  pub file : status ≡ File → LacksFile held counts counts' words
  pub sink : status ≡ Sink → sink_fault × EndsSo held counts counts' disk disk' words Done
  pub unbegun : status ≡ Ran Unbegun → LeavesUnbegun held counts counts' disk disk' words
  pub journal : status ≡ Ran JournalRefused → RefusesJournal held counts counts' disk disk' words
  pub unproved : status ≡ Ran Open → LeavesOpen held counts counts' disk disk' words
  pub judged : status ≡ Ran ConditionFalse → FindsConditionFalse held counts counts' disk disk' words
  pub disk_fault : status ≡ Ran DiskFailed → Rose disk.faults disk'.faults
  pub ran : (ending : Ending) → status ≡ Ran ending → EndsSo held counts counts' disk disk' words ending
