-- What a command makes of its files, and of its disk.
use Rattle.std.specs.Prelude.{◌≡◌, ℕ, Bool, true, false, List, [], ◌∷◌, Option, Result, Ok, Err}
use Rattle.std.specs.declared.alloc.AllocError.{AllocError}
use Rattle.acc_base.specs.declared.designs.Side.{Side}
use Rattle.acc_base.specs.declared.machines.Event.{Event}
use Rattle.acc_commands_journals.specs.Command.{Command}
use Rattle.acc_commands_journals.specs.Command.TheVariants as command
use Rattle.acc_commands_journals.specs.Words.{is_journalled}
use Rattle.acc_commands_files.specs.declared.memory_runs.MemoryRun.{MemoryRun}
use Rattle.acc_journalled.specs.declared.answers.Answer.{Answer}
use Rattle.acc_journalled.specs.declared.answers.Ending.TheVariants.{Done}
use Rattle.acc_journalled.specs.declared.answers.Wanted.TheVariants.{Counts, Rows, Replies}
use Rattle.acc_journalled.specs.Recovering.{text_of}
use Rattle.acc_journalled.specs.Tellings.{Telling}
use Rattle.acc_commands_journals.specs.Text.{Said, Says}
use Rattle.acc_commands_journals.specs.Crashes.{WorksOver}
use Rattle.acc_commands_journals.specs.Disks.{Seen, WithoutDisk}
use Rattle.acc_commands_journals.specs.Notes.{help_text, version_text}
use Rattle.acc_commands_files.specs.Advising.{AdvisesFile}
use Rattle.acc_commands_files.specs.Auditing.{AuditsFiles}
use Rattle.acc_commands_files.specs.Following.{FollowsFiles}
use Rattle.acc_commands_files.specs.PlayFiles.{PlaysFiles}
use Rattle.acc_commands_files.specs.ScheduleFiles.{SchedulesFiles}
use Rattle.acc_commands_files.specs.PrintFiles.{PrintsFile, DrawsFile}
use Rattle.acc_commands_files.specs.CheckFiles.{ChecksFiles}
use Rattle.acc_commands_files.specs.ProveFiles.{ProvesFile}
use Rattle.acc_commands_files.specs.Workloads.{PrintsShipped, PrintsBooking, PrintsLoad, PrintsMix}
use Rattle.acc_commands_files.specs.BenchFiles.{BenchesFiles}
use Rattle.acc_commands_journals.specs.BookingFiles.{say_seats, BooksFiles}
use Rattle.acc_commands_journals.specs.InitFiles.{InitsFile, InitLeaves, InitLeft}
use Rattle.acc_commands_journals.specs.MigrateFiles.{MigratesFiles, MigrateLeaves, MigrateLeft}
use Rattle.acc_commands_journals.specs.RecoverFiles.{RecoversFiles, RecoverLeaves, RecoverLeft}
use Rattle.acc_commands_journals.specs.VerifyFiles.{VerifiesFiles, VerifyLeft}
use Rattle.acc_commands_journals.specs.RunFiles.{RunsFiles, WorksFiles, RunLeaves, OrderRuns, RunLeft}

-- what `advise` makes of the words that name two points, and of its design
abbrev pub AdvisesGiven : Side → List (List ℕ) → List (List ℕ) → Said → Type 0
AdvisesGiven side (held ∷ step ∷ []) (design ∷ []) = AdvisesFile design held step side
AdvisesGiven side points files = λ said. ⊥

-- what a command without a journal makes of its files, and of the words that name points
unfoldable pub MeansOfFiles : Command → List (List ℕ) → List (List ℕ) → Said → Type 0
MeansOfFiles command.Play points (design ∷ script ∷ order ∷ []) = PlaysFiles design script order
MeansOfFiles command.Rehearse points (design ∷ certificate ∷ script ∷ order ∷ []) = SchedulesFiles design certificate script order
MeansOfFiles command.Print points (design ∷ []) = PrintsFile design
MeansOfFiles command.Draw points (design ∷ []) = DrawsFile design
MeansOfFiles command.Check points (design ∷ certificate ∷ []) = ChecksFiles design certificate
MeansOfFiles command.Prove points (design ∷ []) = ProvesFile design
MeansOfFiles (command.Advise side) points files = AdvisesGiven side points files
MeansOfFiles command.Audit points (design ∷ journal ∷ []) = AuditsFiles design journal
MeansOfFiles (command.Follow size) points (design ∷ certificate ∷ copy ∷ []) = FollowsFiles design certificate copy
MeansOfFiles command.TpccDesign points [] = PrintsShipped
MeansOfFiles command.BookingDesign points [] = PrintsBooking
MeansOfFiles (command.TpccLoad scale) points [] = PrintsLoad scale
MeansOfFiles (command.TpccMix mix) points [] = PrintsMix mix
MeansOfFiles (command.Bench mix) points (design ∷ certificate ∷ []) = BenchesFiles mix design certificate
MeansOfFiles command.Help points [] = Says Done help_text
MeansOfFiles command.Version points [] = Says Done version_text
MeansOfFiles command.Play points files = λ said. ⊥
MeansOfFiles command.Rehearse points files = λ said. ⊥
MeansOfFiles command.Print points files = λ said. ⊥
MeansOfFiles command.Draw points files = λ said. ⊥
MeansOfFiles command.Check points files = λ said. ⊥
MeansOfFiles command.Audit points files = λ said. ⊥
MeansOfFiles (command.Follow size) points files = λ said. ⊥
MeansOfFiles command.Prove points files = λ said. ⊥
MeansOfFiles command.Init points files = λ said. ⊥
MeansOfFiles command.Sched points files = λ said. ⊥
MeansOfFiles (command.Run workers) points files = λ said. ⊥
MeansOfFiles command.Recover points files = λ said. ⊥
MeansOfFiles command.Dump points files = λ said. ⊥
MeansOfFiles command.Replies points files = λ said. ⊥
MeansOfFiles command.Verify points files = λ said. ⊥
MeansOfFiles command.Migrate points files = λ said. ⊥
MeansOfFiles command.TpccDesign points files = λ said. ⊥
MeansOfFiles command.BookingDesign points files = λ said. ⊥
MeansOfFiles command.BookingVerify points files = λ said. ⊥
MeansOfFiles (command.TpccLoad scale) points files = λ said. ⊥
MeansOfFiles (command.TpccMix mix) points files = λ said. ⊥
MeansOfFiles (command.Bench mix) points files = λ said. ⊥
MeansOfFiles command.Help points files = λ said. ⊥
MeansOfFiles command.Version points files = λ said. ⊥

-- what one over a journal makes of its files and of the disk
unfoldable pub MeansOverDisk : Command → List (List ℕ) → Seen → Seen → Telling → Type 0
MeansOverDisk command.Init (design ∷ []) = InitsFile design
MeansOverDisk command.Sched (design ∷ certificate ∷ script ∷ order ∷ []) = RunsFiles design certificate script order
MeansOverDisk (command.Run workers) (design ∷ certificate ∷ script ∷ []) = WorksFiles design certificate script
MeansOverDisk command.Recover (design ∷ certificate ∷ []) = RecoversFiles (text_of Counts) design certificate
MeansOverDisk command.Dump (design ∷ certificate ∷ []) = RecoversFiles (text_of Rows) design certificate
MeansOverDisk command.Replies (design ∷ certificate ∷ []) = RecoversFiles (text_of Replies) design certificate
MeansOverDisk command.Verify (design ∷ certificate ∷ []) = VerifiesFiles design certificate
MeansOverDisk command.Migrate (design ∷ certificate ∷ source ∷ []) = MigratesFiles design certificate source
MeansOverDisk command.BookingVerify (design ∷ certificate ∷ []) = BooksFiles design certificate
MeansOverDisk command.Play files = λ old new t. ⊥
MeansOverDisk command.Rehearse files = λ old new t. ⊥
MeansOverDisk command.Print files = λ old new t. ⊥
MeansOverDisk command.Draw files = λ old new t. ⊥
MeansOverDisk command.Check files = λ old new t. ⊥
MeansOverDisk command.Prove files = λ old new t. ⊥
MeansOverDisk (command.Advise side) files = λ old new t. ⊥
MeansOverDisk command.Audit files = λ old new t. ⊥
MeansOverDisk (command.Follow size) files = λ old new t. ⊥
MeansOverDisk command.Init files = λ old new t. ⊥
MeansOverDisk command.Sched files = λ old new t. ⊥
MeansOverDisk (command.Run workers) files = λ old new t. ⊥
MeansOverDisk command.Recover files = λ old new t. ⊥
MeansOverDisk command.Dump files = λ old new t. ⊥
MeansOverDisk command.Replies files = λ old new t. ⊥
MeansOverDisk command.Verify files = λ old new t. ⊥
MeansOverDisk command.Migrate files = λ old new t. ⊥
MeansOverDisk command.TpccDesign files = λ old new t. ⊥
MeansOverDisk command.BookingDesign files = λ old new t. ⊥
MeansOverDisk command.BookingVerify files = λ old new t. ⊥
MeansOverDisk (command.TpccLoad scale) files = λ old new t. ⊥
MeansOverDisk (command.TpccMix mix) files = λ old new t. ⊥
MeansOverDisk (command.Bench mix) files = λ old new t. ⊥
MeansOverDisk command.Help files = λ old new t. ⊥
MeansOverDisk command.Version files = λ old new t. ⊥

abbrev pub MeansBy : Bool → Command → List (List ℕ) → List (List ℕ) → Seen → Seen → Telling → Type 0
MeansBy true c points files old new t = MeansOverDisk c files old new t
MeansBy false c points files old new t = WithoutDisk (MeansOfFiles c points files) old new t

-- what a command makes of the words that name points, of its files and of the disk; one without a journal leaves that as it is
abbrev pub Means : Command → List (List ℕ) → List (List ℕ) → Seen → Seen → Telling → Type 0
Means c = MeansBy (is_journalled c) c

-- what a crash at any moment of a command leaves of the file that a calm disk held
unfoldable pub LeavesOfFile : Command → List (List ℕ) → List ℕ → List ℕ → Type 0
LeavesOfFile command.Init (design ∷ []) = InitLeaves design
LeavesOfFile command.Sched (design ∷ certificate ∷ script ∷ order ∷ []) = RunLeaves design certificate
LeavesOfFile (command.Run workers) (design ∷ certificate ∷ script ∷ []) = RunLeaves design certificate
LeavesOfFile command.Recover (design ∷ certificate ∷ []) = RecoverLeaves design certificate
LeavesOfFile command.Dump (design ∷ certificate ∷ []) = RecoverLeaves design certificate
LeavesOfFile command.Replies (design ∷ certificate ∷ []) = RecoverLeaves design certificate
LeavesOfFile command.Verify (design ∷ certificate ∷ []) = RecoverLeaves design certificate
LeavesOfFile command.Migrate (design ∷ certificate ∷ source ∷ []) = MigrateLeaves design certificate source
LeavesOfFile command.BookingVerify (design ∷ certificate ∷ []) = RecoverLeaves design certificate
LeavesOfFile command.Play files = λ file image. image ≡ file
LeavesOfFile command.Rehearse files = λ file image. image ≡ file
LeavesOfFile command.Print files = λ file image. image ≡ file
LeavesOfFile command.Draw files = λ file image. image ≡ file
LeavesOfFile command.Check files = λ file image. image ≡ file
LeavesOfFile command.Prove files = λ file image. image ≡ file
LeavesOfFile (command.Advise side) files = λ file image. image ≡ file
LeavesOfFile command.Audit files = λ file image. image ≡ file
LeavesOfFile (command.Follow size) files = λ file image. image ≡ file
LeavesOfFile command.Init files = λ file image. image ≡ file
LeavesOfFile command.Sched files = λ file image. image ≡ file
LeavesOfFile (command.Run workers) files = λ file image. image ≡ file
LeavesOfFile command.Recover files = λ file image. image ≡ file
LeavesOfFile command.Dump files = λ file image. image ≡ file
LeavesOfFile command.Replies files = λ file image. image ≡ file
LeavesOfFile command.Verify files = λ file image. image ≡ file
LeavesOfFile command.Migrate files = λ file image. image ≡ file
LeavesOfFile command.TpccDesign files = λ file image. image ≡ file
LeavesOfFile command.BookingDesign files = λ file image. image ≡ file
LeavesOfFile command.BookingVerify files = λ file image. image ≡ file
LeavesOfFile (command.TpccLoad scale) files = λ file image. image ≡ file
LeavesOfFile (command.TpccMix mix) files = λ file image. image ≡ file
LeavesOfFile (command.Bench mix) files = λ file image. image ≡ file
LeavesOfFile command.Help files = λ file image. image ≡ file
LeavesOfFile command.Version files = λ file image. image ≡ file

-- nothing of the disk changes, and no event is durable
abbrev pub LeavesDisk : {D : Type 0} → D → D → List Event → ℕ → Type 0
LeavesDisk old new history settled = (new ≡ old) × (settled ≡ 0)

module _ {D : Type 0} (clock : D → ℕ) (left_since : D → ℕ → List ℕ → Type 0) (told : D → Option (List ℕ)) (may_leave : D → List ℕ → Type 0)
    (faults : D → ℕ) where
  -- what a command leaves, and the events that it tells, also where memory ran out
  unfoldable pub LeavesOf : Command → List (List ℕ) → D → D → List Event → ℕ → Type 0
  LeavesOf command.Init (design ∷ []) = InitLeft clock left_since told may_leave design
  LeavesOf command.Sched (design ∷ certificate ∷ script ∷ order ∷ []) =
      RunLeft (OrderRuns clock left_since told may_leave order) design certificate script
  LeavesOf (command.Run workers) (design ∷ certificate ∷ script ∷ []) =
      RunLeft (WorksOver clock left_since told may_leave) design certificate script
  LeavesOf command.Recover (design ∷ certificate ∷ []) =
      RecoverLeft clock left_since told may_leave faults (text_of Counts) design certificate
  LeavesOf command.Dump (design ∷ certificate ∷ []) = RecoverLeft clock left_since told may_leave faults (text_of Rows) design certificate
  LeavesOf command.Replies (design ∷ certificate ∷ []) =
      RecoverLeft clock left_since told may_leave faults (text_of Replies) design certificate
  LeavesOf command.Verify (design ∷ certificate ∷ []) = VerifyLeft clock left_since told may_leave faults design certificate
  LeavesOf command.Migrate (design ∷ certificate ∷ source ∷ []) = MigrateLeft clock left_since told may_leave design certificate source
  LeavesOf command.BookingVerify (design ∷ certificate ∷ []) =
      RecoverLeft clock left_since told may_leave faults say_seats design certificate
  LeavesOf command.Play files = LeavesDisk
  LeavesOf command.Rehearse files = LeavesDisk
  LeavesOf command.Print files = LeavesDisk
  LeavesOf command.Draw files = LeavesDisk
  LeavesOf command.Check files = LeavesDisk
  LeavesOf command.Prove files = LeavesDisk
  LeavesOf (command.Advise side) files = LeavesDisk
  LeavesOf command.Audit files = LeavesDisk
  LeavesOf (command.Follow size) files = LeavesDisk
  LeavesOf command.Init files = LeavesDisk
  LeavesOf command.Sched files = LeavesDisk
  LeavesOf (command.Run workers) files = LeavesDisk
  LeavesOf command.Recover files = LeavesDisk
  LeavesOf command.Dump files = LeavesDisk
  LeavesOf command.Replies files = LeavesDisk
  LeavesOf command.Verify files = LeavesDisk
  LeavesOf command.Migrate files = LeavesDisk
  LeavesOf command.TpccDesign files = LeavesDisk
  LeavesOf command.BookingDesign files = LeavesDisk
  LeavesOf command.BookingVerify files = LeavesDisk
  LeavesOf (command.TpccLoad scale) files = LeavesDisk
  LeavesOf (command.TpccMix mix) files = LeavesDisk
  LeavesOf (command.Bench mix) files = LeavesDisk
  LeavesOf command.Help files = LeavesDisk
  LeavesOf command.Version files = LeavesDisk

-- what a run in memory says and tells; want of memory tells no event
abbrev pub TellsInMemory : Result MemoryRun AllocError → Result Answer AllocError → List Event → Type 0
TellsInMemory (Ok r) answer history = (answer ≡ Ok r.answer) × (history ≡ r.history)
TellsInMemory (Err e) answer history = (answer ≡ Err e) × (history ≡ [])
