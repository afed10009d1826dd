-- What stands behind the answers of `recover`, `dump`, `replies` and `booking verify`, and what a refused journal is afterwards.
use Rattle.std.specs.Prelude.{◌≡◌, ◌≢◌, ◌⊎◌, ℕ, List, [], ◌∷◌, Option, Some, None, IfSome}
use Rattle.std.specs.Io.KnownBytes.{Appends}
use Rattle.acc_base.specs.declared.designs.Design.{Design}
use Rattle.acc_base.specs.declared.machines.Event.{Event}
use Rattle.acc_io.specs.Shelves.{Told}
use Rattle.acc_commands.specs.Texts.{IsDesignText}
use Rattle.acc_commands.specs.Admissions.{IsAcceptedWith}
use Rattle.acc_wal.specs.Journals.{Counts}
use Rattle.acc_recover.specs.Refusals.{CountsSame}
use Rattle.acc_journalled.specs.declared.answers.Ending.TheVariants.{Done}
use Rattle.acc_journalled.specs.declared.answers.Wanted.TheVariants as wanted
use Rattle.acc_journalled.specs.Recovering.{Recovers, text_of}
use Rattle.acc_commands.specs.Command.{Command}
use Rattle.acc_commands.specs.Command.TheVariants as command
use Rattle.acc_commands.specs.BookingFiles.{say_seats}
use Rattle.acc_commands.specs.RecoverFiles.{Saying, StopsDesign}
use Rattle.acc_commands.specs.Words.{files_of}
use Rattle.acc_commands.specs.Files.{AreFiles}

-- what a command says of a recovered state, if it recovers a journal and says something of that alone
abbrev pub wanted_by : Command → Option Saying
wanted_by command.Recover = Some (text_of wanted.Counts)
wanted_by command.Dump = Some (text_of wanted.Rows)
wanted_by command.Replies = Some (text_of wanted.Replies)
wanted_by command.BookingVerify = Some say_seats
wanted_by command.Verify = None
wanted_by command.Migrate = None
wanted_by command.TpccDesign = None
wanted_by command.BookingDesign = None
wanted_by (command.TpccLoad scale) = None
wanted_by (command.TpccMix mix) = None
wanted_by (command.Bench mix) = None
wanted_by command.Play = None
wanted_by command.Rehearse = None
wanted_by command.Print = None
wanted_by command.Draw = None
wanted_by command.Check = None
wanted_by command.Prove = None
wanted_by (command.Advise side) = None
wanted_by command.Audit = None
wanted_by (command.Follow size) = None
wanted_by command.Init = None
wanted_by command.Sched = None
wanted_by (command.Run workers) = None
wanted_by command.Help = None
wanted_by command.Version = None

-- The files spell this design, which is accepted with its certificate, and the disk held a journal of it. This is the recovered history,
-- all of it durable: the disk holds a journal of just that now. With status 0 what is wanted of it was said; where memory ran out, the text
-- is one that could be said.
pub record IsRecovered (held : List ℕ → Told) (words : List (List ℕ)) (c : Command) (say : Saying) (told told' : Option (List ℕ))
    (old new : Option (List ℕ)) (code : ℕ) (history : List Event) (settled : ℕ) : Type 0 where
  pub design : List ℕ
  pub certificate : List ℕ
  pub given : AreFiles held (files_of c words) (design ∷ certificate ∷ [])
  pub d : Design
  pub is_text : IsDesignText design d
  pub accepted : IsAcceptedWith d certificate
  pub text : List ℕ
  pub recovers : Recovers (say d) d told told' (record { ending = Done; text = text; history = history; settled = settled })
  pub says : code ≡ 0 → Appends old new text

-- The files are given, and of a journal that was recovered by them the text of the rows isn't put behind its history, since the disk failed
-- there or memory ran out. All of the history is durable.
pub record StopsGiven {D : Type 0} (told : D → Option (List ℕ)) (may_leave : D → List ℕ → Type 0) (faults : D → ℕ) (held : List ℕ → Told)
    (words : List (List ℕ)) (c : Command) (old new : D) (history : List Event) (settled : ℕ) : Type 0 where
  pub design : List ℕ
  pub certificate : List ℕ
  pub given : AreFiles held (files_of c words) (design ∷ certificate ∷ [])
  pub stops : StopsDesign told may_leave faults design certificate old new history settled

-- the status of a fault of the disk, or of want of memory
abbrev pub IsBroken : ℕ → Type 0
IsBroken code = (code ≡ 5) ⊎ (code ≡ 9)

-- nothing is recovered, and so no history is told; or this one is; or it is told so far, where the call broke off behind the recovery
abbrev pub TellsRecovery : (List ℕ → Told) → List (List ℕ) → Command → Saying → Option (List ℕ) → Option (List ℕ) → Option (List ℕ)
    → Option (List ℕ) → ℕ → List Event → ℕ → Type 0 → Type 0
TellsRecovery held words c say told told' old new code history settled Stops =
    ((code ≢ 0) × (code ≢ 7) × (history ≡ []) × (settled ≡ 0))
    ⊎ IsRecovered held words c say told told' old new code history settled ⊎ (IsBroken code × Stops)

-- the bytes are a journal
abbrev pub IsJournal : List ℕ → Type 0
IsJournal file = (base : List ℕ) × (events : List Event) × Counts file base events

-- the disk tells the same bytes; or they were a journal, and are one of the same base text and events
abbrev pub LeavesRefused : Option (List ℕ) → Option (List ℕ) → Type 0
LeavesRefused told told' = (told' ≡ told) ⊎ (IfSome told IsJournal × CountsSame told told')
