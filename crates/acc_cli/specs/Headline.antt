-- What a crash leaves of `sched` and of `run`, and what `recover` finds in it.
use Rattle.std.specs.Prelude.{◌≡◌, ◌⊎◌, ℕ, List, [], ◌∷◌, length, take, Option, Some, option_and_then, IfSome}
use Rattle.acc_base.specs.declared.designs.Design.{Design}
use Rattle.acc_base.specs.declared.machines.Event.{Event}
use Rattle.acc_base.specs.declared.machines.Reply.{Reply}
use Rattle.acc_base.specs.Annotated.{IsIdle}
use Rattle.acc_base.specs.Lawful.{AreLawful}
use Rattle.acc_base.specs.Machine.{World, world, reply_at, unfinished}
use Rattle.acc_commands.specs.Admissions.{IsAcceptedWith}
use Rattle.acc_disk.specs.Crashes.{Only}
use Rattle.acc_disk.specs.Moments.{AtAnyMoment}
use Rattle.acc_io.specs.Causes.{Rose}
use Rattle.acc_io.specs.Shelves.{Told}
use Rattle.acc_commands.specs.Texts.{IsDesignText}
use Rattle.acc_print.specs.Designs.{printed}
use Rattle.acc_recover.specs.Recoveries.{IsRecovery, LeavesRecovery}
use Rattle.acc_wal.specs.Journals.{Counts}
use Rattle.acc_journalled.specs.declared.answers.Ending.TheVariants.{Done}
use Rattle.acc_journalled.specs.Recovering.{RecoversJournal}
use Rattle.acc_journalled.specs.Tellings.{Telling}
use Rattle.acc_commands.specs.Crashes.{IsFrontOf}
use Rattle.acc_commands.specs.Recorded.{IsFound}
use Rattle.acc_commands.specs.Command.{Command}
use Rattle.acc_commands.specs.Command.TheVariants as command
use Rattle.acc_commands.specs.Words.{files_of}
use Rattle.acc_commands.specs.Files.{AreFiles}
use Rattle.acc_cli.specs.Runs.{RunsLine, WorksLine}

-- whoever has a reply after the earlier events has the same one after the later
abbrev pub KeepsReplies : Design → List Event → List Event → Type 0
KeepsReplies d earlier later = (t : ℕ) (reply : Reply) → option_and_then (reply_at t) (world d earlier) ≡ Some reply
    → option_and_then (reply_at t) (world d later) ≡ Some reply

-- Recovery found these events and is done. The history that it tells is theirs, with what was unfinished crashed and undone: it is lawful,
-- takes no reply back, leaves nothing unfinished and the state idle, and the disk holds a journal of just that.
pub record RecoversTo (d : Design) (events : List Event) (told' : Option (List ℕ)) (t : Telling) : Type 0 where
  pub done : t.ending ≡ Done
  pub last : World
  pub recovery : IsRecovery d events last
  pub history_is : t.history ≡ last.events
  pub lawful : AreLawful d t.history
  pub replies : KeepsReplies d events t.history
  pub none_unfinished : unfinished last ≡ []
  pub idle : IsIdle d last.rows
  pub all_durable : t.settled ≡ length t.history
  pub holds : IfSome told' (λ file. Counts file (printed d) t.history)

-- The bytes are a journal of the design with these events. Whatever recovery says of them where no call of its disk fails, whichever text
-- is wanted, it found just these.
pub record Finds (d : Design) (image : List ℕ) (events : List Event) : Type 0 where
  pub counts : Counts image (printed d) events
  pub recovers : (text : World → ℕ → List ℕ) (told' : Option (List ℕ)) (before after : ℕ) (t : Telling) → ¬ Rose before after
      → RecoversJournal text d (Some image) told' (Rose before after) t → RecoversTo d events told' t

-- the files of the command are given: the first spells this design, which is accepted with the second, and this is so to it
pub record IsOfLine (held : List ℕ → Told) (words : List (List ℕ)) (c : Command) (So : Design → Type 0) : Type 0 where
  pub design : List ℕ
  pub certificate : List ℕ
  pub others : List (List ℕ)
  pub given : AreFiles held (files_of c words) (design ∷ certificate ∷ others)
  pub d : Design
  pub is_text : IsDesignText design d
  pub accepted : IsAcceptedWith d certificate
  pub so : So d

-- `recover` with this design finds events in the bytes, and they are these
pub record FindsSuch (d : Design) (image : List ℕ) (AreSuch : List Event → Type 0) : Type 0 where
  pub events : List Event
  pub finds : Finds d image events
  pub such : AreSuch events

-- at a moment of the call: those that were found in the file, or these with their compensation, or a front of the history with all of that
abbrev pub AreOnTheWay : Design → List ℕ → List Event → List Event → Type 0
AreOnTheWay d file history events = (first : World) × (found : IsFound d (Some file) first)
    × ((events ≡ found.found) ⊎ (events ≡ first.events) ⊎ IsFrontOf history (length first.events) events)

-- after the call: a front of the history with all that was told as durable, and so with each reply of that
abbrev pub AreDurable : Design → List Event → ℕ → List Event → Type 0
AreDurable d history settled events = IsFrontOf history settled events × KeepsReplies d (take settled history) events

-- nothing is told, and the bytes are those of the file, or count what it counted, or that with its compensation
pub record LeavesUntold (held : List ℕ → Told) (words : List (List ℕ)) (c : Command) (file : List ℕ) (history : List Event) (settled : ℕ)
    (image : List ℕ) : Type 0 where
  pub none : history ≡ []
  pub none_durable : settled ≡ 0
  pub left : (image ≡ file) ⊎ IsOfLine held words c (λ d. LeavesRecovery d file image)

-- What a crash leaves at any moment of the call, and what one leaves after it.
pub record CrashesRecover {D : Type 0} (clock : D → ℕ) (left_since : D → ℕ → List ℕ → Type 0) (may_leave : D → List ℕ → Type 0)
    (held : List ℕ → Told) (words : List (List ℕ)) (c : Command) (file : List ℕ) (old new : D) (history : List Event) (settled : ℕ)
    : Type 0 where
  pub moments : AtAnyMoment clock left_since old new
      (λ image. LeavesUntold held words c file history settled image
      ⊎ IsOfLine held words c (λ d. FindsSuch d image (AreOnTheWay d file history)))
  pub behind : (image : List ℕ) → may_leave new image → LeavesUntold held words c file history settled image
      ⊎ IsOfLine held words c (λ d. FindsSuch d image (AreDurable d history settled))

-- Of what `acc` leaves with `sched` or `run`, from a calm disk that tells its bytes, whatever the status: whatever a crash makes of it,
-- `recover` finds in it what was there before or a front of what is told, and after the call all that is told as durable.
module _ {D : Type 0} (clock : D → ℕ) (left_since : D → ℕ → List ℕ → Type 0) (told : D → Option (List ℕ)) (may_leave : D → List ℕ → Type 0)
  where
    abbrev pub SurvivesBy : Command → (List ℕ → Told) → List (List ℕ) → (D → D → List Event → ℕ → Type 0) → Type 0
    SurvivesBy c held words Leaves = (file : List ℕ) (old new : D) (history : List Event) (settled : ℕ)
        → Leaves old new history settled → told old ≡ Some file → Only file (may_leave old)
        → CrashesRecover clock left_since may_leave held words c file old new history settled

    abbrev pub SchedSurvives : Type 0
    SchedSurvives = (held : List ℕ → Told) (words : List (List ℕ))
        → SurvivesBy command.Sched held words (RunsLine clock left_since told may_leave held words)

    abbrev pub RunSurvives : Type 0
    RunSurvives = (held : List ℕ → Told) (words : List (List ℕ)) (workers : ℕ)
        → SurvivesBy (command.Run workers) held words (WorksLine clock left_since told may_leave held words workers)
