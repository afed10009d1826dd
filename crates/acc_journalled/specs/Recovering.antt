-- Recovering a design's journal, and what is said of it.
use Rattle.std.specs.Prelude.{◌≡◌, ◌⊎◌, ⊤, ◌++◌, ℕ, List, [], length, Option, Some, IfSome, codes}
use Rattle.std.specs.List.{flat_map, range_with_len}
use Rattle.std.specs.Fmt.{decimal}
use Rattle.acc_base.specs.Annotated.{IsIdle}
use Rattle.acc_base.specs.Lines.{line, reply_text}
use Rattle.acc_base.specs.Machine.{World}
use Rattle.acc_base.specs.declared.designs.Design.{Design}
use Rattle.acc_base.specs.declared.machines.Event.{Event}
use Rattle.acc_dump.specs.Dumps.{dump_text}
use Rattle.acc_print.specs.Designs.{printed}
use Rattle.acc_wal.specs.Journals.{Counts}
use Rattle.acc_wal.specs.declared.errors.WalError.{WalError}
use Rattle.acc_wal.specs.declared.errors.WalError.TheVariants.{Exists, NotJournal, OtherVersion, Damaged, Disk as NoDisk}
use Rattle.acc_wal.specs.declared.errors.WalError.TheVariants.{Spent, Memory as NoMemory}
use Rattle.acc_recover.specs.Seals.{HasSeals}
use Rattle.acc_recover.specs.Recoveries.{IsRecovery, LeavesUnfinished}
use Rattle.acc_recover.specs.Refusals.{RefusesRecovery, IsOfJournal, IsOfBytes, CountsSame}
use Rattle.acc_recover.specs.declared.errors.RecoverError.{RecoverError}
use Rattle.acc_recover.specs.declared.errors.RecoverError.TheVariants.{Journal, OtherDesign, Unlawful, Differs, Disk, Memory}
use Rattle.acc_journalled.specs.declared.answers.Wanted.{Wanted}
use Rattle.acc_journalled.specs.declared.answers.Wanted.TheVariants as wanted
use Rattle.acc_journalled.specs.declared.answers.Ending.TheVariants.{Done, JournalRefused, DiskFailed}
use Rattle.acc_journalled.specs.Sealing.{SealsGrowth}
use Rattle.acc_journalled.specs.Tellings.{Telling, Says, SaysOf, SaysFault}

-- ---- what is said of a recovered state

-- how many events it has, and how many transactions were compensated
abbrev pub counts_text : World → ℕ → List ℕ
counts_text w compensated = line (codes "events " ++ (decimal (length w.events) ++ (codes " compensated " ++ decimal compensated)))

-- its rows, a line each
abbrev pub rows_text : Design → World → ℕ → List ℕ
rows_text d w compensated = dump_text d w.rows

-- the reply line of the transaction with this number, as a play prints that of a place
abbrev pub number_line : World → ℕ → List ℕ
number_line w t = line (decimal t ++ reply_text w (Some t))

-- the reply line of each transaction, by number
abbrev pub replies_of : World → List ℕ
replies_of w = flat_map (number_line w) (range_with_len 1 (length w.transactions))

abbrev pub replies_text : World → ℕ → List ℕ
replies_text w compensated = replies_of w

-- what is wanted of it
abbrev pub text_of : Wanted → Design → World → ℕ → List ℕ
text_of wanted.Counts d = counts_text
text_of wanted.Rows d = rows_text d
text_of wanted.Replies d = replies_text

-- ---- what is said where nothing is recovered

-- the reasons why bytes are no journal's
abbrev pub IsReadingError : WalError → Type 0
IsReadingError NotJournal = ⊤
IsReadingError (OtherVersion version) = ⊤
IsReadingError (Damaged place) = ⊤
IsReadingError Exists = ⊥
IsReadingError NoDisk = ⊥
IsReadingError Spent = ⊥
IsReadingError NoMemory = ⊥

abbrev pub SaysNotRead : WalError → Telling → Type 0
SaysNotRead NotJournal t = Says JournalRefused (line (codes "refused journal none")) t
SaysNotRead (OtherVersion version) t = Says JournalRefused (line (codes "refused journal version " ++ decimal version)) t
SaysNotRead (Damaged place) t = Says JournalRefused (line (codes "refused journal damaged " ++ decimal place)) t
SaysNotRead Exists t = ⊥
SaysNotRead NoDisk t = ⊥
SaysNotRead Spent t = ⊥
SaysNotRead NoMemory t = ⊥

abbrev pub SaysUnlawful : ℕ → Telling → Type 0
SaysUnlawful at t = Says JournalRefused (line (codes "refused journal unlawful " ++ decimal at)) t

abbrev pub SaysDiffering : ℕ → Telling → Type 0
SaysDiffering place t = Says JournalRefused (line (codes "refused journal state " ++ decimal place)) t

abbrev pub IsRecoverError : RecoverError → Type 0
IsRecoverError (Journal error) = IsReadingError error
IsRecoverError OtherDesign = ⊤
IsRecoverError (Unlawful at) = ⊤
IsRecoverError (Differs place) = ⊤
IsRecoverError Disk = ⊤
IsRecoverError Memory = ⊤

-- want of memory says nothing
abbrev pub SaysNotRecovered : RecoverError → Telling → Type 0
SaysNotRecovered (Journal error) t = SaysNotRead error t
SaysNotRecovered OtherDesign t = Says JournalRefused (line (codes "refused journal design")) t
SaysNotRecovered (Unlawful at) t = SaysUnlawful at t
SaysNotRecovered (Differs place) t = SaysDiffering place t
SaysNotRecovered Disk t = Says DiskFailed (line (codes "fault disk")) t
SaysNotRecovered Memory t = ⊥

-- ---- recovering

-- The file was a journal of the design's printed text with these events, each of its states was the text of the rows at its place, and so
-- many transactions were unfinished after the events. Now the disk holds a journal of the recovered history, all of it durable; the
-- recovered state is idle, and this is said of it.
pub record Recovers (text : World → ℕ → List ℕ) (d : Design) (told told' : Option (List ℕ)) (t : Telling) : Type 0 where
  pub found : List Event
  pub counts : IfSome told (λ file. Counts file (printed d) found)
  pub sealed : IfSome told (HasSeals d found)
  pub last : World
  pub recovery : IsRecovery d found last
  pub idle : IsIdle d last.rows
  pub compensated : ℕ
  pub unfinished_were : LeavesUnfinished d found compensated
  pub holds : IfSome told' (λ file. Counts file (printed d) last.events)
  pub grown : SealsGrowth d told told' last.events
  pub says : SaysOf (text last compensated) last t

-- It isn't recovered, for this cause. What is no journal is left as it is; a journal that is refused counts what it counted.
pub record RefusesSo (d : Design) (told told' : Option (List ℕ)) (fault : Type 0) (t : Telling) : Type 0 where
  pub error : RecoverError
  pub cause : RefusesRecovery d error told fault
  pub same : IsOfJournal error → told' ≡ told
  pub kept : IsOfBytes error → CountsSame told told'
  pub says : SaysNotRecovered error t

-- The file was a journal of the design's printed text, each of its states was the text of the rows at its place, and this is the recovered
-- state of its events, which is idle.
pub record IsRecoveredFrom (d : Design) (told : Option (List ℕ)) (last : World) : Type 0 where
  pub found : List Event
  pub counts : IfSome told (λ file. Counts file (printed d) found)
  pub sealed : IfSome told (HasSeals d found)
  pub recovery : IsRecovery d found last
  pub idle : IsIdle d last.rows

-- It was recovered, and behind that the disk failed, where the text of the rows was to be put there: that is said, and the recovered
-- history, all of which was durable before.
pub record FailsToSeal (d : Design) (told : Option (List ℕ)) (fault : Type 0) (t : Telling) : Type 0 where
  pub failed : fault
  pub last : World
  pub recovered : IsRecoveredFrom d told last
  pub says : SaysFault last t

-- how it ends without anything to be said of a recovered state: it isn't recovered, or the disk failed behind the recovery
abbrev pub EndsUntold : Design → Option (List ℕ) → Option (List ℕ) → Type 0 → Telling → Type 0
EndsUntold d told told' fault t = RefusesSo d told told' fault t ⊎ FailsToSeal d told fault t

abbrev pub RecoversJournal :
    (World → ℕ → List ℕ) → Design → Option (List ℕ) → Option (List ℕ) → Type 0 → Telling → Type 0
RecoversJournal text d told told' fault t = Recovers text d told told' t ⊎ EndsUntold d told told' fault t

-- ---- what is told, whatever is said

-- all is done, with this text and this history
abbrev pub done_with : List ℕ → List Event → ℕ → Telling
done_with text history settled = record { ending = Done; text = text; history = history; settled = settled }

-- It was recovered, and all of the history is durable. The text of the rows isn't put behind it: the disk failed there, or memory ran out,
-- and then the disk holds a journal of the history.
pub record StopsBehind (d : Design) (told told' : Option (List ℕ)) (fault : Type 0) (history : List Event) (settled : ℕ) : Type 0 where
  pub last : World
  pub recovered : IsRecoveredFrom d told last
  pub history_is : history ≡ last.events
  pub all_durable : settled ≡ length last.events
  pub why : fault ⊎ IfSome told' (λ file. Counts file (printed d) last.events)

-- nothing was recovered, and no event is told; or the history is the recovered one, and something can be said of it; or it is that, and
-- the text of the rows isn't put behind it
abbrev pub TellsRecovered :
    (World → ℕ → List ℕ) → Design → Option (List ℕ) → Option (List ℕ) → Type 0 → List Event → ℕ → Type 0
TellsRecovered text d told told' fault history settled =
    ((history ≡ []) × (settled ≡ 0))
    ⊎ ((said : List ℕ) × Recovers text d told told' (done_with said history settled))
    ⊎ StopsBehind d told told' fault history settled

-- where something was recovered, a crash afterwards leaves a journal of all that is told
abbrev pub LeavesTold : Design → List Event → List ℕ → Type 0
LeavesTold d history image = (history ≡ []) ⊎ Counts image (printed d) history

-- ---- the recovered state, before something is said of it

-- The file was such a journal, this is the recovered state, and so many transactions were unfinished. Now the disk holds a journal of the
-- recovered history, with the text of the rows behind it where it has grown.
pub record RecoversState (d : Design) (told told' : Option (List ℕ)) (w : World) (compensated : ℕ) : Type 0 where
  pub found : List Event
  pub counts : IfSome told (λ file. Counts file (printed d) found)
  pub sealed : IfSome told (HasSeals d found)
  pub recovery : IsRecovery d found w
  pub idle : IsIdle d w.rows
  pub unfinished_were : LeavesUnfinished d found compensated
  pub holds : IfSome told' (λ file. Counts file (printed d) w.events)
  pub grown : SealsGrowth d told told' w.events

-- no event is told; or the recovered history, behind which the text of the rows isn't put
abbrev pub TellsUntold : Design → Option (List ℕ) → Option (List ℕ) → Type 0 → List Event → ℕ → Type 0
TellsUntold d told told' fault history settled =
    ((history ≡ []) × (settled ≡ 0)) ⊎ StopsBehind d told told' fault history settled
