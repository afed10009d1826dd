-- Making a new journal of what an old one holds.
use Rattle.std.specs.Prelude.{◌≡◌, ◌⊎◌, ◌++◌, ℕ, List, [], length, nat_le, if◌then◌else◌, Option, Some, None, IfSome, codes}
use Rattle.std.specs.Fmt.{decimal}
use Rattle.acc_base.specs.Lines.{line}
use Rattle.acc_base.specs.Machine.{World}
use Rattle.acc_base.specs.declared.designs.Design.{Design}
use Rattle.acc_base.specs.declared.machines.Event.{Event}
use Rattle.acc_ckpt.specs.Texts.{text_of}
use Rattle.acc_engine.specs.declared.sealing.TheConstants.{LONGEST_SEAL}
use Rattle.acc_io.specs.Causes.{Rose}
use Rattle.acc_print.specs.Designs.{printed}
use Rattle.acc_wal.specs.Creating.{seals_behind, IsThere, IsOtherFirst}
use Rattle.acc_wal.specs.Journals.{CountsAll, IsNoJournal}
use Rattle.acc_recover.specs.Refusals.{RefusesRecovery}
use Rattle.acc_recover.specs.declared.errors.RecoverError.{RecoverError}
use Rattle.acc_journalled.specs.declared.answers.Answer.{Answer}
use Rattle.acc_journalled.specs.declared.answers.Ending.TheVariants.{Done}
use Rattle.acc_journalled.specs.Making.{FindsOne, Fails}
use Rattle.acc_journalled.specs.Recovering.{IsRecoveredFrom, SaysNotRecovered, done_with}
use Rattle.acc_journalled.specs.Tellings.{Telling, SaysOf}

-- ---- the old journal, and the new one

-- the text of the state's rows, where it isn't too long to be put
abbrev pub text_to_put : World → Option (List ℕ)
text_to_put w = if nat_le (length (text_of w.rows)) LONGEST_SEAL then Some (text_of w.rows) else None

-- the bytes are a journal of version 2 of the design's printed text, with all events of the state, and the text of its rows behind them,
-- where that isn't too long
abbrev pub HoldsAll : Design → World → List ℕ → Type 0
HoldsAll d w file = CountsAll file (printed d) 2 w.events (seals_behind (length w.events) (text_to_put w))

-- such a one of what was recovered from the old bytes
abbrev pub IsMigrated : Design → List ℕ → List ℕ → Type 0
IsMigrated d old file = (last : World) × IsRecoveredFrom d (Some old) last × HoldsAll d last file

-- no journal, the new one with all of that, or the disk's bytes with another first byte
abbrev pub LeavesMigrated : Design → List ℕ → List ℕ → List ℕ → Type 0
LeavesMigrated d old file image = IsNoJournal image ⊎ IsMigrated d old image ⊎ IsOtherFirst file image

-- ---- what is said

-- how many events the new journal has
abbrev pub migrated_text : World → List ℕ
migrated_text w = line (codes "migrated " ++ decimal (length w.events))

-- what a new journal begins with that is made of the old bytes, and what is said once it is there
pub record BeginsWith (d : Design) (old base : List ℕ) (history : List Event) (text : Option (List ℕ)) (said : Answer) : Type 0 where
  pub last : World
  pub recovered : IsRecoveredFrom d (Some old) last
  pub base_is : base ≡ printed d
  pub history_is : history ≡ last.events
  pub text_is : text ≡ text_to_put last
  pub says : (said.ending ≡ Done) × (said.text.items ≡ migrated_text last)

-- The disk held no journal, and this state was recovered from the old bytes. Now the disk holds a journal of its history.
pub record Migrates (d : Design) (old : List ℕ) (told told' : Option (List ℕ)) (t : Telling) : Type 0 where
  pub last : World
  pub recovered : IsRecoveredFrom d (Some old) last
  pub fresh : IfSome told (λ file. ¬ IsThere file)
  pub holds : IfSome told' (HoldsAll d last)
  pub says : SaysOf (migrated_text last) last t

-- nothing is recovered from the old bytes, for this cause, and the disk holds what it held
pub record RefusesOld (d : Design) (old : List ℕ) (told told' : Option (List ℕ)) (t : Telling) : Type 0 where
  pub error : RecoverError
  pub cause : RefusesRecovery d error (Some old) ⊥
  pub same : told' ≡ told
  pub says : SaysNotRecovered error t

-- something is, but the disk holds a journal already, and holds what it held
pub record FindsOneBehind (d : Design) (old : List ℕ) (told told' : Option (List ℕ)) (t : Telling) : Type 0 where
  pub last : World
  pub recovered : IsRecoveredFrom d (Some old) last
  pub finds : FindsOne told told' t

-- the order of the refusals: those of the old bytes, and then one of the disk's
abbrev pub MigratesJournal : Design → List ℕ → Option (List ℕ) → Option (List ℕ) → Type 0 → Telling → Type 0
MigratesJournal d old told told' fault t =
    Migrates d old told told' t ⊎ RefusesOld d old told told' t ⊎ FindsOneBehind d old told told' t ⊎ Fails fault t

-- no event is told; or those of the new journal
abbrev pub TellsMigrated : Design → List ℕ → Option (List ℕ) → Option (List ℕ) → List Event → ℕ → Type 0
TellsMigrated d old told told' history settled =
    ((history ≡ []) × (settled ≡ 0)) ⊎ ((said : List ℕ) × Migrates d old told told' (done_with said history settled))

-- of old bytes and a disk that tells its own this says one thing, where none of the disk's calls fails; the counts of faults are those
-- before and after each of two calls
abbrev pub MigratingSaysOne : Type 0
MigratingSaysOne = (d : Design) (old file : List ℕ) (one other : Option (List ℕ)) (p q r s : ℕ) (a b : Telling) → ¬ Rose p q → ¬ Rose r s
    → MigratesJournal d old (Some file) one (Rose p q) a → MigratesJournal d old (Some file) other (Rose r s) b → a ≡ b
