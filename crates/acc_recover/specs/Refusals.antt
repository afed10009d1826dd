-- Why nothing is recovered, and what is handed back then.
use Rattle.std.specs.Prelude.{◌≡◌, ◌≢◌, ◌⊎◌, ⊤, ℕ, List, [], Option, Some, IfSome}
use Rattle.acc_base.specs.declared.tables.Row.{Row}
use Rattle.acc_base.specs.declared.designs.Design.{Design}
use Rattle.acc_base.specs.declared.machines.Event.{Event}
use Rattle.acc_base.specs.Lawful.{AreLawful, LeadLawfully}
use Rattle.acc_base.specs.Machine.{World, start}
use Rattle.acc_print.specs.Designs.{printed}
use Rattle.acc_wal.specs.Journals.{Counts, CountsAll, IsNoJournal, IsOtherVersion, IsDamaged}
use Rattle.acc_wal.specs.declared.items.Seal.{Seal}
use Rattle.acc_wal.specs.declared.errors.WalError.{WalError}
use Rattle.acc_wal.specs.declared.errors.WalError.TheVariants.{Exists, NotJournal, OtherVersion, Damaged, Disk as NoDisk}
use Rattle.acc_wal.specs.declared.errors.WalError.TheVariants.{Spent, Memory as NoMemory}
use Rattle.acc_machine.specs.Replays.{IsFirstUnlawful}
use Rattle.acc_recover.specs.Recoveries.{AreRowsWithin, AreRowsOfRecovery}
use Rattle.acc_recover.specs.Seals.{AreFrom, IsFirstDiffering}
use Rattle.acc_recover.specs.declared.errors.RecoverError.{RecoverError}
use Rattle.acc_recover.specs.declared.errors.RecoverError.TheVariants.{Journal, OtherDesign, Unlawful, Differs, Disk, Memory}

-- the bytes aren't a journal's, as far as they are told; no other reason is given
abbrev pub RefusesJournal : WalError → Option (List ℕ) → Type 0
RefusesJournal NotJournal told = IfSome told IsNoJournal
RefusesJournal (OtherVersion version) told = IfSome told (λ file. IsOtherVersion file version)
RefusesJournal (Damaged place) told = IfSome told (λ file. IsDamaged file place)
RefusesJournal Exists told = ⊥
RefusesJournal NoDisk told = ⊥
RefusesJournal Spent told = ⊥
RefusesJournal NoMemory told = ⊥

-- the file is a journal of another base text
pub record IsOfOther (file text : List ℕ) : Type 0 where
  pub base : List ℕ
  pub events : List Event
  pub counts : Counts file base events
  pub other : base ≢ text

-- the file is a journal of the design's text, and this of its events is the first that isn't lawful
pub record IsUnlawfulAt (d : Design) (file : List ℕ) (at : ℕ) : Type 0 where
  pub events : List Event
  pub counts : Counts file (printed d) events
  pub here : World
  pub first : IsFirstUnlawful d start events at here

-- the file is a journal of the design's text, all of its events are lawful, and this of its states is the first that differs
pub record IsDifferentAt (d : Design) (file : List ℕ) (place : ℕ) : Type 0 where
  pub version : ℕ
  pub events : List Event
  pub seals : List Seal
  pub counts : CountsAll file (printed d) version events seals
  pub lawful : AreLawful d events
  pub first : IsFirstDiffering d events seals place

abbrev pub RefusesRecovery : Design → RecoverError → Option (List ℕ) → Type 0 → Type 0
RefusesRecovery d (Journal error) told fault = RefusesJournal error told
RefusesRecovery d OtherDesign told fault = IfSome told (λ file. IsOfOther file (printed d))
RefusesRecovery d (Unlawful at) told fault = IfSome told (λ file. IsUnlawfulAt d file at)
RefusesRecovery d (Differs place) told fault = IfSome told (λ file. IsDifferentAt d file place)
RefusesRecovery d Disk told fault = fault
RefusesRecovery d Memory told fault = ⊤

-- the bytes aren't a journal's
abbrev pub IsOfJournal : RecoverError → Type 0
IsOfJournal (Journal error) = ⊤
IsOfJournal OtherDesign = ⊥
IsOfJournal (Unlawful at) = ⊥
IsOfJournal (Differs place) = ⊥
IsOfJournal Disk = ⊥
IsOfJournal Memory = ⊥

-- a refusal that the bytes give cause for
abbrev pub IsOfBytes : RecoverError → Type 0
IsOfBytes (Journal error) = ⊤
IsOfBytes OtherDesign = ⊤
IsOfBytes (Unlawful at) = ⊤
IsOfBytes (Differs place) = ⊤
IsOfBytes Disk = ⊥
IsOfBytes Memory = ⊥

-- where the one file is a journal, the other is one of the same base text and events
abbrev pub CountsSame : Option (List ℕ) → Option (List ℕ) → Type 0
CountsSame told told' = (file base : List ℕ) (events : List Event) → told ≡ Some file → Counts file base events
    → (now : List ℕ) → told' ≡ Some now → Counts now base events

-- and of the same version and states
abbrev pub CountsSameAll : Option (List ℕ) → Option (List ℕ) → Type 0
CountsSameAll told told' = (file base : List ℕ) (version : ℕ) (events : List Event) (seals : List Seal) → told ≡ Some file
    → CountsAll file base version events seals → (now : List ℕ) → told' ≡ Some now → CountsAll now base version events seals

-- ---- the rows that are handed back

-- the rows after some first of the events that were found, or of the recovered history
pub record AreRowsOnTheWay (d : Design) (told : Option (List ℕ)) (rows : List Row) : Type 0 where
  pub found : List Event
  pub counts : IfSome told (λ file. Counts file (printed d) found)
  pub within : AreRowsWithin d found rows ⊎ AreRowsOfRecovery d found rows

abbrev pub HandsBack : RecoverError → Design → Option (List ℕ) → List Row → Type 0
HandsBack (Journal error) d told rows = rows ≡ []
HandsBack OtherDesign d told rows = rows ≡ []
HandsBack (Unlawful at) d told rows = AreRowsOnTheWay d told rows
HandsBack (Differs place) d told rows = AreRowsOnTheWay d told rows
HandsBack Disk d told rows = (rows ≡ []) ⊎ AreRowsOnTheWay d told rows
HandsBack Memory d told rows = (rows ≡ []) ⊎ AreRowsOnTheWay d told rows

-- ---- the parts of recovery

-- why a base text isn't taken for the design's
abbrev pub RefusesText : RecoverError → List ℕ → List ℕ → Type 0
RefusesText OtherDesign base text = base ≢ text
RefusesText Memory base text = ⊤
RefusesText (Journal error) base text = ⊥
RefusesText (Unlawful at) base text = ⊥
RefusesText (Differs place) base text = ⊥
RefusesText Disk base text = ⊥

-- why a journal's events aren't done again, or its states are refused, and which rows are handed back
abbrev pub RefusesHistory : Design → List ℕ → List Event → List Seal → RecoverError → List Row → Type 0
RefusesHistory d base events seals OtherDesign rows = (base ≢ printed d) × (rows ≡ [])
RefusesHistory d base events seals (Unlawful at) rows =
    (base ≡ printed d) × ((here : World) × IsFirstUnlawful d start events at here × (rows ≡ here.rows))
RefusesHistory d base events seals (Differs place) rows =
    (base ≡ printed d) × ((last : World) × LeadLawfully d start events last × (rows ≡ last.rows))
    × (AreFrom 0 seals → IsFirstDiffering d events seals place)
RefusesHistory d base events seals Memory rows = (rows ≡ []) ⊎ ((base ≡ printed d) × AreRowsWithin d events rows)
RefusesHistory d base events seals (Journal error) rows = ⊥
RefusesHistory d base events seals Disk rows = ⊥

-- why ending and settling fails
abbrev pub FailsToSettle : RecoverError → Type 0 → Type 0
FailsToSettle Disk fault = fault
FailsToSettle Memory fault = ⊤
FailsToSettle (Journal error) fault = ⊥
FailsToSettle OtherDesign fault = ⊥
FailsToSettle (Unlawful at) fault = ⊥
FailsToSettle (Differs place) fault = ⊥

abbrev pub refusal_for : WalError → RecoverError
refusal_for NoDisk = Disk
refusal_for NoMemory = Memory
refusal_for Exists = Journal Exists
refusal_for NotJournal = Journal NotJournal
refusal_for (OtherVersion version) = Journal (OtherVersion version)
refusal_for (Damaged place) = Journal (Damaged place)
refusal_for Spent = Journal Spent
