-- Making a journal for a design.
use Rattle.std.specs.Prelude.{◌≡◌, ◌⊎◌, ⊤, ◌∷◌, ℕ, List, [], Option, IfSome, codes}
use Rattle.acc_base.specs.Lines.{line}
use Rattle.acc_base.specs.declared.designs.Design.{Design}
use Rattle.acc_print.specs.Designs.{printed}
use Rattle.acc_wal.specs.Journals.{Counts}
use Rattle.acc_wal.specs.Creating.{rest_of, IsThere}
use Rattle.acc_wal.specs.declared.errors.WalError.{WalError}
use Rattle.acc_wal.specs.declared.errors.WalError.TheVariants.{Exists, NotJournal, OtherVersion, Damaged, Disk, Spent, Memory}
use Rattle.acc_journalled.specs.declared.answers.Ending.TheVariants.{Done, JournalRefused, DiskFailed}
use Rattle.acc_journalled.specs.Tellings.{Telling, Says}

-- the reasons why a journal isn't made
abbrev pub IsMakingError : WalError → Type 0
IsMakingError Exists = ⊤
IsMakingError Disk = ⊤
IsMakingError Memory = ⊤
IsMakingError NotJournal = ⊥
IsMakingError (OtherVersion version) = ⊥
IsMakingError (Damaged place) = ⊥
IsMakingError Spent = ⊥

-- what is said for each; want of memory says nothing
abbrev pub SaysNotMade : WalError → Telling → Type 0
SaysNotMade Exists t = Says JournalRefused (line (codes "refused journal exists")) t
SaysNotMade Disk t = Says DiskFailed (line (codes "fault disk")) t
SaysNotMade NotJournal t = ⊥
SaysNotMade (OtherVersion version) t = ⊥
SaysNotMade (Damaged place) t = ⊥
SaysNotMade Spent t = ⊥
SaysNotMade Memory t = ⊥

-- There was none. Now the disk holds these bytes, which are a journal of the design's printed text without an event.
pub record Makes (d : Design) (told told' : Option (List ℕ)) (t : Telling) : Type 0 where
  pub fresh : IfSome told (λ file. ¬ IsThere file)
  pub made : IfSome told' (λ file. file ≡ 0xA5 ∷ rest_of (printed d))
  pub holds : IfSome told' (λ file. Counts file (printed d) [])
  pub says : Says Done (line (codes "created")) t

-- a journal is there already, and the disk holds what it held
pub record FindsOne (told told' : Option (List ℕ)) (t : Telling) : Type 0 where
  pub there : IfSome told IsThere
  pub same : told' ≡ told
  pub says : Says JournalRefused (line (codes "refused journal exists")) t

-- the disk failed in this call
pub record Fails (fault : Type 0) (t : Telling) : Type 0 where
  pub failed : fault
  pub says : Says DiskFailed (line (codes "fault disk")) t

abbrev pub MakesJournal : Design → Option (List ℕ) → Option (List ℕ) → Type 0 → Telling → Type 0
MakesJournal d told told' fault t = Makes d told told' t ⊎ FindsOne told told' t ⊎ Fails fault t
