-- The text of a history's rows, as a state behind its last event.
use Rattle.std.specs.Prelude.{◌≡◌, ◌⊎◌, ◌<◌, ◌++◌, ℕ, List, [], ◌∷◌, length, Option, Some}
use Rattle.acc_base.specs.declared.designs.Design.{Design}
use Rattle.acc_base.specs.declared.machines.Event.{Event}
use Rattle.acc_base.specs.Lawful.{LeadLawfully}
use Rattle.acc_base.specs.Machine.{World, start}
use Rattle.acc_ckpt.specs.Texts.{text_of}
use Rattle.acc_engine.specs.declared.sealing.TheConstants.{LONGEST_SEAL}
use Rattle.acc_print.specs.Designs.{printed}
use Rattle.acc_wal.specs.Journals.{Counts, CountsAll}
use Rattle.acc_wal.specs.declared.items.Seal.{Seal}

-- the history leads to a state whose rows have a text that is too long to be put
pub record HasLongText (d : Design) (history : List Event) : Type 0 where
  pub last : World
  pub comes : LeadLawfully d start history last
  pub long : LONGEST_SEAL < length (text_of last.rows)

-- the last of the states has so many events before it
pub record EndsAt (place : ℕ) (seals : List Seal) : Type 0 where
  pub earlier : List Seal
  pub seal : Seal
  pub seals_are : seals ≡ earlier ++ seal ∷ []
  pub place_is : seal.place ≡ place

-- The bytes are a journal of the design's printed text with this history, and its last state stands behind all of it; unless the journal is
-- of version 1, or the rows' text is too long.
pub record IsSealedToEnd (d : Design) (history : List Event) (file : List ℕ) : Type 0 where
  pub version : ℕ
  pub seals : List Seal
  pub counts : CountsAll file (printed d) version history seals
  pub last : (version ≡ 1) ⊎ HasLongText d history ⊎ EndsAt (length history) seals

-- where the history has events that the file didn't count, the file that is there now has its last state behind all of them
abbrev pub SealsGrowth : Design → Option (List ℕ) → Option (List ℕ) → List Event → Type 0
SealsGrowth d told told' history = (file : List ℕ) (found : List Event) → told ≡ Some file → Counts file (printed d) found
    → length found < length history → (now : List ℕ) → told' ≡ Some now → IsSealedToEnd d history now
