-- The states of an engine's journal: what is put, what a crash leaves of them, and when the last one stands at the history's end.
use Rattle.std.specs.Prelude.{◌≡◌, ◌≢◌, ◌⊎◌, ◌≤◌, ◌<◌, ℕ, Bool, true, false, List, [], ◌∷◌, length, take, All, Option, Some, None}
use Rattle.std.specs.List.{Any}
use Rattle.acc_base.specs.declared.designs.Design.{Design}
use Rattle.acc_base.specs.declared.machines.Event.{Event}
use Rattle.acc_base.specs.declared.tables.Row.{Row}
use Rattle.acc_base.specs.Machine.{World}
use Rattle.acc_ckpt.specs.Texts.{text_of}
use Rattle.acc_recover.specs.Seals.{IsSealOf, HasSealsOver}
use Rattle.acc_wal.specs.declared.items.Seal.{Seal}
use Rattle.acc_engine.specs.Keeping.{Journalled}
use Rattle.acc_engine.specs.declared.sealing.TheConstants.{LONGEST_SEAL}

-- ---- what a crash leaves

-- the bytes are a journal of this base text that counts a front of the history, of so many events at least, and each of its states is the
-- text of the rows at its place
pub record SealedFront (d : Design) (base : List ℕ) (history : List Event) (least : ℕ) (image : List ℕ) : Type 0 where
  pub count : ℕ
  pub at_least : least ≤ count
  pub within : count ≤ length history
  pub sealed : HasSealsOver base d (take count history) image

-- it counts the durable events, which are so many of the history's first, or the whole history: nothing between
abbrev pub SealedDurableOrAll : Design → List ℕ → List Event → ℕ → List ℕ → Type 0
SealedDurableOrAll d base history settled image = HasSealsOver base d (take settled history) image ⊎ HasSealsOver base d history image

-- ---- what is put

-- one of the states has this place
abbrev pub IsSealedAt : ℕ → List Seal → Type 0
IsSealedAt place seals = Any (λ (seal : Seal). seal.place ≡ place) seals

-- there is no state to put: the journal has none by its version, or the rows' text is too long, or one stands at the history's end
abbrev pub NeedsNoSeal : ℕ → List Seal → World → Type 0
NeedsNoSeal version seals w = (version ≢ 2) ⊎ (LONGEST_SEAL < length (text_of w.rows)) ⊎ IsSealedAt (length w.events) seals

-- the rows' text, unless it is too long to be put
abbrev pub TellsShort : List Row → Option (List ℕ) → Type 0
TellsShort rows (Some text) = (text ≡ text_of rows) × (length text ≤ LONGEST_SEAL)
TellsShort rows None = LONGEST_SEAL < length (text_of rows)

-- the text to put behind the events, unless there is none
abbrev pub TellsDue : ℕ → List Seal → World → Option (List ℕ) → Type 0
TellsDue version seals w (Some text) =
    (text ≡ text_of w.rows) × (version ≡ 2) × (length text ≤ LONGEST_SEAL) × ¬ IsSealedAt (length w.events) seals
TellsDue version seals w None = NeedsNoSeal version seals w

-- the rows' text waits, behind all events; or nothing is changed, since there is none to put
abbrev pub SealsSo : {D : Type 0} → Bool → Journalled D → Journalled D → Type 0
SealsSo true old new =
    (new.waiting ≡ record { place = length old.state.events; text = text_of old.state.rows } ∷ [])
    × (old.version ≡ 2)
    × (length (text_of old.state.rows) ≤ LONGEST_SEAL)
    × ¬ IsSealedAt (length old.state.events) old.seals
SealsSo false old new = (new.waiting ≡ []) × NeedsNoSeal old.version old.seals old.state

-- all is durable, and there is no state to put
pub record EndsSealed {D : Type 0} (e : Journalled D) : Type 0 where
  pub settled : e.settled ≡ length e.state.events
  pub unfailed : e.failed ≡ false
  pub waiting : e.waiting ≡ []
  pub last : NeedsNoSeal e.version e.seals e.state

-- ---- what is kept

-- a state that waits: the history has come to its place, and it is the text of the rows there
pub record IsHeld (d : Design) (events : List Event) (seal : Seal) : Type 0 where
  pub within : seal.place ≤ length events
  pub is : IsSealOf d events seal
  pub short : length seal.text ≤ LONGEST_SEAL

-- at most one waits, and it is such a state
pub record AreHeld (d : Design) (events : List Event) (waiting : List Seal) : Type 0 where
  pub few : length waiting ≤ 1
  pub each : All (IsHeld d events) waiting
