-- The states that a journal holds beside its events, and what they are compared with.
use Rattle.std.specs.Prelude.{◌≡◌, ◌≢◌, ◌⊎◌, ◌≤◌, ◌++◌, ⊤, ℕ, Bool, true, false, List, [], ◌∷◌, take, All, Option, Some, None}
use Rattle.acc_base.specs.declared.designs.Design.{Design}
use Rattle.acc_base.specs.declared.machines.Event.{Event}
use Rattle.acc_base.specs.Machine.{World, start, unfinished}
use Rattle.acc_base.specs.Lawful.{LeadLawfully}
use Rattle.acc_ckpt.specs.Texts.{text_of}
use Rattle.acc_print.specs.Designs.{printed}
use Rattle.acc_wal.specs.Journals.{CountsAll}
use Rattle.acc_wal.specs.declared.items.Seal.{Seal}

-- ---- a text and a state of the machine

-- its rows have this text, and nothing is unfinished
pub record IsTextOf (w : World) (text : List ℕ) : Type 0 where
  pub idle : unfinished w ≡ []
  pub same : text ≡ text_of w.rows

-- its rows have another text, or something is unfinished
abbrev pub IsOtherThan : World → List ℕ → Type 0
IsOtherThan w text = (text ≢ text_of w.rows) ⊎ (unfinished w ≢ [])

-- which of both
abbrev pub TellsText : World → List ℕ → Bool → Type 0
TellsText w text true = IsTextOf w text
TellsText w text false = IsOtherThan w text

-- ---- states among events

-- as many of the events as stand before it lead lawfully to a state of the machine of which it is the text
pub record IsSealOf (d : Design) (events : List Event) (seal : Seal) : Type 0 where
  pub here : World
  pub comes : LeadLawfully d start (take seal.place events) here
  pub is : IsTextOf here seal.text

-- they lead lawfully to one of which it isn't
pub record DiffersAt (d : Design) (events : List Event) (seal : Seal) : Type 0 where
  pub here : World
  pub comes : LeadLawfully d start (take seal.place events) here
  pub other : IsOtherThan here seal.text

abbrev pub AreSealsOf : Design → List Event → List Seal → Type 0
AreSealsOf d events seals = All (IsSealOf d events) seals

-- the first of the states that differs has so many events before it
pub record IsFirstDiffering (d : Design) (events : List Event) (seals : List Seal) (place : ℕ) : Type 0 where
  pub earlier : List Seal
  pub seal : Seal
  pub later : List Seal
  pub seals_are : seals ≡ earlier ++ seal ∷ later
  pub before : AreSealsOf d events earlier
  pub place_is : place ≡ seal.place
  pub differs : DiffersAt d events seal

-- their places never fall, from this one on
abbrev pub AreFrom : ℕ → List Seal → Type 0
AreFrom place [] = ⊤
AreFrom place (seal ∷ seals) = (place ≤ seal.place) × AreFrom seal.place seals

-- ---- journals

-- the bytes are a journal of this base text and version, with these events, and with these states, each of which is the text of the rows at
-- its place, where nothing is unfinished
pub record IsSealedOver (base : List ℕ) (d : Design) (version : ℕ) (events : List Event) (seals : List Seal) (file : List ℕ) : Type 0 where
  pub counts : CountsAll file base version events seals
  pub each : AreSealsOf d events seals

-- some version, and some states
abbrev pub HasSealsOver : List ℕ → Design → List Event → List ℕ → Type 0
HasSealsOver base d events file = (version : ℕ) × (seals : List Seal) × IsSealedOver base d version events seals file

-- of the design's printed text
abbrev pub IsSealed : Design → ℕ → List Event → List Seal → List ℕ → Type 0
IsSealed d version events seals file = IsSealedOver (printed d) d version events seals file

abbrev pub HasSeals : Design → List Event → List ℕ → Type 0
HasSeals d events file = HasSealsOver (printed d) d events file

-- ---- comparing one after the other

-- of these states none differs, or the first that does has so many events before it
abbrev pub TellsFirst : Design → List Event → List Seal → Option ℕ → Type 0
TellsFirst d events seals None = AreSealsOf d events seals
TellsFirst d events seals (Some place) = IsFirstDiffering d events seals place

-- what is kept behind one more state: a place that was kept before, or else that of this one, if it differs from what has come
abbrev pub KeepsFirst : World → Seal → Option ℕ → Option ℕ → Type 0
KeepsFirst w seal (Some place) now = now ≡ Some place
KeepsFirst w seal None None = IsTextOf w seal.text
KeepsFirst w seal None (Some place) = (place ≡ seal.place) × IsOtherThan w seal.text
