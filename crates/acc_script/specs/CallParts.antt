-- The parts of a line that asks for a call.
-- Only the code that reads a line speaks of this; CallLines says what a line is.
use Rattle.std.specs.Prelude.{◌≡◌, ◌≢◌, ℕ, ◌<◌, ◌≤◌, ◌^◌, true, List, ◌∷◌, ◌++◌, length, map, position, slice_get, Option, Some, ℤ}
use Rattle.std.specs.List.{list_all}
use Rattle.std.specs.Fmt.{signed_decimal}
use Rattle.acc_base.specs.declared.bounds.TheConstants.{LONGEST_TAPE}
use Rattle.acc_base.specs.declared.designs.Design.{Design}
use Rattle.acc_base.specs.declared.designs.TxType.{TxType}
use Rattle.acc_base.specs.Machine.{ask_fits}
use Rattle.acc_base.specs.Numbers.{is_small, IsSmall}
use Rattle.acc_script.specs.CallLines.{is_named, SpellTape, ask_words}

-- the first type of this name has this number and so many parameters
pub record IsCalled (d : Design) (name : List ℕ) (ty params : ℕ) : Type 0 where
  pub kind : TxType
  pub named : position (is_named name) d.types ≡ Some ty
  pub numbered : ty < 2 ^ 32
  pub found : slice_get d.types ty ≡ Some kind
  pub counted : params ≡ kind.params

-- so many values within 2^45 of 0
pub record AreParameters (count : ℕ) (values : List ℤ) : Type 0 where
  pub counted : length values ≡ count
  pub small : list_all is_small values ≡ true

-- words begin with the spelling of these values, and others are left
abbrev pub BeginWith : List (List ℕ) → List ℤ → List (List ℕ) → Type 0
BeginWith words values left = words ≡ map signed_decimal values ++ left

-- the first word, if there is one, is no number within 2^45 of 0
abbrev pub BeginsNoNumber : List (List ℕ) → Type 0
BeginsNoNumber words = (v : ℤ) (left : List (List ℕ)) → IsSmall v → words ≢ signed_decimal v ∷ left

-- the values fit on a tape
pub record IsTape (tape : List ℤ) : Type 0 where
  pub small : list_all is_small tape ≡ true
  pub few : length tape ≤ LONGEST_TAPE

-- words begin with the spelling of a tape's numbers, and no further number follows
pub record TakesNumbers (words : List (List ℕ)) (tape : List ℤ) (left : List (List ℕ)) : Type 0 where
  pub read : BeginWith words tape left
  pub fits : IsTape tape
  pub other : BeginsNoNumber left

-- words begin with those of a tape, and others are left
pub record TakesTape (words : List (List ℕ)) (tape : List ℤ) (left : List (List ℕ)) : Type 0 where
  pub tape_words : List (List ℕ)
  pub read : words ≡ tape_words ++ left
  pub taped : SpellTape tape_words tape
  pub fits : IsTape tape

-- the words are those of a tape and of an asked abort
abbrev pub AreRest : List (List ℕ) → List ℤ → Option ℕ → Type 0
AreRest words tape ask = TakesTape words tape (ask_words ask)

-- the words are those of an asked abort
abbrev pub AreAsk : List (List ℕ) → Option ℕ → Type 0
AreAsk words ask = (words ≡ ask_words ask) × (ask_fits ask ≡ true)
