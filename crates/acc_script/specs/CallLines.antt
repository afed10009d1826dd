-- Scripts: a line asks for a transaction, by its type's name, its parameters, its tape, and after how many steps it is asked to turn.
use Rattle.std.specs.Prelude.{◌≡◌, ◌⊎◌, ℕ, ◌<◌, ◌^◌, Bool, true, List, [], ◌∷◌, ◌++◌, map, position, slice_get, Option, Some, None, ℤ}
use Rattle.std.specs.Prelude.{codes}
use Rattle.std.specs.Fmt.{decimal, signed_decimal}
use Rattle.std.specs.Str.{bytes_eq}
use Rattle.acc_base.specs.declared.designs.Design.{Design}
use Rattle.acc_base.specs.declared.designs.TxType.{TxType}
use Rattle.acc_base.specs.declared.machines.Call.{Call}
use Rattle.acc_base.specs.Machine.{call_fits}
use Rattle.acc_script.specs.Pieces.{words_of}
use Rattle.acc_script.specs.LineReadings.{IsSaid, Refuses}

-- how many calls a script may have
abbrev pub most_calls : ℕ
most_calls = 2 ^ 20

-- whether a type has this name
abbrev pub is_named : List ℕ → TxType → Bool
is_named name x = bytes_eq x.name name

-- the call's type is in the design, and the call is as that wants it
abbrev pub FitsType : Design → Call → Type 0
FitsType d call = call_fits (slice_get d.types call.ty) call ≡ true

-- the words of a tape: `|` and its numbers; those of an empty tape may be left out
abbrev pub SpellTape : List (List ℕ) → List ℤ → Type 0
SpellTape words tape = (words ≡ codes "|" ∷ map signed_decimal tape) ⊎ ((words ≡ []) × (tape ≡ []))

-- the words of an asked abort: none, or `@` and the number of steps
abbrev pub ask_words : Option ℕ → List (List ℕ)
ask_words None = []
ask_words (Some n) = codes "@" ∷ decimal n ∷ []

-- A line asks for a call: its words are the name of the call's type, which is the first type of that name, the parameters, the
-- words of the tape, and those of the asked abort. The call fits its type. A type's number is below 2^32.
pub record IsCallLine (d : Design) (line : List ℕ) (call : Call) : Type 0 where
  pub name : List ℕ
  pub tape_words : List (List ℕ)
  pub spelled : words_of line ≡ name ∷ (map signed_decimal call.params ++ (tape_words ++ ask_words call.ask))
  pub taped : SpellTape tape_words call.tape
  pub named : position (is_named name) d.types ≡ Some call.ty
  pub numbered : call.ty < 2 ^ 32
  pub fits : FitsType d call

-- a line says one call
pub record SaysCall (d : Design) (line : List ℕ) (calls : List Call) : Type 0 where
  pub call : Call
  pub alone : calls ≡ call ∷ []
  pub asked : IsCallLine d line call

-- the text is a script of these calls over the design
abbrev pub IsScript : Design → List ℕ → List Call → Type 0
IsScript d = IsSaid (SaysCall d) most_calls

-- line number n, from 1, is the first by which the text is no script: it is no call, or one call too many
abbrev pub RefusesLine : Design → List ℕ → ℕ → Type 0
RefusesLine d = Refuses (SaysCall d) most_calls
