-- Reading one word, and what the next word is.
-- Only the parser's code speaks of this; Spelling says what a text is.
use Rattle.std.specs.Prelude.{ℕ, Bool, true, false, List, [], ◌∷◌, Ok, Err, if◌then◌else◌}
use Rattle.acc_grammar.specs.Readers.{OutcomeOf, ◌>>=◌}
use Rattle.acc_grammar.specs.Runs.{next_is, absent_at}
use Rattle.acc_lex.specs.declared.words.Sign.{Sign}
use Rattle.acc_lex.specs.declared.words.Sign.TheVariants as sign
use Rattle.acc_lex.specs.contracts.words.SignPartialEq.TheImpl as derived
use Rattle.acc_lex.specs.declared.words.Word.{Word}
use Rattle.acc_lex.specs.declared.words.Word.TheVariants as word

-- what was read and the words after it, or the words from the first that doesn't fit
abbrev pub WordsRead : Type 0 → Type 0
WordsRead T = OutcomeOf Word T

-- two fixed words are the same
abbrev pub same_sign : Sign → Sign → Bool
same_sign = derived.ghosts.eq

-- the next word is this fixed one
abbrev pub comes : Sign → List Word → Bool
comes s (word.Sign t ∷ ws) = same_sign t s
comes s _ = false

-- the next word is a name
abbrev pub is_name : List Word → Bool
is_name (word.Name x ∷ ws) = true
is_name _ = false

-- the next word is a number
abbrev pub is_number : List Word → Bool
is_number (word.Number n ∷ ws) = true
is_number _ = false

-- every word passes
abbrev pub every : Word → Bool
every w = true

-- there is a next word
abbrev pub is_word : List Word → Bool
is_word ws = next_is every ws

-- this fixed word
unfoldable pub sign_at : Sign → List Word → WordsRead (Unit {0})
sign_at s [] = Err []
sign_at s (w ∷ ws) = if comes s (w ∷ ws) then Ok (tt, ws) else Err (w ∷ ws)

-- a name
unfoldable pub name_at : List Word → WordsRead (List ℕ)
name_at (word.Name x ∷ ws) = Ok (x, ws)
name_at ws = Err ws

-- a number
unfoldable pub number_at : List Word → WordsRead ℕ
number_at (word.Number n ∷ ws) = Ok (n, ws)
number_at ws = Err ws

-- this value, where its statement ends here
abbrev pub ended_at : {T : Type 0} → T → List Word → WordsRead T
ended_at x ws = do
  e ← sign_at sign.End ws
  Ok (x, e.1)

-- the end of the words
unfoldable pub end_at : List Word → WordsRead (Unit {0})
end_at ws = absent_at every ws

-- a comma, and a further part of a list
unfoldable pub further_at : {T : Type 0} → (List Word → WordsRead T) → List Word → WordsRead T
further_at item ws = do
  o ← sign_at sign.Comma ws
  x ← item o.1
  Ok (x.0, x.1)
