-- How many statements end in words.
use Rattle.std.specs.Prelude.{ℕ, Bool, true, false, List, count_by}
use Rattle.acc_lex.specs.declared.words.Sign.TheVariants as sign
use Rattle.acc_lex.specs.declared.words.Word.{Word}
use Rattle.acc_lex.specs.declared.words.Word.TheVariants as word

-- whether a word is the end of a statement
abbrev pub is_end : Word → Bool
is_end (word.Sign sign.End) = true
is_end w = false

-- how many of the words are the end of a statement
unfoldable pub ends : List Word → ℕ
ends words = count_by is_end words
