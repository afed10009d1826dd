-- Words that spell a whole number.
-- Only the code that reads a number speaks of this; CallLines and OrderLines say what is read.
use Rattle.std.specs.Prelude.{ℕ, Bool, false, ◌==◌, ◌||◌, ◌&&◌, not, List, [], ◌∷◌}
use Rattle.std.specs.Char.{is_ascii_digit}
use Rattle.std.specs.List.{list_all}
use Rattle.acc_script.specs.Pieces.{is_blank}

-- whether a word is made of digits, and of one alone where it begins with 0
abbrev pub is_numeral : List ℕ → Bool
is_numeral [] = false
is_numeral (c ∷ cs) = is_ascii_digit c && (list_all is_ascii_digit cs && (not (c == 48) || is_blank cs))
