-- Which words can stand in a text.
use Rattle.std.specs.Prelude.{◌≡◌, ℕ, List, None}
use Rattle.acc_lex.specs.declared.words.Word.{Word}
use Rattle.acc_lex.specs.declared.words.Word.TheVariants as word
use Rattle.acc_lex.specs.Keywords.{keyword_of}
use Rattle.acc_lex.specs.ByteKinds.{is_letter, is_inner}
use Rattle.acc_lex.specs.Spellings.{IsNumeral}
use Rattle.acc_lex.specs.LineWords.{number_of}
use Rattle.acc_grammar.specs.Runs.{IsRun}

-- words that a text can have: a name is a letter and then letters, digits and _, and none of the words that the grammar fixes; a
-- number is what some digits mean
abbrev pub CanSpell : Word → Type 0
CanSpell (word.Name x) = IsRun is_letter is_inner x × (keyword_of x ≡ None)
CanSpell (word.Number n) = (w : List ℕ) × IsNumeral w × (number_of w ≡ n)
CanSpell (word.Sign s) = Unit {0}
