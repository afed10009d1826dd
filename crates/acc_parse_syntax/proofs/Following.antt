-- Words with which some text goes on, wherever it stops: a reader that stops can be completed without `self`, which can't stand everywhere.
use Rattle.std.proofs.Common.{◌≡◌, Bool, true, false, List, [], ◌∷◌}
use Rattle.acc_lex.specs.declared.words.Sign.{Sign}
use Rattle.acc_lex.specs.declared.words.Sign.TheVariants as sign
use Rattle.acc_lex.specs.declared.words.Word.{Word}
use Rattle.acc_lex.specs.declared.words.Word.TheVariants as word
use Rattle.acc_lex.specs.Words.{CanSpell}
use Rattle.acc_grammar.specs.Readers.{AllIn}

-- `self`
abbrev pub is_own : Sign → Bool
is_own sign.Oneself = true
is_own s = false

-- it can stand in a text, and isn't `self`
abbrev pub CanFollow : Word → Type 0
CanFollow (word.Name x) = CanSpell (word.Name x)
CanFollow (word.Number n) = CanSpell (word.Number n)
CanFollow (word.Sign s) = is_own s ≡ false

can_spell : (w : Word) → CanFollow w → CanSpell w
can_spell (word.Name x) h = h
can_spell (word.Number n) h = h
can_spell (word.Sign s) h = tt

pub all_spell : (ws : List Word) → AllIn CanFollow ws → AllIn CanSpell ws
all_spell [] h = tt
all_spell (w ∷ ws) h = (can_spell w h.0, all_spell ws h.1)
