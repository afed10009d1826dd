-- How long words are where they are written as briefly as can be.
use Rattle.std.proofs.Common.{◌≡◌, ℕ, ◌+◌, List, [], ◌∷◌, ◌++◌, length, arith}
use Rattle.std.specs.Prelude.{max}
use Rattle.acc_lex.specs.declared.words.Sign.{Sign}
use Rattle.acc_lex.specs.declared.words.Sign.TheVariants as sign
use Rattle.acc_lex.specs.declared.words.Word.{Word}
use Rattle.acc_lex.specs.declared.words.Word.TheVariants as word
use Rattle.acc_parse_readback.proofs.ShortNumbers.{number_size}

-- the bytes of a sign; what ends a statement is one byte
abbrev pub sign_size : Sign → ℕ
sign_size sign.Table = 5
sign_size sign.Private = 7
sign_size sign.Always = 6
sign_size sign.Type = 4
sign_size sign.Limit = 5
sign_size sign.Returns = 7
sign_size sign.Local = 5
sign_size sign.Ensures = 7
sign_size sign.Repairs = 7
sign_size sign.Point = 5
sign_size sign.Variant = 7
sign_size sign.Holds = 5
sign_size sign.Next = 4
sign_size sign.Undo = 4
sign_size sign.Let = 3
sign_size sign.Get = 3
sign_size sign.Has = 3
sign_size sign.Count = 5
sign_size sign.Sum = 3
sign_size sign.Least = 5
sign_size sign.Greatest = 8
sign_size sign.Take = 4
sign_size sign.Mul = 3
sign_size sign.Div = 3
sign_size sign.Path = 4
sign_size sign.Put = 3
sign_size sign.Del = 3
sign_size sign.Set = 3
sign_size sign.Add = 3
sign_size sign.Goto = 4
sign_size sign.Commit = 6
sign_size sign.Undone = 6
sign_size sign.Refuse = 6
sign_size sign.Entry = 5
sign_size sign.By = 2
sign_size sign.Hint = 4
sign_size sign.Forall = 6
sign_size sign.Oneself = 4
sign_size sign.AtMost = 2
sign_size sign.AtLeast = 2
sign_size sign.Implies = 2
sign_size _ = 1

-- a name is at least one byte
abbrev pub name_size : List ℕ → ℕ
name_size x = max 1 (length x)

-- the bytes of a word
abbrev pub word_size : Word → ℕ
word_size (word.Name x) = name_size x
word_size (word.Number n) = number_size n
word_size (word.Sign s) = sign_size s

-- the bytes of words
abbrev pub weight : List Word → ℕ
weight [] = 0
weight (w ∷ ws) = word_size w + weight ws

pub weight-append : (vs ws : List Word) → weight (vs ++ ws) ≡ weight vs + weight ws
weight-append [] ws = omega arith
weight-append (v ∷ vs) ws = omega (arith, weight-append vs ws)
