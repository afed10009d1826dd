-- Where `self` may stand among the words of a design: within its types, since it is the number of a transaction.
use Rattle.std.specs.Prelude.{◌≡◌, List, ◌∷◌, ◌++◌, Contains}
use Rattle.acc_lex.specs.declared.words.Sign.TheVariants as sign
use Rattle.acc_lex.specs.declared.words.Word.{Word}
use Rattle.acc_lex.specs.declared.words.Word.TheVariants as word

-- what comes behind these words stands within the types: a `type` came, and neither an `entry` nor a `hint`
pub record EndsInTypes (words : List Word) : Type 0 where
  pub began : Contains words (word.Sign sign.Type)
  pub no_entry : ¬ Contains words (word.Sign sign.Entry)
  pub no_hint : ¬ Contains words (word.Sign sign.Hint)

-- each `self` among the words stands within the types
abbrev pub OwnInTypes : List Word → Type 0
OwnInTypes words = (before after : List Word) → words ≡ before ++ (word.Sign sign.Oneself ∷ after) → EndsInTypes before
