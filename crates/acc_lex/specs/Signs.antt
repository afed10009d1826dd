-- What a sign is written as.
use Rattle.std.specs.Prelude.{◌≡◌, ◌≢◌, ◌⊎◌, List, [], ℕ, Option, Some, None}
use Rattle.std.specs.Borrow.{Bor}
use Rattle.acc_lex.specs.declared.words.Sign.{Sign}
use Rattle.acc_lex.specs.declared.words.Sign.TheVariants as sign
use Rattle.acc_lex.specs.Keywords.{keyword_of}
use Rattle.acc_lex.specs.Spellings.{mark_bytes}

-- a word of the grammar that is this sign, or else its mark; the end of a statement alone has neither
abbrev pub IsSpelling : Sign → Option (Bor (List ℕ)) → Type 0
IsSpelling s (Some w) = (keyword_of w.now ≡ Some s) ⊎ ((mark_bytes s ≡ w.now) × (w.now ≢ []))
IsSpelling s None = s ≡ sign.End
