-- The words that the grammar fixes: none of them is a name.
use Rattle.std.specs.Prelude.{ℕ, List, [], ◌∷◌, Option, Some, None, codes, map, if◌then◌else◌}
use Rattle.std.specs.Str.{bytes_eq}
use Rattle.std.specs.Borrow.{Bor}
use Rattle.acc_lex.specs.declared.words.Sign.{Sign}
use Rattle.acc_lex.specs.declared.words.Sign.TheVariants as sign

-- each with the sign that it is
abbrev pub keywords : List (List ℕ × Sign)
keywords =
    (codes "table", sign.Table) ∷
    (codes "private", sign.Private) ∷
    (codes "always", sign.Always) ∷
    (codes "type", sign.Type) ∷
    (codes "limit", sign.Limit) ∷
    (codes "returns", sign.Returns) ∷
    (codes "local", sign.Local) ∷
    (codes "ensures", sign.Ensures) ∷
    (codes "repairs", sign.Repairs) ∷
    (codes "point", sign.Point) ∷
    (codes "variant", sign.Variant) ∷
    (codes "holds", sign.Holds) ∷
    (codes "next", sign.Next) ∷
    (codes "undo", sign.Undo) ∷
    (codes "let", sign.Let) ∷
    (codes "get", sign.Get) ∷
    (codes "has", sign.Has) ∷
    (codes "count", sign.Count) ∷
    (codes "sum", sign.Sum) ∷
    (codes "least", sign.Least) ∷
    (codes "greatest", sign.Greatest) ∷
    (codes "take", sign.Take) ∷
    (codes "mul", sign.Mul) ∷
    (codes "div", sign.Div) ∷
    (codes "path", sign.Path) ∷
    (codes "put", sign.Put) ∷
    (codes "del", sign.Del) ∷
    (codes "set", sign.Set) ∷
    (codes "add", sign.Add) ∷
    (codes "goto", sign.Goto) ∷
    (codes "commit", sign.Commit) ∷
    (codes "undone", sign.Undone) ∷
    (codes "refuse", sign.Refuse) ∷
    (codes "entry", sign.Entry) ∷
    (codes "by", sign.By) ∷
    (codes "hint", sign.Hint) ∷
    (codes "forall", sign.Forall) ∷
    (codes "self", sign.Oneself) ∷ []

-- the sign of the first word of a table that is this one
abbrev pub sign_in : List (List ℕ × Sign) → List ℕ → Option Sign
sign_in [] w = None
sign_in (k ∷ ks) w = if bytes_eq w k.0 then Some k.1 else sign_in ks w

-- the sign that a word is, if it is no name
unfoldable pub keyword_of : List ℕ → Option Sign
keyword_of w = sign_in keywords w

-- the rows of a table in the code, as its spellings and their signs
abbrev pub spellings : List (Bor (List ℕ) × Sign) → List (List ℕ × Sign)
spellings signs = map (λ k. (k.0.now, k.1)) signs
