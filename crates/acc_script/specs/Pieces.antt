-- Texts cut into lines, and lines into words.
use Rattle.std.specs.Prelude.{ℕ, Bool, true, false, ◌==◌, ◌||◌, not, List, [], ◌∷◌, filter, Option, Some, None}
use Rattle.std.specs.List.{slice_split}

-- whether there is nothing in it
abbrev pub is_blank : {X : Type 0} → List X → Bool
is_blank [] = true
is_blank (x ∷ xs) = false

-- what stands between the bytes c: a text without c is one piece, and n bytes c make n + 1 pieces
abbrev pub pieces : ℕ → List ℕ → List (List ℕ)
pieces c text = slice_split (λ b. b == c) text

-- the lines of a text; a line feed at its end leaves an empty line behind it
abbrev pub lines_of : List ℕ → List (List ℕ)
lines_of text = pieces 10 text

-- those pieces in which there is something
abbrev pub words_in : List (List ℕ) → List (List ℕ)
words_in ps = filter (λ p. not (is_blank p)) ps

-- the words of a line: what stands between its spaces, where that isn't empty
abbrev pub words_of : List ℕ → List (List ℕ)
words_of line = words_in (pieces 32 line)

-- whether a line begins with #
abbrev pub is_comment : List ℕ → Bool
is_comment [] = false
is_comment (b ∷ line) = b == 35

-- whether a line says nothing: it is a comment, or has no word
abbrev pub is_skipped : List ℕ → Bool
is_skipped line = is_comment line || is_blank (words_of line)

-- the pieces of a text that is left, if any is
abbrev pub pieces_left : ℕ → Option (List ℕ) → List (List ℕ)
pieces_left c None = []
pieces_left c (Some text) = pieces c text
