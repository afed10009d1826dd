-- How many statements end among the marks of items, by their trees.
use Rattle.std.proofs.Common.{ℕ, ◌+◌, List, [], ◌∷◌, length, map, sym, arith}
use Rattle.std.specs.Prelude.{sum_by}
use Rattle.std.proofs.lemmas.List.Sums.{sum_by-cons}
use Rattle.acc_grammar.specs.Readers.{AllIn}
use Rattle.acc_form.specs.Marks.{Mark, numbered_from}
use Rattle.acc_form.proofs.StatementEnds.{Counts, recounted, no_statement, both}

-- items with so many statements each, by their trees
pub each_counts : {X Y : Type 0} (P : X → Type 0) (marks : ℕ → X → List Mark) (tree : X → Y) (count : Y → ℕ)
    → ((i : ℕ) (x : X) → P x → Counts (marks i x) (count (tree x)))
    → (i : ℕ) (xs : List X) → AllIn P xs → Counts (numbered_from i marks xs) (sum_by count (map tree xs))
each_counts P marks tree count each i [] h = no_statement
each_counts P marks tree count each i (x ∷ xs) h =
    recounted (both (each i x h.0) (each_counts P marks tree count each (i + 1) xs h.1)) (sym (sum_by-cons count (tree x) (map tree xs)))

-- items with one statement each
pub each_one : {X Y : Type 0} (marks : ℕ → X → List Mark) (tree : X → Y) → ((i : ℕ) (x : X) → Counts (marks i x) 1)
    → (i : ℕ) (xs : List X) → Counts (numbered_from i marks xs) (length (map tree xs))
each_one marks tree each i [] = no_statement
each_one marks tree each i (x ∷ xs) = recounted (both (each i x) (each_one marks tree each (i + 1) xs)) (omega arith)
