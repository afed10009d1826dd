-- What items have by their trees.
use Rattle.std.proofs.Common.{List, [], ◌∷◌, map}
use Rattle.acc_grammar.specs.Readers.{AllIn}

-- each tree has it, where each item makes its tree have it
pub all_mapped : {X Y : Type 0} (P : X → Type 0) (Q : Y → Type 0) (f : X → Y) → ((x : X) → P x → Q (f x)) → (xs : List X) → AllIn P xs →
    AllIn Q (map f xs)
all_mapped P Q f each [] h = tt
all_mapped P Q f each (x ∷ xs) h = (each x h.0, all_mapped P Q f each xs h.1)
