-- Where the marks on a text are ends of statements alone, no statement passes a limit.
use Rattle.std.proofs.Common.{◌≡◌, ℕ, ◌+◌, List, [], ◌∷◌, ◌++◌, map, refl}
use Rattle.std.specs.List.{flat_map}
use Rattle.acc_grammar.specs.Readers.{AllIn}
use Rattle.acc_parse_limits.specs.Marks.{Mark, Past, End, ending}
use Rattle.acc_parse_limits.specs.Faults.{placed}

abbrev pub IsEnd : Mark → Type 0
IsEnd (Past limit) = ⊥
IsEnd End = Unit {0}

-- each mark is a statement's end
abbrev pub AreEnds : List Mark → Type 0
AreEnds ms = AllIn IsEnd ms

pub no_faults : (n : ℕ) (ms : List Mark) → AreEnds ms → placed n ms ≡ []
no_faults n [] h = refl
no_faults n (Past limit ∷ ms) h = absurd h.0
no_faults n (End ∷ ms) h = no_faults (n + 1) ms h.1

pub one_end : AreEnds ending
one_end = (tt, tt)

pub ends_behind : (a b : List Mark) → AreEnds a → AreEnds b → AreEnds (a ++ b)
ends_behind [] b h k = k
ends_behind (m ∷ ms) b h k = (h.0, ends_behind ms b h.1 k)

-- marks within a statement, and its end
pub ended : (a : List Mark) → AreEnds a → AreEnds (a ++ ending)
ended a h = ends_behind a ending h one_end

-- marks on the trees of items
pub ends_mapped : {X Y : Type 0} (P : X → Type 0) (marks : Y → List Mark) (tree : X → Y) (xs : List X) →
    ((x : X) → P x → AreEnds (marks (tree x))) → AllIn P xs → AreEnds (flat_map marks (map tree xs))
ends_mapped P marks tree [] f h = tt
ends_mapped P marks tree (x ∷ xs) f h = ends_behind (marks (tree x)) (flat_map marks (map tree xs)) (f x h.0)
    (ends_mapped P marks tree xs f h.1)
