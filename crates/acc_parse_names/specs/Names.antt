-- Names, in the order in which they are defined.
use Rattle.std.specs.Prelude.{ℕ, Bool, false, ◌||◌, List, [], ◌∷◌, ◌++◌, Option, Some, None}
use Rattle.std.specs.List.{list_any}
use Rattle.std.specs.Str.{bytes_eq}
use Rattle.acc_parse_syntax.specs.declared.trees.Names.{Names}

-- whether a name is one of these
abbrev pub stands_in : List ℕ → List (List ℕ) → Bool
stands_in x names = list_any (bytes_eq x) names

-- whether one of the names is defined a second time: it is one of the earlier ones, or stands before itself
abbrev pub defines_again : List (List ℕ) → List (List ℕ) → Bool
defines_again earlier [] = false
defines_again earlier (x ∷ xs) = stands_in x earlier || defines_again (earlier ++ x ∷ []) xs

-- one or more names, as a list
abbrev pub listed : Names → List (List ℕ)
listed ns = ns.first ∷ ns.others

abbrev pub listed_or_none : Option Names → List (List ℕ)
listed_or_none None = []
listed_or_none (Some ns) = listed ns
