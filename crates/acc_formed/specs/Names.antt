-- Rule 6: no name is given twice in its scope.
use Rattle.std.specs.Prelude.{ℕ, Bool, true, not, ◌&&◌, List, [], ◌∷◌}
use Rattle.std.specs.List.{list_all, list_any}
use Rattle.std.specs.Str.{bytes_eq}
use Rattle.acc_base.specs.declared.tables.Table.{Table}
use Rattle.acc_base.specs.declared.designs.Point.{Point}
use Rattle.acc_base.specs.declared.designs.TxType.{TxType}

-- whether a name is one of these
abbrev pub stands_in : List (List ℕ) → List ℕ → Bool
stands_in names x = list_any (bytes_eq x) names

-- no name stands twice
abbrev pub are_distinct : List (List ℕ) → Bool
are_distinct [] = true
are_distinct (x ∷ xs) = not (stands_in xs x) && are_distinct xs

-- names that are given behind others: none is one of those, and none stands twice
abbrev pub are_new : List (List ℕ) → List (List ℕ) → Bool
are_new earlier xs = list_all (λ x. not (stands_in earlier x)) xs && are_distinct xs

-- whether one of the tables, points or types has the name
abbrev pub names_table : List Table → List ℕ → Bool
names_table tables x = list_any (λ (t : Table). bytes_eq x t.name) tables

abbrev pub names_point : List Point → List ℕ → Bool
names_point points x = list_any (λ (p : Point). bytes_eq x p.name) points

abbrev pub names_type : List TxType → List ℕ → Bool
names_type types x = list_any (λ (t : TxType). bytes_eq x t.name) types
