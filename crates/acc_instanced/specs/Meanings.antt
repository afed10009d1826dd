-- What an instance means: what the hypothesis means where its own variables have the numbers that the values are worth.
use Rattle.std.specs.Prelude.{◌≡◌, ℕ, List, ◌++◌, length, ℤ}
use Rattle.acc_base.specs.declared.tables.Row.{Row}
use Rattle.acc_base.specs.declared.forms.Lin.{Lin}
use Rattle.acc_base.specs.declared.forms.Rel.{Rel}
use Rattle.acc_base.specs.Linear.{lin_values}
use Rattle.acc_base.specs.Truth.{rel_true}

-- for all rows and all numbers of the first n variables
abbrev pub IsInstance : ℕ → List Lin → Rel → Rel → Type 0
IsInstance n own r instance_ =
    (db : List Row) (env : List ℤ) → length env ≡ n → rel_true db env instance_ ≡ rel_true db (env ++ lin_values env own) r
