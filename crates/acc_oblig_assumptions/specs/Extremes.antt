-- What the least and the greatest component make true, one by one.
use Rattle.std.specs.Prelude.{ℕ, List, [], ◌∷◌, ◌++◌, codes}
use Rattle.acc_base.specs.declared.forms.Lin.{Lin}
use Rattle.acc_base.specs.declared.forms.Rel.{Rel}
use Rattle.acc_base.specs.declared.forms.Clause.{Clause}
use Rattle.acc_oblig.specs.Relations.{alone, some_rows, no_rows, none_there, is_nothing, plain}

-- where there are rows under a prefix, there are some behind the variable
abbrev pub behind_there : ℕ → List Lin → ℕ → Clause
behind_there t p x = plain (some_rows t p ∷ []) (some_rows t (p ++ alone x ∷ []))

-- where there are none, the variable is 0
abbrev pub nothing_of_none : ℕ → List Lin → ℕ → Clause
nothing_of_none t p x = plain (no_rows t p ∷ []) (is_nothing x)

-- where there are some, there are none behind a number beyond it
abbrev pub none_beyond : ℕ → List Lin → ℕ → Rel → Clause
none_beyond t p k beyond =
    record {
      vars = codes "k" ∷ [];
      guards = some_rows t p ∷ beyond ∷ [];
      rel = none_there t (p ++ alone k ∷ []);
    }
