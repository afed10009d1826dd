-- What the structs of the code stand for.
-- Only the code that looks for faults speaks of this; Faults says what they are.
use Rattle.std.specs.Prelude.{ℕ, List, ◌++◌}
use Rattle.acc_parse_names.specs.declared.scopes.Variables.{Variables}
use Rattle.acc_parse_names.specs.declared.scopes.Definitions.{Definitions}
use Rattle.acc_parse_names.specs.Scopes.{Scope}

abbrev pub variables_in : Variables → List (List ℕ)
variables_in v = v.locals.now ++ v.own.now

abbrev pub scope_in : Definitions → Scope
scope_in d = record { tables = d.tables.now.trees.now; variables = variables_in d.variables.now }
