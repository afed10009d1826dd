-- What the structs of the code stand for.
-- Only the code speaks of this.
use Rattle.acc_parse_clauses.specs.declared.scopes.VariableNames.{VariableNames}
use Rattle.acc_parse_clauses.specs.declared.scopes.Surroundings.{Surroundings}
use Rattle.acc_parse_clauses.specs.Scopes.{Variables, Scope}

abbrev pub variables_in : VariableNames → Variables
variables_in v = record { in_type = v.in_type; locals = v.locals.now; own = v.own.now }

abbrev pub scope_in : Surroundings → Scope
scope_in s = record { tables = s.tables.now.trees.now; variables = variables_in s.variables.now }
