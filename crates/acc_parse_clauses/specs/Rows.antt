-- The keys of rows.
use Rattle.std.specs.Prelude.{List}
use Rattle.acc_base.specs.declared.forms.Lin.{Lin}
use Rattle.acc_parse_syntax.specs.declared.trees.Place.{Place}
use Rattle.acc_parse_clauses.specs.Scopes.{Scope}
use Rattle.acc_parse_clauses.specs.Values.{lins_of}

-- the key of a row, or a prefix of one
abbrev pub key_in : Scope → Place → List Lin
key_in s p = lins_of s.variables p.key
