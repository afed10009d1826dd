-- The locals and the points of a type, as they are looked up.
-- Only the code that looks names up speaks of this, here, in acc_parse_clauses and in acc_parse_meaning; Scopes says what can be named.
use Rattle.acc_parse_syntax.specs.declared.trees.TypeTree.{TypeTree}
use Rattle.acc_parse_names.specs.declared.members.Members.{Members}
use Rattle.acc_parse_names.specs.Scopes.{locals_of, point_names}

abbrev pub members_of : TypeTree → Members
members_of t = record { locals = locals_of t; points = point_names t }
