-- What is collected in the statements of a type behind its head.
-- Only the code here speaks of this; Sizes says it of a whole type.
use Rattle.std.specs.Prelude.{List, ◌++◌}
use Rattle.std.specs.List.{flat_map}
use Rattle.acc_parse_limits.specs.Marks.{Mark}
use Rattle.acc_parse_syntax.specs.declared.trees.TypeTree.{TypeTree}
use Rattle.acc_parse_names.specs.Scopes.{points_in}
use Rattle.acc_parse_clauses.specs.Scopes.{Scope}
use Rattle.acc_parse_clauses.specs.Sizes.{clause_statement_sizes}
use Rattle.acc_parse_meaning.specs.Sizes.{point_sizes}

-- what is ensured and repaired, the points
abbrev pub body_sizes : Scope → TypeTree → List Mark
body_sizes s t =
    flat_map (clause_statement_sizes s) t.ensured ++
    (flat_map (clause_statement_sizes s) t.repaired ++ flat_map (point_sizes s) (points_in t))
