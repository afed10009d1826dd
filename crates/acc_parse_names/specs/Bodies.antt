-- Which statements of a type behind its head have a fault.
-- Only the code here speaks of this; Faults says what a fault is.
use Rattle.std.specs.Prelude.{Bool, List, [], ◌++◌, map}
use Rattle.acc_parse_syntax.specs.declared.trees.TableTree.{TableTree}
use Rattle.acc_parse_syntax.specs.declared.trees.TypeTree.{TypeTree}
use Rattle.acc_parse_names.specs.Scopes.{points_in, point_names}
use Rattle.acc_parse_names.specs.Faults.{clause_fault, points_faults, type_scope}

-- what is ensured and repaired, the points
abbrev pub body_faults : List TableTree → TypeTree → List Bool
body_faults tables t =
    map (clause_fault (type_scope tables t)) t.ensured
    ++ (map (clause_fault (type_scope tables t)) t.repaired ++ points_faults (type_scope tables t) (point_names t) [] (points_in t))
