-- How many statements the parts of a design have.
-- What numbers statements speaks of this: the faults of names, the limits, what a part means and the print.
use Rattle.std.specs.Prelude.{ℕ, ◌+◌, length, Option, Some, None, sum_by}
use Rattle.acc_parse_syntax.specs.declared.trees.PathTree.{PathTree}
use Rattle.acc_parse_syntax.specs.declared.trees.StepTree.{StepTree}
use Rattle.acc_parse_syntax.specs.declared.trees.PointTree.{PointTree}
use Rattle.acc_parse_syntax.specs.declared.trees.TypeTree.{TypeTree}
use Rattle.acc_parse_syntax.specs.declared.trees.DesignTree.{DesignTree}

-- one statement, which may be left out
abbrev pub if_there : {T : Type 0} → Option T → ℕ
if_there None = 0
if_there (Some x) = 1

-- `path` with its guard, the actions, the target
abbrev pub path_statements : PathTree → ℕ
path_statements p = 1 + length p.actions + 1

-- the word `next` or `undo`, the reads, the paths
abbrev pub step_statements : StepTree → ℕ
step_statements s = 1 + length s.reads + path_statements s.first + sum_by path_statements s.others

-- `point` with its name, `variant`, what holds, the steps
abbrev pub point_statements : PointTree → ℕ
point_statements p = 1 + if_there p.variant + length p.holds + step_statements p.next + step_statements p.undo

-- `type` with its name and parameters, `limit`, `returns`, `local`, what is ensured and repaired, the points
abbrev pub type_statements : TypeTree → ℕ
type_statements t =
    2 + if_there t.returns + if_there t.locals + length t.ensured + length t.repaired
    + point_statements t.first + sum_by point_statements t.others

-- the tables, what holds always, the types, the entries, the hints
unfoldable pub statements_of : DesignTree → ℕ
statements_of d = length d.tables + length d.always + sum_by type_statements d.types + length d.entries + length d.hints
