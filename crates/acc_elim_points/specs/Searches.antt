-- The point that an elimination of relations between unknowns ends with.
use Rattle.std.specs.Prelude.{ℕ, List, length}
use Rattle.acc_base.specs.declared.forms.Rel.{Rel}
use Rattle.acc_rows.specs.declared.rows.Row.{Row}
use Rattle.acc_base.specs.Computing.{chain}
use Rattle.acc_rows.specs.Answers.{Computation}
use Rattle.acc_elim_systems.specs.Systems.{eliminated}
use Rattle.acc_elim_points.specs.Points.{Point, point_of}
use Rattle.acc_elim_readings.specs.Readings.{unknowns_of, rows_from}

-- the unknowns are eliminated, and values are given backwards
abbrev pub found_by : ℕ → List Row → Computation Point
found_by unknowns rows = chain (eliminated unknowns rows) (point_of unknowns)

-- the relations are read, their unknowns are eliminated, and values are given backwards
abbrev pub searched : List Rel → Computation Point
searched rels =
    chain (rows_from (unknowns_of rels) 0 rels) (λ rows.
    found_by (length (unknowns_of rels)) rows)
