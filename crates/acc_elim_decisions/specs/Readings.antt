-- Relations of which the first ones are read.
use Rattle.std.specs.Prelude.{◌≡◌, ◌≤◌, List, [], length, take, Ok}
use Rattle.acc_base.specs.declared.forms.Rel.{Rel}
use Rattle.acc_base.specs.Computing.{steps}
use Rattle.acc_rows.specs.Answers.{Computation}
use Rattle.acc_elim_points.specs.Points.{Point}
use Rattle.acc_elim_points.specs.Searches.{found_by}
use Rattle.acc_elim_readings.specs.Readings.{Read, read_next}
use Rattle.acc_elim_decisions.specs.declared.reading.Reading.{Reading}

-- no relation was read
abbrev pub unread : Read
unread = ([], [])

abbrev pub read_of : Reading → Read
read_of r = (r.names.items, r.rows.items)

-- the first relations were read, one after the other
pub record AreRead (rels : List Rel) (r : Reading) : Type 0 where
  pub few : r.count ≤ length rels
  pub first : steps read_next unread (take r.count rels) ≡ Ok (read_of r)

-- the point at which what was read holds
abbrev pub found_in : Read → Computation Point
found_in s = found_by (length s.0) s.1
