use Rattle.std.proofs.Common.{◌≡◌, drop}
use Rattle.acc_base.specs.Computing.{steps}
use Rattle.acc_elim_points.specs.Points.{tightest}
use Rattle.acc_elim_points.proofs.points.tightest_of.Given as goal

abbrev pub invariant-loop-row : goal.invariant-loop-row
invariant-loop-row l = steps (tightest l.fn.unknown l.point) l.bound (drop l.row-index l.rows)
    ≡ steps (tightest l.fn.unknown l.point) l.fn.first l.rows
