use Rattle.std.proofs.Common.{◌≡◌, drop}
use Rattle.acc_base.specs.Computing.{steps}
use Rattle.acc_elim_points.specs.Points.{summed}
use Rattle.acc_elim_points.proofs.points.summed_all.Given as goal

abbrev pub invariant-loop-term : goal.invariant-loop-term
invariant-loop-term l = steps (summed l.fn.unknown l.point) l.sum (drop l.term-index l.terms)
    ≡ steps (summed l.fn.unknown l.point) l.fn.first l.terms
