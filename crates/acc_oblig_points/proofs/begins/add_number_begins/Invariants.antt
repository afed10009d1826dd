use Rattle.std.proofs.Common.{drop}
use Rattle.acc_oblig.specs.Drafts.{each, each_from}
use Rattle.acc_oblig.specs.PointRules.{begin_at}
use Rattle.acc_oblig_clauses.proofs.Going.{Going}
use Rattle.acc_oblig_points.proofs.begins.add_number_begins.Given as goal

abbrev pub invariant-loop-i : goal.invariant-loop-i
invariant-loop-i l = Going l.fn.out l.out (each_from l.i (begin_at l.d l.k) (drop l.i l.types)) (each (begin_at l.d l.k) l.d.types)
