use Rattle.std.proofs.Common.{◌-◌}
use Rattle.acc_oblig.specs.Drafts.{each, each_number}
use Rattle.acc_oblig.specs.PointRules.{begin_at}
use Rattle.acc_oblig_clauses.proofs.Going.{Going}
use Rattle.acc_oblig_points.proofs.begins.add_first_begins.Given as goal

abbrev pub invariant-loop-k : goal.invariant-loop-k
invariant-loop-k l = Going l.fn.out l.out (each_number l.k (l.count - l.k) (λ k. each (begin_at l.d k) l.d.types))
    (each_number 0 l.count (λ k. each (begin_at l.d k) l.d.types))
