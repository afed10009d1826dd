use Rattle.std.proofs.Common.{◌-◌}
use Rattle.acc_oblig.specs.Drafts.{each_number}
use Rattle.acc_oblig.specs.PointRules.{each_point}
use Rattle.acc_oblig.specs.Ranges.{range_at}
use Rattle.acc_oblig_clauses.proofs.Going.{Going}
use Rattle.acc_oblig_ranges.proofs.ranges.add_first_ranges.Given as goal

abbrev pub invariant-loop-k : goal.invariant-loop-k
invariant-loop-k l = Going l.fn.out l.out (each_number l.k (l.count - l.k) (λ k. each_point l.d (range_at l.d k)))
    (each_number 0 l.count (λ k. each_point l.d (range_at l.d k)))
