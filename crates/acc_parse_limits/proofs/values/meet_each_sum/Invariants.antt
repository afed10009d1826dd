use Rattle.std.proofs.Common.{◌≡◌, take}
use Rattle.std.specs.List.{flat_map}
use Rattle.acc_parse_limits.specs.Walks.{after}
use Rattle.acc_parse_limits.specs.Words.{sum_marks}
use Rattle.acc_parse_limits.proofs.values.meet_each_sum.Given as goal

abbrev pub invariant-loop-sum : goal.invariant-loop-sum
invariant-loop-sum l = l.walk ≡ after l.initial.walk (flat_map sum_marks (take l.sum-index l.sums))
