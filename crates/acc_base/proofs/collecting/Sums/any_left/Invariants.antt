use Rattle.std.proofs.Common.{◌≡◌, drop}
use Rattle.std.specs.List.{list_any}
use Rattle.acc_base.specs.Collecting.{is_left, sums_in}
use Rattle.acc_base.proofs.collecting.Sums.any_left.Given as goal

abbrev pub invariant-loop-sum : goal.invariant-loop-sum
invariant-loop-sum g l =
    list_any is_left (sums_in (drop l.sum-index l.sum-items)) ≡ list_any is_left (sums_in l.sum-items)
