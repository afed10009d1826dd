use Rattle.std.proofs.Common.{◌≡◌, take}
use Rattle.acc_step.proofs.walks.widened_columns.Given as goal

-- the numbers that were gone over
abbrev pub invariant-loop-value : goal.invariant-loop-value
invariant-loop-value l = l.cols ≡ take l.value-index l.values
