use Rattle.std.proofs.Common.{◌≡◌, ◌++◌, drop}
use Rattle.acc_farkas.specs.Sums.{nothing, weighted, is_weighted_wide}
use Rattle.acc_farkas.proofs.weights.weighted.Given as goal

abbrev pub invariant-loop-place : goal.invariant-loop-place
invariant-loop-place l =
    record {
      value : weighted (l.first ++ l.more) (drop l.place-index l.multipliers) l.sum ≡ weighted (l.first ++ l.more) l.multipliers nothing;
      wide : is_weighted_wide (l.first ++ l.more) (drop l.place-index l.multipliers) l.sum
          ≡ is_weighted_wide (l.first ++ l.more) l.multipliers nothing;
    }
