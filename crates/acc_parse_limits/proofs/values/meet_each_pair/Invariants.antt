use Rattle.std.proofs.Common.{◌≡◌, take}
use Rattle.std.specs.List.{flat_map}
use Rattle.acc_parse_limits.specs.Walks.{after}
use Rattle.acc_parse_limits.specs.Words.{pair_marks}
use Rattle.acc_parse_limits.proofs.values.meet_each_pair.Given as goal

abbrev pub invariant-loop-pair : goal.invariant-loop-pair
invariant-loop-pair l = l.walk ≡ after l.initial.walk (flat_map pair_marks (take l.pair-index l.pairs))
