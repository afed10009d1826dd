use Rattle.std.proofs.Common.{◌≡◌, take}
use Rattle.std.specs.List.{flat_map}
use Rattle.acc_parse_limits.specs.Walks.{after}
use Rattle.acc_parse_limits.specs.Words.{name_marks}
use Rattle.acc_parse_limits.proofs.values.meet_each_name.Given as goal

abbrev pub invariant-loop-name : goal.invariant-loop-name
invariant-loop-name l = l.walk ≡ after l.initial.walk (flat_map name_marks (take l.name-index l.names))
