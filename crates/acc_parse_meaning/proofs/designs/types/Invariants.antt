use Rattle.std.proofs.Common.{◌≡◌, map, take}
use Rattle.std.specs.List.{flat_map}
use Rattle.acc_parse_limits.specs.Walks.{after}
use Rattle.acc_parse_meaning.specs.Types.{type_of}
use Rattle.acc_parse_meaning.specs.Sizes.{type_sizes}
use Rattle.acc_parse_meaning.proofs.designs.types.Given as goal

-- what has come so far
abbrev pub invariant-loop-i : goal.invariant-loop-i
invariant-loop-i l = record {
  value : l.made ≡ map (type_of l.tables.trees.now) (take l.i l.types.trees.now);
  walk : l.walk ≡ after l.initial.walk (flat_map (type_sizes l.tables.trees.now) (take l.i l.types.trees.now));
}
