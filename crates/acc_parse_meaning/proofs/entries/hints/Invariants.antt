use Rattle.std.proofs.Common.{◌≡◌, map, take}
use Rattle.std.specs.List.{flat_map}
use Rattle.acc_parse_limits.specs.Walks.{after}
use Rattle.acc_parse_meaning.specs.Designs.{hint_of}
use Rattle.acc_parse_meaning.specs.Sizes.{hint_sizes}
use Rattle.acc_parse_meaning.proofs.entries.hints.Given as goal

-- what has come so far
abbrev pub invariant-loop-tree : goal.invariant-loop-tree
invariant-loop-tree l = record {
  value : l.hints ≡ map (hint_of l.types.trees.now) (take l.tree-index l.trees);
  walk : l.walk ≡ after l.initial.walk (flat_map (hint_sizes l.types.trees.now) (take l.tree-index l.trees));
}
