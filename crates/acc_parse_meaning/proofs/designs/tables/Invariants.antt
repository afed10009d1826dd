use Rattle.std.proofs.Common.{◌≡◌, map, take}
use Rattle.std.specs.List.{flat_map}
use Rattle.acc_parse_limits.specs.Walks.{after}
use Rattle.acc_parse_meaning.specs.Designs.{table_of}
use Rattle.acc_parse_meaning.specs.Sizes.{table_sizes}
use Rattle.acc_parse_meaning.proofs.designs.tables.Given as goal

-- what has come so far
abbrev pub invariant-loop-tree : goal.invariant-loop-tree
invariant-loop-tree l = record {
  value : l.tables ≡ map table_of (take l.tree-index l.trees);
  walk : l.walk ≡ after l.initial.walk (flat_map table_sizes (take l.tree-index l.trees));
}
