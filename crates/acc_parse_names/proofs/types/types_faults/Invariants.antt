use Rattle.std.proofs.Common.{◌≡◌, [], ◌++◌, map, take, drop}
use Rattle.acc_parse_names.specs.Members.{members_of}
use Rattle.acc_parse_names.specs.Faults.{types_faults}
use Rattle.acc_parse_names.proofs.types.types_faults.Given as goal

-- what is known of the types so far; and what is written, with what is left to write, is all of it
abbrev pub invariant-loop-tree : goal.invariant-loop-tree
invariant-loop-tree l = record {
  named : l.names ≡ map (λ t. t.name) (take l.tree-index l.trees);
  lined : l.members.items ≡ map members_of (take l.tree-index l.trees);
  told : l.faults.items ++ types_faults l.tables.trees.now l.names (drop l.tree-index l.trees) ≡ l.initial.faults.items ++ types_faults
      l.tables.trees.now [] l.trees;
}
