use Rattle.std.proofs.Common.{◌≡◌, [], ◌++◌, map, take, drop}
use Rattle.acc_parse_names.specs.Faults.{tables_faults}
use Rattle.acc_parse_names.proofs.tables.Tables.new.Given as goal

-- what is known of the tables so far; and what is written, with what is left to write, is all of it
abbrev pub invariant-loop-tree : goal.invariant-loop-tree
invariant-loop-tree l = record {
  named : l.names ≡ map (λ t. t.name) (take l.tree-index l.trees);
  lined : l.columns.items ≡ map (λ t. t.columns) (take l.tree-index l.trees);
  told : l.faults.items ++ tables_faults l.names (drop l.tree-index l.trees) ≡ l.initial.faults.items ++ tables_faults [] l.trees;
}
