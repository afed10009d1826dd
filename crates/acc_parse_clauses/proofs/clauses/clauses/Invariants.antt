use Rattle.std.proofs.Common.{◌≡◌, map, take}
use Rattle.std.specs.List.{flat_map}
use Rattle.acc_parse_limits.specs.Walks.{after}
use Rattle.acc_parse_clauses.specs.Forms.{clause_of}
use Rattle.acc_parse_clauses.specs.Sizes.{clause_statement_sizes}
use Rattle.acc_parse_clauses.specs.Views.{scope_in}
use Rattle.acc_parse_clauses.proofs.clauses.clauses.Given as goal

-- what has come so far
abbrev pub invariant-loop-tree : goal.invariant-loop-tree
invariant-loop-tree l = record {
  value : l.clauses ≡ map (clause_of (scope_in l.scope)) (take l.tree-index l.trees);
  walk : l.walk ≡ after l.initial.walk (flat_map (clause_statement_sizes (scope_in l.scope)) (take l.tree-index l.trees));
}
