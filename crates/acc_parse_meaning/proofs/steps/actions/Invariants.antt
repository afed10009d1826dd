use Rattle.std.proofs.Common.{◌≡◌, map, take}
use Rattle.std.specs.List.{flat_map}
use Rattle.acc_parse_limits.specs.Walks.{after}
use Rattle.acc_parse_meaning.specs.Steps.{action_of}
use Rattle.acc_parse_meaning.specs.Sizes.{action_sizes}
use Rattle.acc_parse_clauses.specs.Views.{scope_in}
use Rattle.acc_parse_meaning.proofs.steps.actions.Given as goal

-- what has come so far
abbrev pub invariant-loop-tree : goal.invariant-loop-tree
invariant-loop-tree l = record {
  value : l.actions ≡ map (action_of (scope_in l.scope)) (take l.tree-index l.trees);
  walk : l.walk ≡ after l.initial.walk (flat_map (action_sizes (scope_in l.scope)) (take l.tree-index l.trees));
}
