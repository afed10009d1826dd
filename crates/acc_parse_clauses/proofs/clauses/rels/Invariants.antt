use Rattle.std.proofs.Common.{◌≡◌, ◌++◌, map, take}
use Rattle.std.specs.List.{flat_map}
use Rattle.acc_parse_limits.specs.Walks.{after}
use Rattle.acc_parse_clauses.specs.Forms.{rel_of}
use Rattle.acc_parse_clauses.specs.Sizes.{rel_sizes}
use Rattle.acc_parse_clauses.specs.Views.{scope_in}
use Rattle.acc_parse_clauses.proofs.clauses.rels.Given as goal

-- what has come so far
abbrev pub invariant-loop-other : goal.invariant-loop-other
invariant-loop-other l = record {
  value : l.rels ≡ l.initial.rels ++ map (rel_of (scope_in l.scope)) (take l.other-index l.trees.others);
  walk : l.walk ≡ after l.initial.walk (flat_map (rel_sizes (scope_in l.scope)) (take l.other-index l.trees.others));
}
