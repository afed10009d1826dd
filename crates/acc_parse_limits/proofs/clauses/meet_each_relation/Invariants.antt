use Rattle.std.proofs.Common.{◌≡◌, take}
use Rattle.std.specs.List.{flat_map}
use Rattle.acc_parse_limits.specs.Walks.{after}
use Rattle.acc_parse_limits.specs.Words.{form_rel_marks}
use Rattle.acc_parse_limits.proofs.clauses.meet_each_relation.Given as goal

abbrev pub invariant-loop-relation : goal.invariant-loop-relation
invariant-loop-relation l = l.walk ≡ after l.initial.walk (flat_map form_rel_marks (take l.relation-index l.relations))
