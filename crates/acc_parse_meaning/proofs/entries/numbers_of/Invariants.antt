use Rattle.std.proofs.Common.{◌≡◌, ◌++◌, map, take}
use Rattle.acc_parse_meaning.specs.Designs.{pair_of}
use Rattle.acc_parse_clauses.specs.Views.{variables_in}
use Rattle.acc_parse_meaning.proofs.entries.numbers_of.Given as goal

-- what has come so far
abbrev pub invariant-loop-other : goal.invariant-loop-other
invariant-loop-other l = l.numbers ≡ l.initial.numbers ++ map (pair_of (variables_in l.held) (variables_in l.step))
    (take l.other-index l.trees.others)
