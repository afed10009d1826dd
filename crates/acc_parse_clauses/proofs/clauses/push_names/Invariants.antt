use Rattle.std.proofs.Common.{◌≡◌, ◌++◌, take}
use Rattle.acc_parse_clauses.proofs.clauses.push_names.Given as goal

-- what has come so far
abbrev pub invariant-loop-other : goal.invariant-loop-other
invariant-loop-other l = l.all ≡ l.initial.all ++ take l.other-index l.names.others
