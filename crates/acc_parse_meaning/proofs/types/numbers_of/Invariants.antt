use Rattle.std.proofs.Common.{◌≡◌, ◌++◌, map, take}
use Rattle.acc_parse_clauses.specs.Scopes.{number_of}
use Rattle.acc_parse_meaning.proofs.types.numbers_of.Given as goal

-- what has come so far
abbrev pub invariant-loop-other : goal.invariant-loop-other
invariant-loop-other l = l.numbers ≡ l.initial.numbers ++ map (λ x. number_of x l.locals) (take l.other-index l.names.others)
