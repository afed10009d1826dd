use Rattle.std.proofs.Common.{◌≡◌, ◌++◌, map, drop}
use Rattle.acc_parse_names.specs.Faults.{hint_fault}
use Rattle.acc_parse_names.proofs.entries.hints_faults.Given as goal

-- what is written, with what is left to write, is all of it
abbrev pub invariant-loop-hint : goal.invariant-loop-hint
invariant-loop-hint l = l.faults.items ++ map (hint_fault l.types.trees.now) (drop l.hint-index l.hints) ≡ l.fn.faults.items ++ map
    (hint_fault l.types.trees.now) l.hints
