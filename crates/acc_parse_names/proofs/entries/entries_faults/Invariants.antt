use Rattle.std.proofs.Common.{◌≡◌, ◌++◌, map, drop}
use Rattle.acc_parse_names.specs.Faults.{entry_fault}
use Rattle.acc_parse_names.proofs.entries.entries_faults.Given as goal

-- what is written, with what is left to write, is all of it
abbrev pub invariant-loop-entry : goal.invariant-loop-entry
invariant-loop-entry l = l.faults.items ++ map (entry_fault l.types.trees.now) (drop l.entry-index l.entries) ≡ l.fn.faults.items ++ map
    (entry_fault l.types.trees.now) l.entries
