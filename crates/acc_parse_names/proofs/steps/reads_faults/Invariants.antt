use Rattle.std.proofs.Common.{◌≡◌, ◌++◌, map, drop}
use Rattle.acc_parse_names.specs.Views.{scope_in}
use Rattle.acc_parse_names.specs.Faults.{read_fault}
use Rattle.acc_parse_names.proofs.steps.reads_faults.Given as goal

-- what is written, with what is left to write, is all of it
abbrev pub invariant-loop-read : goal.invariant-loop-read
invariant-loop-read l = l.faults.items ++ map (read_fault (scope_in l.definitions)) (drop l.read-index l.reads) ≡ l.fn.faults.items ++ map
    (read_fault (scope_in l.definitions)) l.reads
