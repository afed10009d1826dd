-- What is written so far, and then the reads that are left, is all of it.
use Rattle.acc_page.specs.Written.{Owes}
use Rattle.std.proofs.Common.{drop}
use Rattle.std.specs.List.{flat_map}
use Rattle.acc_print.specs.Steps.{read_line}
use Rattle.acc_print.proofs.steps.push_reads.Given as goal

abbrev pub invariant-loop-read : goal.invariant-loop-read
invariant-loop-read l =
    Owes l.fn.out l.out (flat_map (read_line l.scope) (drop l.read-index l.reads)) (flat_map (read_line l.scope) (l.reads))
