-- What is written so far, and then the pairs that are left, is all of it.
use Rattle.std.proofs.Common.{drop}
use Rattle.std.specs.List.{flat_map}
use Rattle.acc_page.specs.Written.{Owes}
use Rattle.acc_commands_files.specs.Advising.{beyond_line}
use Rattle.acc_commands_files.proofs.advices.push_all_beyond.Given as goal

abbrev pub invariant-loop-b : goal.invariant-loop-b
invariant-loop-b l =
    Owes l.fn.out l.out (flat_map (beyond_line l.d l.q) (drop l.b-index l.beyond)) (flat_map (beyond_line l.d l.q) l.beyond)
