-- What is written so far, and then the names that are left, is all of it.
use Rattle.acc_page.specs.Written.{Owes}
use Rattle.std.proofs.Common.{drop}
use Rattle.std.specs.List.{flat_map}
use Rattle.acc_print.specs.Lists.{spaced}
use Rattle.acc_print.proofs.clauses.push_names.Given as goal

abbrev pub invariant-loop-name : goal.invariant-loop-name
invariant-loop-name l = Owes l.fn.out l.out (flat_map spaced (drop l.name-index l.names)) (flat_map spaced l.names)
