-- What is written so far, and then the values that are left, is all of it.
use Rattle.acc_page.specs.Written.{Owes}
use Rattle.std.proofs.Common.{drop}
use Rattle.acc_print.specs.Lists.{listed}
use Rattle.acc_print.specs.Values.{lin_text}
use Rattle.acc_print.proofs.values.push_lins.Given as goal

abbrev pub invariant-loop-lin : goal.invariant-loop-lin
invariant-loop-lin l =
    Owes l.fn.out l.out (listed (lin_text l.scope.names) l.before (drop l.lin-index l.lins))
    (listed (lin_text l.scope.names) l.opening l.lins)
