-- What is written so far, and then the relations that are left, is all of it.
use Rattle.acc_page.specs.Written.{Owes}
use Rattle.std.proofs.Common.{codes, drop}
use Rattle.acc_print.specs.Lists.{listed}
use Rattle.acc_print.specs.Values.{lin_rel_text}
use Rattle.acc_print.proofs.values.push_guard.Given as goal

abbrev pub invariant-loop-rel : goal.invariant-loop-rel
invariant-loop-rel l =
    Owes l.fn.out l.out (listed (lin_rel_text l.scope.names) l.before (drop l.rel-index l.rels))
    (listed (lin_rel_text l.scope.names) (codes " ") l.rels)
