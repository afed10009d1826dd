-- What is written so far, and then the pairs that are left, is all of it.
use Rattle.acc_page.specs.Written.{Owes}
use Rattle.std.proofs.Common.{codes, drop}
use Rattle.acc_print.specs.Lists.{listed}
use Rattle.acc_print.specs.Designs.{pair_text}
use Rattle.acc_print.proofs.designs.push_pairs.Given as goal

abbrev pub invariant-loop-left : goal.invariant-loop-left
invariant-loop-left l =
    Owes l.fn.out l.out (listed (pair_text l.held.names l.step.names) l.before (drop l.left-index l.pairs))
    (listed (pair_text l.held.names l.step.names) (codes " : ") l.pairs)
