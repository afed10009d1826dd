-- What is written so far, and then the pairs that are left, is all of it.
use Rattle.acc_page.specs.Written.{Owes}
use Rattle.std.proofs.Common.{codes, drop}
use Rattle.acc_print.specs.Lists.{listed}
use Rattle.acc_print.specs.Designs.{scope_at, pair_text}
use Rattle.acc_draw.proofs.pictures.push_pairs.Given as goal

abbrev pub invariant-loop-pair : goal.invariant-loop-pair
invariant-loop-pair l =
    let text = pair_text (scope_at l.d l.entry.held).names (scope_at l.d l.entry.step).names in
    Owes l.fn.out l.out (listed text l.before (drop l.pair-index l.entry.pairs)) (listed text (codes " : ") l.entry.pairs)
