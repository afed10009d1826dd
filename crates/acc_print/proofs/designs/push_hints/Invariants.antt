-- What is written so far, and then the hints that are left, is all of it.
use Rattle.acc_page.specs.Written.{Owes}
use Rattle.std.proofs.Common.{drop}
use Rattle.std.specs.List.{flat_map}
use Rattle.acc_print.specs.Designs.{hint_line}
use Rattle.acc_print.proofs.designs.push_hints.Given as goal

abbrev pub invariant-loop-hint : goal.invariant-loop-hint
invariant-loop-hint l = Owes l.fn.out l.out (flat_map (hint_line l.d) (drop l.hint-index l.hints)) (flat_map (hint_line l.d) l.hints)
