use Rattle.std.proofs.Common.{◌≡◌, ◌-◌, ◌++◌}
use Rattle.acc_base.specs.Items.{numbers_from}
use Rattle.acc_elim_known.proofs.ending.left_with.Given as goal

abbrev pub invariant-loop-unknown : goal.invariant-loop-unknown
invariant-loop-unknown l =
    l.all.items ++ numbers_from l.unknown (l.fn.unknowns - l.unknown) ≡ l.left ++ numbers_from l.fn.known (l.fn.unknowns - l.fn.known)
