use Rattle.std.proofs.Common.{◌≡◌, take}
use Rattle.acc_prover_choices.proofs.targets.copied_lins.Given as goal

abbrev pub invariant-loop-lin : goal.invariant-loop-lin
invariant-loop-lin l = l.again ≡ take l.lin-index l.lins
