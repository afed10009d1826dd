use Rattle.std.proofs.Common.{◌≡◌, ◌++◌, drop}
use Rattle.acc_elim_decisions.specs.Decisions.{opposites, are_opposites_wide}
use Rattle.acc_elim_decisions.proofs.deciding.opposites.Given as goal

abbrev pub invariant-loop-m : goal.invariant-loop-m
invariant-loop-m l =
    record {
      value : l.ms ++ opposites (drop l.m-index l.by) ≡ opposites l.by;
      wide : are_opposites_wide (drop l.m-index l.by) ≡ are_opposites_wide l.by;
    }
