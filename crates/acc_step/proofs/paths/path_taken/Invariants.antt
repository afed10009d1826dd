use Rattle.std.proofs.Common.{◌≡◌, drop}
use Rattle.std.specs.List.{list_all}
use Rattle.acc_base.specs.Linear.{lin_rel_true}
use Rattle.acc_step.specs.Variables.{values_of}
use Rattle.acc_base.specs.Effects.{taken_path, first_from}
use Rattle.acc_step.proofs.paths.path_taken.Given as goal

-- the first of the paths that are left is the first of all
abbrev pub invariant-loop-i : goal.invariant-loop-i
invariant-loop-i l =
    first_from (λ p. list_all (lin_rel_true (values_of l.variables)) p.guard) l.i (drop l.i l.paths) ≡ taken_path (values_of l.variables)
    l.paths
