use Rattle.std.proofs.Common.{ℕ, List, [], ◌∷◌, ◌++◌, ap, ◌∙◌}
use Rattle.std.specs.Prelude.{codes}
use Rattle.acc_oblig_clauses.proofs.Counted.{grown_by}
use Rattle.acc_oblig_points.proofs.CountedVariables.{one_more}
use Rattle.acc_oblig_points.proofs.clears.add_own_names.Goals as goal

pub loop-i-preserved : goal.loop-i-preserved
loop-i-preserved c =
    grown_by _ _ _ _ _ _ c.loop-i.invariant
    (c.in_ok-push.ensures.ok ∙ ap (λ (t : List ℕ). c.loop-i.out ++ t ∷ []) c.in_ok-own_name.ensures) (one_more (codes "k") c.loop-i.i)
