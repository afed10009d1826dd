use Rattle.std.proofs.Common.{[], ◌∷◌, ◌++◌, ap, ◌∙◌}
use Rattle.acc_base.specs.declared.forms.Rel.{Rel}
use Rattle.acc_oblig_clauses.proofs.Counted.{grown_by}
use Rattle.acc_oblig_points.proofs.CountedVariables.{zeros_more}
use Rattle.acc_oblig_points.proofs.begins.add_zeros.Goals as goal

pub loop-i-preserved : goal.loop-i-preserved
loop-i-preserved c =
    grown_by _ _ _ _ _ _ c.loop-i.invariant
    (c.in_ok-push.ensures.ok ∙ ap (λ (r : Rel). c.loop-i.out ++ r ∷ []) c.in_ok-is_nothing.ensures) (zeros_more c.args.from c.loop-i.i)
