use Rattle.std.proofs.Common.{[], ◌∷◌, ◌++◌, ap, ◌∙◌}
use Rattle.acc_base.specs.declared.forms.Lin.{Lin}
use Rattle.acc_oblig_clauses.proofs.Counted.{grown_by}
use Rattle.acc_oblig_points.proofs.CountedVariables.{alone_more}
use Rattle.acc_oblig_points.proofs.clears.add_alone.Goals as goal

pub loop-i-preserved : goal.loop-i-preserved
loop-i-preserved c =
    grown_by _ _ _ _ _ _ c.loop-i.invariant
    (c.in_ok-push.ensures.ok ∙ ap (λ (l : Lin). c.loop-i.out ++ l ∷ []) c.in_ok-alone.ensures) (alone_more c.args.from c.loop-i.i)
