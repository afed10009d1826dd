use Rattle.std.proofs.Common.{◌++◌, ◌∷◌, [], sym, subst}
use Rattle.acc_elim_known.specs.Ends.{IsKnown}
use Rattle.acc_elim_known.proofs.Knowns.{unbegun_with}
use Rattle.acc_elim_known.proofs.known.carry_inequality.Goals as goal

pub returns-in-Unbegun : goal.returns-in-Unbegun
returns-in-Unbegun c = λ rows n is.
    subst (IsKnown (rows ++ c.args.row ∷ []) n) (sym c.in-Unbegun.is)
    (unbegun_with rows c.args.row c.in-Unbegun.field-0 (subst (IsKnown rows n) c.in-Unbegun.is is))
