use Rattle.std.proofs.Common.{sym, subst}
use Rattle.acc_base.specs.declared.forms.Form.{Form}
use Rattle.acc_preconditions.specs.Laws.{IsWeakest}
use Rattle.acc_preconditions.proofs.LawTurns.{wp_is_weakest}
use Rattle.acc_wp.proofs.preconditions.wp.Goals as goal

pub returns-clause-law : goal.returns-clause-law
returns-clause-law c =
    subst (λ (f : Form). IsWeakest c.args.actions.now c.args.r.now (record { form = f; equal = c.args.r.now.equal }))
    (sym c.in_ok-form.ensures.value) (wp_is_weakest c.args.actions.now c.args.r.now)
