use Rattle.std.proofs.Common.{◌++◌, ◌∷◌, [], ◌∙◌, ap, subst}
use Rattle.acc_elim_systems.specs.Systems.{IsParted}
use Rattle.acc_rows.proofs.Chains.{leaves_handed}
use Rattle.acc_elim_systems.proofs.SystemSteps.{crossed_stopped, crossed_to}
use Rattle.acc_elim_systems.proofs.systems.cross_out.Goals as goal

pub returns-in_err-state : goal.returns-in_err-state
returns-in_err-state c =
    let is : IsParted c.args.unknown c.args.state.now.rows c.in_ok-without.field-0 =
    subst (λ rs. IsParted c.args.unknown rs c.in_ok-without.field-0) c.replace-rows.ensures.value c.in_ok-without.ensures in
    leaves_handed _ _ _ _ c.from_residual-in_err-state.ensures.1
    (crossed_stopped c.args.unknown c.args.state.now c.in_ok-without.field-0 is _ _ _ c.into_vec-without.ensures c.as_slice.ensures
    c.as_slice-2.ensures _ c.in_err-state.ensures)

pub returns : goal.returns
returns c =
    let is : IsParted c.args.unknown c.args.state.now.rows c.in_ok-without.field-0 =
    subst (λ rs. IsParted c.args.unknown rs c.in_ok-without.field-0) c.replace-rows.ensures.value c.in_ok-without.ensures in
    crossed_to c.args.unknown c.args.state.now c.in_ok-without.field-0 is _ _ _ c.into_vec-without.ensures c.as_slice.ensures
    c.as_slice-2.ensures _ _ c.in_ok-state.ensures
    (c.in_ok-push.ensures.ok ∙ ap (λ rs. c.args.state.now.bounds ++ (c.args.unknown, rs) ∷ []) c.or_else.ensures)
