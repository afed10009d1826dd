use Rattle.std.proofs.Common.{length}
use Rattle.std.proofs.lemmas.Result.{err_from_is_err_and}
use Rattle.acc_script.proofs.CallSteps.{no_call}
use Rattle.acc_script.proofs.Refusals.{handed_on}
use Rattle.acc_script.proofs.scripts.push_call.Goals as goal

pub returns-in_err-call-clause-refused : goal.returns-in_err-call-clause-refused
returns-in_err-call-clause-refused c =
    let p = err_from_is_err_and c.from_residual.result c.from_residual.ensures.1 in
    λ h. no_call c.args.d.now c.args.line.now (length c.args.calls.now)
    (c.in_err-call.ensures.refused (handed_on c.from_residual.result p.0 c.in_err-call.field-0.0 p.1 p.2 h))
