use Rattle.std.proofs.Common.{◌≡◌, sym, ap, false, Some, None, if◌then◌else◌}
use Rattle.std.specs.List.{list_all}
use Rattle.acc_base.specs.Numbers.{is_small}
use Rattle.acc_base.specs.Linear.{lin_value, lin_values}
use Rattle.acc_step.proofs.Keys.{test_of_none, list_all-fails}
use Rattle.acc_audit_trial.proofs.values.parts.Goals as goal

pub returns-in-None : goal.returns-in-None
returns-in-None c =
    let env = c.args.values.now in
    let x = lin_value env c.l-item.result in
    let e : is_small x ≡ false = test_of_none (is_small x) x c.part.result c.part.ensures c.in-None.is in
    let fails : list_all is_small (lin_values env c.args.key.now) ≡ false =
    list_all-fails (lin_value env) is_small c.args.key.now c.loop-l.l-index c.l-item.result c.loop-l-test.true c.l-item.is e in
    sym (ap (λ b. if b then Some (lin_values env c.args.key.now) else None) fails)
