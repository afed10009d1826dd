use Rattle.std.proofs.Common.{◌≡◌, sym, ap, false, Some, None, if◌then◌else◌}
use Rattle.std.specs.List.{list_all}
use Rattle.acc_base.specs.Numbers.{is_small}
use Rattle.acc_base.specs.Linear.{lin_value, lin_values}
use Rattle.acc_step.specs.Variables.{values_of}
use Rattle.acc_step.proofs.Keys.{test_of_none, list_all-fails}
use Rattle.acc_step.proofs.values.linears_in_range.Goals as goal

pub returns-in-None : goal.returns-in-None
returns-in-None g c =
    let env = values_of c.args.variables.now in
    let x = lin_value env c.l-item.result in
    let e : is_small x ≡ false = test_of_none (is_small x) x c.linear_in_range.result c.linear_in_range.ensures c.in-None.is in
    let fails : list_all is_small (lin_values env c.args.ls.now) ≡ false =
    list_all-fails (lin_value env) is_small c.args.ls.now c.loop-l.l-index c.l-item.result c.loop-l-test.true c.l-item.is e in
    sym (ap (λ b. if b then Some (lin_values env c.args.ls.now) else None) fails)
