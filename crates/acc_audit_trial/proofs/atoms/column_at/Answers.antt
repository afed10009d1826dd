use Rattle.std.proofs.Common.{◌≡◌, false}
use Rattle.std.specs.List.{list_all}
use Rattle.acc_base.specs.Numbers.{is_small}
use Rattle.acc_base.specs.Linear.{lin_values}
use Rattle.acc_step.proofs.Keys.{test_of_none}
use Rattle.acc_audit_trial.proofs.Far.{far_column}
use Rattle.acc_audit_trial.proofs.atoms.column_at.Goals as goal

pub returns-in-None : goal.returns-in-None
returns-in-None g c =
    let k = lin_values c.args.values.now c.args.key.now in
    let far : list_all is_small k ≡ false = test_of_none (list_all is_small k) k c.parts.result c.parts.ensures c.in-None.is in
    far_column c.args.table k far (g.S.Store.rows c.args.s.now) c.args.col c.requires.keyed
