use Rattle.std.proofs.Common.{◌∙◌, ap}
use Rattle.std.specs.List.{list_all}
use Rattle.acc_base.specs.Numbers.{is_small}
use Rattle.acc_step.specs.Variables.{values_of}
use Rattle.acc_base.specs.Actions.{action_numbers}
use Rattle.acc_store.specs.Rows.{written}
use Rattle.acc_step.specs.Changing.{change_of, changed}
use Rattle.acc_step.proofs.ActionSteps.{changed_is}
use Rattle.acc_step.proofs.Results.{on_ok}
use Rattle.acc_step.proofs.Keys.{test_of_some}
use Rattle.acc_step.proofs.actions.act.Goals as goal

pub returns-in-Some-clause-rows : goal.returns-in-Some-clause-rows
returns-in-Some-clause-rows g c =
    let env = values_of c.args.variables.now in
    let a = c.args.action.now in
    let rows = written c.args.writes.now.items (g.S.Store.rows c.args.s.now) in
    let change = test_of_some (list_all is_small (action_numbers env a)) (change_of env a) c.in-Some.change c.evaluated.result
    c.evaluated.ensures c.in-Some.is in
    on_ok c.make_change.result (λ e. e ∙ ap (λ x. changed x rows) change.1 ∙ changed_is env a rows) c.make_change.ensures.rows
