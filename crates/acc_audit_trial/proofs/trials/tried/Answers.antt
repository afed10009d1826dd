use Rattle.std.proofs.Common.{◌≡◌, rules}
use Rattle.acc_audit_trial.specs.declared.trials.Trial.{Trial}
use Rattle.acc_audit_trial.specs.declared.trials.Trial.TheVariants as trial
use Rattle.acc_audit_trial.specs.Trials.{trial_of}
use Rattle.acc_audit_trial.proofs.Truths.{answer_tells}
use Rattle.acc_audit_trial.proofs.trials.tried.Goals as goal

pub returns-then-met-clause-truth : goal.returns-then-met-clause-truth
returns-then-met-clause-truth g c =
    let db = g.S.Store.rows c.args.s.now in
    let is : c.told_by.result ≡ trial_of db c.args.values.now c.args.clause.now = search rules in
    answer_tells db c.args.values.now c.args.clause.now c.told_by.result is

pub returns-else-met-clause-truth : goal.returns-else-met-clause-truth
returns-else-met-clause-truth g c =
    let db = g.S.Store.rows c.args.s.now in
    let is : trial.Holds ≡ trial_of db c.args.values.now c.args.clause.now = search rules in
    answer_tells db c.args.values.now c.args.clause.now trial.Holds is
