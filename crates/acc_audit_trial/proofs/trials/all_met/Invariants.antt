use Rattle.std.proofs.Common.{◌≡◌, drop}
use Rattle.acc_audit_trial.specs.Trials.{all_met}
use Rattle.acc_audit_trial.proofs.trials.all_met.Given as goal

abbrev pub invariant-loop-guard : goal.invariant-loop-guard
invariant-loop-guard g l =
    all_met (g.S.Store.rows l.s) l.values (drop l.guard-index l.guards) ≡ all_met (g.S.Store.rows l.s) l.values l.guards
