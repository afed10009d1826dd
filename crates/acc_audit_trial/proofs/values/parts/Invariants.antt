use Rattle.std.proofs.Common.{◌≡◌, take, true}
use Rattle.std.specs.List.{list_all}
use Rattle.acc_base.specs.Numbers.{is_small}
use Rattle.acc_base.specs.Linear.{lin_values}
use Rattle.acc_audit_trial.proofs.values.parts.Given as goal

abbrev pub invariant-loop-l : goal.invariant-loop-l
invariant-loop-l l =
    record {
      values : l.parts ≡ lin_values l.values (take l.l-index l.key);
      small : list_all is_small (lin_values l.values (take l.l-index l.key)) ≡ true;
    }
