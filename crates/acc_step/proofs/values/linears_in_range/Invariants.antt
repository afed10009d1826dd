use Rattle.std.proofs.Common.{◌≡◌, take, true}
use Rattle.std.specs.List.{list_all}
use Rattle.acc_base.specs.Numbers.{is_small}
use Rattle.acc_base.specs.Linear.{lin_values}
use Rattle.acc_step.specs.Variables.{values_of}
use Rattle.acc_step.proofs.values.linears_in_range.Given as goal

abbrev pub invariant-loop-l : goal.invariant-loop-l
invariant-loop-l g l =
    record {
      values : l.values ≡ lin_values (values_of l.variables) (take l.l-index l.ls);
      small : list_all is_small (lin_values (values_of l.variables) (take l.l-index l.ls)) ≡ true;
    }
