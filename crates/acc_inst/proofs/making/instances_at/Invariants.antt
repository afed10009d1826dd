use Rattle.std.proofs.Common.{◌≡◌, ◌++◌, drop, map}
use Rattle.std.specs.List.{list_any}
use Rattle.acc_inst.specs.Making.{instance_of, is_instance_wide}
use Rattle.acc_inst.proofs.making.instances_at.Given as goal

abbrev pub invariant-loop-chosen : goal.invariant-loop-chosen
invariant-loop-chosen l =
    record {
      value : l.made ++ map (instance_of l.sequent) (drop l.chosen-index l.insts) ≡ map (instance_of l.sequent) l.insts;
      wide : list_any (is_instance_wide l.sequent) (drop l.chosen-index l.insts) ≡ list_any (is_instance_wide l.sequent) l.insts;
    }
