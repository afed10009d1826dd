use Rattle.std.proofs.Common.{◌≡◌, ◌++◌, drop, map}
use Rattle.std.specs.List.{list_any}
use Rattle.acc_instanced.specs.Instances.{lin_at, is_lin_long}
use Rattle.acc_instances.proofs.values.lins_at.Given as goal

abbrev pub invariant-loop-l : goal.invariant-loop-l
invariant-loop-l l =
    record {
      value : l.list ++ map (lin_at l.n l.own) (drop l.l-index l.ls) ≡ map (lin_at l.n l.own) l.ls;
      wide : list_any (is_lin_long l.n l.own) (drop l.l-index l.ls) ≡ list_any (is_lin_long l.n l.own) l.ls;
    }
