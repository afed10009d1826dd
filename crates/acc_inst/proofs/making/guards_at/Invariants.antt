use Rattle.std.proofs.Common.{◌≡◌, ◌++◌, drop, map}
use Rattle.std.specs.List.{list_any}
use Rattle.acc_inst.specs.Making.{rel_at, is_rel_wide}
use Rattle.acc_inst.proofs.making.guards_at.Given as goal

abbrev pub invariant-loop-guard : goal.invariant-loop-guard
invariant-loop-guard l =
    record {
      value : l.list ++ map (rel_at l.n l.own) (drop l.guard-index l.guards) ≡ map (rel_at l.n l.own) l.guards;
      wide : list_any (is_rel_wide l.n l.own) (drop l.guard-index l.guards) ≡ list_any (is_rel_wide l.n l.own) l.guards;
    }
