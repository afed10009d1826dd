use Rattle.std.proofs.Common.{◌≡◌, ◌++◌, take, drop, map}
use Rattle.std.specs.List.{list_any}
use Rattle.acc_oblig.specs.Preconditions.{wp_of, is_wp_wide}
use Rattle.acc_oblig.specs.Naming.{named_rel}
use Rattle.acc_oblig_goals.proofs.clauses.add_rels_after.Given as goal

abbrev pub invariant-loop-r : goal.invariant-loop-r
invariant-loop-r l =
    record {
      value : l.out ≡ l.fn.out ++ map (wp_of l.actions) (map (named_rel l.n) (take l.r-index l.rs));
      wide :
          list_any (is_wp_wide l.actions) (map (named_rel l.n) (drop l.r-index l.rs)) ≡ list_any (is_wp_wide l.actions)
          (map (named_rel l.n) l.rs);
    }
