use Rattle.std.proofs.Common.{◌≡◌, ◌++◌, drop, map}
use Rattle.acc_proof.specs.Facts.{all_shown}
use Rattle.acc_instanced.specs.Instances.{fact_at}
use Rattle.acc_proof.proofs.checks.guards_shown.Given as goal

abbrev pub invariant-loop-guard : goal.invariant-loop-guard
invariant-loop-guard l =
    record {
      same : l.more.items ≡ l.fn.more.items;
      value : all_shown (l.first ++ l.fn.more.items) (map (fact_at l.n l.own) (drop l.guard-index l.guards)) l.left
          ≡ all_shown (l.first ++ l.fn.more.items) (map (fact_at l.n l.own) l.guards) l.multipliers;
    }
