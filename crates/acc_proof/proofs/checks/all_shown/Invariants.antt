use Rattle.std.proofs.Common.{◌≡◌, ◌++◌, drop, map}
use Rattle.acc_proof.specs.Facts.{all_shown}
use Rattle.acc_proof.specs.Proofs.{sure}
use Rattle.acc_proof.proofs.checks.all_shown.Given as goal

abbrev pub invariant-loop-fact : goal.invariant-loop-fact
invariant-loop-fact l =
    record {
      same : l.more.items ≡ l.fn.more.items;
      value : all_shown (l.first ++ l.fn.more.items) (map sure (drop l.fact-index l.facts)) l.left
          ≡ all_shown (l.first ++ l.fn.more.items) (map sure l.facts) l.multipliers;
    }
