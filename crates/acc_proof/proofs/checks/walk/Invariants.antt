use Rattle.std.proofs.Common.{◌≡◌, ◌++◌, ◌∷◌, [], drop, reverse, length}
use Rattle.acc_proof.specs.Proofs.{walked}
use Rattle.acc_proof.specs.Opened.{opened, AreNested}
use Rattle.acc_proof.proofs.checks.walk.Given as goal

abbrev pub invariant-loop-node : goal.invariant-loop-node
invariant-loop-node l =
    record {
      number : l.number ≡ l.node-index;
      nested : AreNested (length l.more.items) (reverse l.open.items);
      same : walked l.design l.sequent l.node-index (drop l.node-index l.nodes) (opened l.sequent.rels l.more.items (reverse l.open.items))
          ≡ walked l.design l.sequent 0 l.nodes ((l.sequent.rels ++ l.fn.goal ∷ []) ∷ []);
    }
