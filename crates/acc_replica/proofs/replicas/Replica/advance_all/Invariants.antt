use Rattle.std.proofs.Common.{◌≡◌, List, ℕ, length, Some}
use Rattle.acc_replica.specs.declared.errors.ReplicaError.{ReplicaError}
use Rattle.acc_replica.specs.Replicas.{Follows}
use Rattle.acc_replica.proofs.replicas.Replica.advance_all.Given as goal

-- it follows what was fed, and where it was refused it is as it was
abbrev pub invariant-loop : goal.invariant-loop
invariant-loop g l = record {
  follows : (fed : List ℕ) → Follows fed l.fn.self → Follows fed l.self;
  refused : (error : ReplicaError) → l.fn.self.refused ≡ Some error → l.self ≡ l.fn.self;
  design : l.self.design ≡ l.fn.self.design;
}

abbrev pub decreases-loop : goal.decreases-loop
decreases-loop g l = length l.self.stream.waiting
