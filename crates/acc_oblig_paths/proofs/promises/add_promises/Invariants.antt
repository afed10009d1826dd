use Rattle.std.proofs.Common.{◌-◌}
use Rattle.acc_base.specs.declared.bounds.TheConstants.{MOST_CLAUSES}
use Rattle.acc_oblig.specs.Drafts.{each_path, each_number}
use Rattle.acc_oblig.specs.PathPromises.{promise_at, promise_drafts}
use Rattle.acc_oblig_clauses.proofs.Going.{Going}
use Rattle.acc_oblig_paths.proofs.promises.add_promises.Given as goal

abbrev pub invariant-loop-k : goal.invariant-loop-k
invariant-loop-k l =
    Going l.fn.out l.out (each_number l.k (MOST_CLAUSES - l.k) (λ k. each_path l.d (promise_at l.d k))) (promise_drafts l.d)
