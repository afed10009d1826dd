use Rattle.std.proofs.Common.{drop}
use Rattle.acc_oblig.specs.Drafts.{each_from, each_path}
use Rattle.acc_oblig.specs.PathPromises.{always_at, always_drafts}
use Rattle.acc_oblig_clauses.proofs.Going.{Going}
use Rattle.acc_oblig_paths.proofs.always.add_always.Given as goal

abbrev pub invariant-loop-k : goal.invariant-loop-k
invariant-loop-k l =
    Going l.fn.out l.out (each_from l.k (λ k c. each_path l.d (always_at l.d k c)) (drop l.k l.clauses)) (always_drafts l.d)
