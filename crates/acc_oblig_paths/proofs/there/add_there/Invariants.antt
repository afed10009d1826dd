use Rattle.std.proofs.Common.{◌-◌}
use Rattle.acc_base.specs.declared.bounds.TheConstants.{MOST_ACTIONS}
use Rattle.acc_oblig.specs.Drafts.{each_path, each_number}
use Rattle.acc_oblig.specs.PathPromises.{there_at, there_drafts}
use Rattle.acc_oblig_clauses.proofs.Going.{Going}
use Rattle.acc_oblig_paths.proofs.there.add_there.Given as goal

abbrev pub invariant-loop-k : goal.invariant-loop-k
invariant-loop-k l =
    Going l.fn.out l.out (each_number l.k (MOST_ACTIONS - l.k) (λ k. each_path l.d (there_at l.d k))) (there_drafts l.d)
