use Rattle.std.proofs.Common.{drop}
use Rattle.acc_oblig.specs.Drafts.{each, each_from}
use Rattle.acc_oblig_points.specs.OneClause.{empty_clause_drafts}
use Rattle.acc_oblig_clauses.proofs.Going.{Going}
use Rattle.acc_oblig_points.proofs.empty.add_empty.Given as goal

abbrev pub invariant-loop-k : goal.invariant-loop-k
invariant-loop-k l = Going l.fn.out l.out (each_from l.k empty_clause_drafts (drop l.k l.clauses)) (each empty_clause_drafts l.d.always)
