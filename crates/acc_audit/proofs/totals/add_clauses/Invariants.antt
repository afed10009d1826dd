use Rattle.std.proofs.Common.{take}
use Rattle.std.specs.List.{list_any}
use Rattle.acc_index_store.specs.Asked.{Adds}
use Rattle.acc_audit.specs.Totals.{total_in_clause}
use Rattle.acc_audit.proofs.totals.add_clauses.Given as goal

abbrev pub invariant-loop-clause : goal.invariant-loop-clause
invariant-loop-clause l = Adds (λ k. list_any (total_in_clause k) (take l.clause-index l.clauses)) l.fn.kept.items l.kept.items
