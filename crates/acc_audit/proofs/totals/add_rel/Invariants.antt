use Rattle.std.proofs.Common.{take}
use Rattle.std.specs.List.{list_any}
use Rattle.acc_index_store.specs.Asked.{Adds}
use Rattle.acc_audit.specs.Totals.{total_in_term}
use Rattle.acc_audit.proofs.totals.add_rel.Given as goal

abbrev pub invariant-loop-term : goal.invariant-loop-term
invariant-loop-term l = Adds (λ k. list_any (total_in_term k) (take l.term-index l.term-items)) l.fn.kept.items l.kept.items
