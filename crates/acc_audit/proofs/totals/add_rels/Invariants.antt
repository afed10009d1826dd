use Rattle.std.proofs.Common.{take}
use Rattle.std.specs.List.{list_any}
use Rattle.acc_index_store.specs.Asked.{Adds}
use Rattle.acc_audit.specs.Totals.{total_in_rel}
use Rattle.acc_audit.proofs.totals.add_rels.Given as goal

abbrev pub invariant-loop-rel : goal.invariant-loop-rel
invariant-loop-rel l = Adds (λ k. list_any (total_in_rel k) (take l.rel-index l.rels)) l.fn.kept.items l.kept.items
