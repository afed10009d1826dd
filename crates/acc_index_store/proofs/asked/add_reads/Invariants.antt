use Rattle.std.proofs.Common.{take}
use Rattle.std.specs.List.{list_any}
use Rattle.acc_index_store.specs.Asked.{asks, Adds}
use Rattle.acc_index_store.proofs.asked.add_reads.Given as goal

abbrev pub invariant-loop-read : goal.invariant-loop-read
invariant-loop-read l = Adds (λ k. list_any (asks k) (take l.read-index l.reads)) l.fn.kept.items l.kept.items
