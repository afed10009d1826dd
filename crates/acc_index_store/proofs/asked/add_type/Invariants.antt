use Rattle.std.proofs.Common.{take}
use Rattle.std.specs.List.{list_any}
use Rattle.acc_index_store.specs.Asked.{point_asks, Adds}
use Rattle.acc_index_store.proofs.asked.add_type.Given as goal

abbrev pub invariant-loop-point : goal.invariant-loop-point
invariant-loop-point l = Adds (λ k. list_any (point_asks k) (take l.point-index l.point-items)) l.fn.kept.items l.kept.items
