use Rattle.std.proofs.Common.{take}
use Rattle.std.specs.List.{list_any}
use Rattle.acc_index_store.specs.Asked.{Adds}
use Rattle.acc_audit.specs.Totals.{total_in_point}
use Rattle.acc_audit.proofs.totals.add_points.Given as goal

abbrev pub invariant-loop-point : goal.invariant-loop-point
invariant-loop-point l = Adds (λ k. list_any (total_in_point k) (take l.point-index l.points)) l.fn.kept.items l.kept.items
