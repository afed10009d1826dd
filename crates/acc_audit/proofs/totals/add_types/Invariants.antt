use Rattle.std.proofs.Common.{take}
use Rattle.std.specs.List.{list_any}
use Rattle.acc_index_store.specs.Asked.{Adds}
use Rattle.acc_audit.specs.Totals.{total_in_type}
use Rattle.acc_audit.proofs.totals.add_types.Given as goal

abbrev pub invariant-loop-ty : goal.invariant-loop-ty
invariant-loop-ty l = Adds (λ k. list_any (total_in_type k) (take l.ty-index l.types)) l.fn.kept.items l.kept.items
