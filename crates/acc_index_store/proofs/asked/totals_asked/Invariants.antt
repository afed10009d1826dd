use Rattle.std.proofs.Common.{[], take}
use Rattle.std.specs.List.{list_any}
use Rattle.acc_index_store.specs.Asked.{type_asks, Adds}
use Rattle.acc_index_store.proofs.asked.totals_asked.Given as goal

abbrev pub invariant-loop-ty : goal.invariant-loop-ty
invariant-loop-ty l = Adds (λ k. list_any (type_asks k) (take l.ty-index l.ty-items)) [] l.kept.items
