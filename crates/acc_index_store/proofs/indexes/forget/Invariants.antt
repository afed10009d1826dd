use Rattle.acc_index_store.specs.Totals.{IsSame}
use Rattle.acc_index_store.proofs.indexes.forget.Given as goal

abbrev pub invariant-loop-write : goal.invariant-loop-write
invariant-loop-write l = IsSame l.fn.totals.entries l.totals.entries
