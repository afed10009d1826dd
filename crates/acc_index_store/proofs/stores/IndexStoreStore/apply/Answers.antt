use Rattle.std.proofs.Common.{◌≡◌, ◌≤◌, ◌∙◌, ◌++◌, length, take, drop, sym, subst, arith}
use Rattle.std.proofs.lemmas.List.{take-append-le, take_all}
use Rattle.acc_index_store.specs.Indexes.{AreIndexes}
use Rattle.acc_index_store.proofs.stores.IndexStoreStore.apply.Goals as goal

pub apply_writes-requires-clause-totals : goal.apply_writes-requires-clause-totals
apply_writes-requires-clause-totals c = subst (AreIndexes c.self.inside.rows) (sym c.deref_mut.ensures.value) c.self.invariant.2

-- the slice of the indexes is as long as before
pub invariant_of-self : goal.invariant_of-self
invariant_of-self c =
    let new = c.apply_writes.new.indexes in
    let n = c.self.inside.indexes.len in
    let rest = drop (length new) c.self.inside.indexes.items in
    let long : length new ≡ n = c.apply_writes.auto.indexes ∙ c.deref_mut.ensures.len in
    let within : n ≤ length new = omega arith in
    let whole : length new ≤ n = omega arith in
    let same : take n (new ++ rest) ≡ new = take-append-le n new rest within ∙ take_all n new whole in (
      c.apply_writes.ensures.order,
      c.apply_writes.ensures.sums,
      subst (AreIndexes c.apply_writes.new.rows) (sym same) c.apply_writes.ensures.totals,
    )
