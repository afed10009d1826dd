use Rattle.std.proofs.Common.{◌<◌, length, arith}
use Rattle.std.proofs.lemmas.List.Elements.{All-set, All-get_or}
use Rattle.acc_index_store.specs.declared.indexes.Index.{Index}
use Rattle.acc_index_store.specs.Indexes.{IsIndexOf, AreNone}
use Rattle.acc_index_store.proofs.Exchanges.{left_more}
use Rattle.acc_index_store.proofs.batches.forget_in_all.Goals as goal

pub loop-index-preserved : goal.loop-index-preserved
loop-index-preserved c =
    let xs = c.loop-index.indexes in
    let i = c.loop-index.index-index in
    let y = c.forget_in.new.index in
    let within : i < length xs = omega (arith, c.loop-index.auto.indexes) in
    record {
      same = λ rows h. let now = c.loop-index.invariant.same rows h in
          All-set (IsIndexOf rows) xs i y (c.forget_in.ensures.same rows (All-get_or (IsIndexOf rows) xs i c.index-item.result within
          now)) now;
      none = left_more (λ (x : Index). AreNone x.kept x.totals.entries) xs i y within c.loop-index.invariant.none;
    }
