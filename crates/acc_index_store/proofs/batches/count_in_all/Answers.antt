use Rattle.std.proofs.Common.{◌<◌, ◌≤◌, length, arith}
use Rattle.std.proofs.lemmas.List.Elements.{All-set}
use Rattle.acc_index_store.specs.declared.indexes.Index.{Index}
use Rattle.acc_index_store.specs.Indexes.{IsIndexOf, HaveRoom, before, behind}
use Rattle.acc_index_store.proofs.Exchanges.{done_more, left_more, left_first, all_done}
use Rattle.acc_index_store.proofs.batches.count_in_all.Goals as goal

pub count_in-requires-clause-totals : goal.count_in-requires-clause-totals
count_in-requires-clause-totals c =
    let xs = c.loop-index.indexes in
    let i = c.loop-index.index-index in
    let within : i < length xs = omega (arith, c.loop-index.auto.indexes) in
    left_first (IsIndexOf (before c.args.way c.args.writes.now c.args.rows.now)) xs i c.index-item.result within c.loop-index.invariant.left

pub loop-index-preserved : goal.loop-index-preserved
loop-index-preserved c =
    let ws = c.args.writes.now in
    let rows = c.args.rows.now in
    let xs = c.loop-index.indexes in
    let i = c.loop-index.index-index in
    let y = c.count_in.new.index in
    let within : i < length xs = omega (arith, c.loop-index.auto.indexes) in
    record {
      done = done_more (IsIndexOf (behind c.args.way ws rows)) xs i y within c.loop-index.invariant.done c.count_in.ensures.totals;
      left = left_more (IsIndexOf (before c.args.way ws rows)) xs i y within c.loop-index.invariant.left;
      room = All-set (λ (x : Index). HaveRoom x.kept ws x.totals.entries) xs i y c.count_in.ensures.room c.loop-index.invariant.room;
    }

pub returns-clause-totals : goal.returns-clause-totals
returns-clause-totals c =
    let xs = c.loop-index.indexes in
    let whole : length xs ≤ c.loop-index.index-index = omega (arith, c.loop-index.auto.indexes) in
    all_done (IsIndexOf (behind c.args.way c.args.writes.now c.args.rows.now)) xs c.loop-index.index-index whole c.loop-index.invariant.done
