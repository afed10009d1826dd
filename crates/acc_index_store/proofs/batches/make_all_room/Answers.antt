use Rattle.std.proofs.Common.{◌<◌, ◌≤◌, length, arith}
use Rattle.std.proofs.lemmas.List.Elements.{All-set, All-get_or}
use Rattle.acc_index_store.specs.declared.indexes.Index.{Index}
use Rattle.acc_index_store.specs.Indexes.{IsIndexOf, HaveRoom}
use Rattle.acc_index_store.proofs.Exchanges.{done_more, all_done}
use Rattle.acc_index_store.proofs.batches.make_all_room.Goals as goal

pub returns-in_err-make_room_in-clause-same : goal.returns-in_err-make_room_in-clause-same
returns-in_err-make_room_in-clause-same c = λ rows h.
    let xs = c.loop-index.indexes in
    let i = c.loop-index.index-index in
    let within : i < length xs = omega (arith, c.loop-index.auto.indexes) in
    let now = c.loop-index.invariant.same rows h in
    All-set (IsIndexOf rows) xs i c.make_room_in.new.index
    (c.make_room_in.ensures.same rows (All-get_or (IsIndexOf rows) xs i c.index-item.result within now)) now

pub loop-index-preserved : goal.loop-index-preserved
loop-index-preserved c =
    let xs = c.loop-index.indexes in
    let i = c.loop-index.index-index in
    let y = c.make_room_in.new.index in
    let within : i < length xs = omega (arith, c.loop-index.auto.indexes) in
    record {
      same = λ rows h. let now = c.loop-index.invariant.same rows h in
          All-set (IsIndexOf rows) xs i y (c.make_room_in.ensures.same rows (All-get_or (IsIndexOf rows) xs i c.index-item.result within
          now)) now;
      room = done_more (λ (x : Index). HaveRoom x.kept c.args.writes.now x.totals.entries) xs i y within c.loop-index.invariant.room
          c.in_ok-make_room_in.ensures.room;
    }

pub returns-clause-room : goal.returns-clause-room
returns-clause-room c =
    let xs = c.loop-index.indexes in
    let whole : length xs ≤ c.loop-index.index-index = omega (arith, c.loop-index.auto.indexes) in
    all_done (λ (x : Index). HaveRoom x.kept c.args.writes.now x.totals.entries) xs c.loop-index.index-index whole
    c.loop-index.invariant.room
