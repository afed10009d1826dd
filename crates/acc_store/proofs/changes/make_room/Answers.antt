use Rattle.std.proofs.Common.{◌∙◌, sym, ap, take, ◌+◌}
use Rattle.std.specs.Cmp.Derive.{both_true}
use Rattle.std.proofs.lemmas.List.Folds.{list_all_more}
use Rattle.acc_store.specs.Rows.{has_room}
use Rattle.acc_store.proofs.Blanks.{blanks_more, blanks_of_first}
use Rattle.acc_store.proofs.Room.{rooms_kept}
use Rattle.acc_store.proofs.changes.make_room.Goals as goal

pub loop-write-preserved : goal.loop-write-preserved
loop-write-preserved c =
    let ws = c.args.writes.now in
    let i = c.loop-write.write-index in
    let es = c.make_room_for.new.entries.entries in
    let e = c.in_ok-make_room_for.ensures in
    let before = rooms_kept c.loop-write.entries.entries es e.kept (take i ws) c.loop-write.invariant.room in
    record {
      rows = e.rows ∙ c.loop-write.invariant.rows;
      room = list_all_more (has_room es) ws i c.write-item.result c.loop-write-test.true ∙ both_true before
          (ap (has_room es) (sym c.write-item.is) ∙ e.room);
      kept = λ p n h. e.kept p n (c.loop-write.invariant.kept p n h);
      up = e.up;
      fit = e.fit;
      blanks = blanks_more ws i c.write-item.result c.loop-write-test.true c.write-item.is c.loop-write.entries.entries es e.blanks
          c.loop-write.invariant.blanks;
    }

pub returns-in_err-make_room_for-clause-blanks : goal.returns-in_err-make_room_for-clause-blanks
returns-in_err-make_room_for-clause-blanks c =
    let ws = c.args.writes.now in
    let i = c.loop-write.write-index in
    let es = c.make_room_for.new.entries.entries in
    blanks_of_first (i + 1) ws es (blanks_more ws i c.write-item.result c.loop-write-test.true c.write-item.is c.loop-write.entries.entries
    es c.make_room_for.ensures.blanks c.loop-write.invariant.blanks)

pub returns-clause-blanks : goal.returns-clause-blanks
returns-clause-blanks c = blanks_of_first c.loop-write.write-index c.args.writes.now c.loop-write.entries.entries
    c.loop-write.invariant.blanks
