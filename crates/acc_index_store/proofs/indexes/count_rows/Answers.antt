use Rattle.std.proofs.Common.{◌∙◌, sym, ap, subst}
use Rattle.std.specs.Prelude.{filter}
use Rattle.std.proofs.lemmas.List.{take_all}
use Rattle.acc_index_store.specs.Indexes.{AreTotals, is_counted}
use Rattle.acc_index_store.proofs.Batch.{counted_first, counted_last}
use Rattle.acc_index_store.proofs.Rooms.{rooms_kept}
use Rattle.acc_index_store.proofs.indexes.count_rows.Goals as goal

pub loop-i-init : goal.loop-i-init
loop-i-init c =
    record {
      totals = subst (λ rows. AreTotals c.args.kept rows c.args.totals.now.entries)
          (sym (counted_first c.args.way c.args.writes.now c.args.rows.now)) c.requires.totals;
      room = c.requires.room;
    }

pub loop-i-preserved : goal.loop-i-preserved
loop-i-preserved c =
    record {
      totals = c.count_next.ensures.totals;
      room = rooms_kept c.args.kept c.loop-i.totals.entries c.count_next.new.totals.entries c.count_next.ensures.kept c.args.writes.now
          c.loop-i.invariant.room;
    }

pub returns : goal.returns
returns c =
    let way = c.args.way in
    let ws = c.args.writes.now in
    let rows = c.args.rows.now in
    let all = take_all c.loop-i.i ws c.loop-i-test.false in
    record {
      totals = subst (λ xs. AreTotals c.args.kept xs c.loop-i.totals.entries)
          (ap (λ done. filter (is_counted way ws done) rows) all ∙ counted_last way ws rows) c.loop-i.invariant.totals;
      room = c.loop-i.invariant.room;
    }
