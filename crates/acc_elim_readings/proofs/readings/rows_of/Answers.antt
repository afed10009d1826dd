use Rattle.std.proofs.Common.{arith}
use Rattle.acc_elim_readings.proofs.RowSteps.{row_step, row_stopped, rows_over, match_handed}
use Rattle.acc_elim_readings.proofs.readings.rows_of.Goals as goal

pub loop-rel-preserved : goal.loop-rel-preserved
loop-rel-preserved c =
    let i = c.loop-rel.rel-index in
    record {
      place = omega (arith, c.loop-rel.invariant.place);
      so_far = row_step c.args.names.now c.args.rels.now i _ c.loop-rel.place c.loop-rel.invariant.place c.loop-rel-test.true c.rel-item.is
          c.loop-rel.rows.items _ _ c.loop-rel.invariant.so_far c.in_ok-push_row.ensures;
    }

pub returns-in_err-push_row : goal.returns-in_err-push_row
returns-in_err-push_row c =
    match_handed _ _ _ _ c.from_residual.ensures.1
    (row_stopped c.args.names.now c.args.rels.now c.loop-rel.rel-index _ c.loop-rel.place c.loop-rel.invariant.place c.loop-rel-test.true
    c.rel-item.is c.loop-rel.rows.items _ _ c.loop-rel.invariant.so_far c.in_err-push_row.ensures)

pub returns : goal.returns
returns c =
    rows_over c.args.names.now c.args.rels.now c.loop-rel.rel-index c.loop-rel.rows.items _ c.loop-rel-test.false
    c.loop-rel.invariant.so_far
