use Rattle.std.proofs.Common.{rules, arith, ◌<◌, ◌^◌, length, take}
use Rattle.std.proofs.lemmas.List.{length-take-le}
use Rattle.tpcc_tables.specs.Conditions.{order_key}
use Rattle.tpcc_tables.proofs.LineFacts.{counted_next, few_lines}
use Rattle.tpcc_tables.proofs.lines.count_lines.Goals as goal

pub count_row-requires : goal.count_row-requires
count_row-requires c =
    let rows = c.args.rows.now in
    let i = c.loop-row.row-index in
    let few = few_lines c.args.line (take i rows) c.loop-row.counts (order_key c.row-item.result.key.parts) c.loop-row.invariant in
    let long : length rows < 2 ^ 63 = search rules in
    let here = c.loop-row-test.true in
    let front = length-take-le i rows (omega (arith, here)) in
    omega (arith, few, long, front, here)

pub loop-row-preserved : goal.loop-row-preserved
loop-row-preserved c =
    counted_next c.args.line c.args.rows.now c.loop-row.row-index c.row-item.result c.loop-row.counts c.count_row.new.counts
    c.loop-row-test.true c.row-item.is c.loop-row.invariant c.in_ok-count_row.ensures
