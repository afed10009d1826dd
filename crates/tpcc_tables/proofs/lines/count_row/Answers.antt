use Rattle.std.proofs.Common.{◌≡◌, rules, ap, ◌∙◌, arith}
use Rattle.tpcc_tables.specs.Conditions.{order_key}
use Rattle.tpcc_tables.specs.Lines.{lines_in}
use Rattle.tpcc_tables.proofs.LineFacts.{one_more}
use Rattle.tpcc_tables.proofs.lines.count_row.Goals as goal

pub overflow_add-count : goal.overflow_add-count
overflow_add-count c =
    let order : c.order_of-order.result ≡ order_key c.args.row.now.key.parts = c.order_of-order.ensures ∙ ap order_key c.as_slice.ensures in
    let count : c.count_at-count.result ≡ lines_in c.args.counts.now (order_key c.args.row.now.key.parts) =
    c.count_at-count.ensures ∙ ap (lines_in c.args.counts.now) order in
    omega (arith, count, c.requires)

pub returns : goal.returns
returns c =
    let order : c.order_of-order.result ≡ order_key c.args.row.now.key.parts = c.order_of-order.ensures ∙ ap order_key c.as_slice.ensures in
    let its : c.args.row.now.table ≡ c.args.line = search rules in
    one_more c.args.line c.args.row.now c.args.counts.now c.insert.new.self c.order_of-order.result c.count_at-count.result order
    c.count_at-count.ensures its c.in_ok-insert.ensures.updates
