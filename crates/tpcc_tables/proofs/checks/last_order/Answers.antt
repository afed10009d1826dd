use Rattle.std.proofs.Common.{◌≡◌, ap, ◌∙◌, ℕ, pos, ◌-ℤ◌}
use Rattle.std.specs.Ordering.{int_eq}
use Rattle.acc_base.specs.Tables.{cell, count_of, greatest_of}
use Rattle.tpcc_tables.specs.declared.columns.TheConstants.{NEXT_ORDER}
use Rattle.tpcc_tables.specs.declared.tables.SchemaTable.TheVariants.{NewOrder, Orders}
use Rattle.tpcc_tables.specs.Schema.{number_of}
use Rattle.tpcc_tables.proofs.Choices.{by_first, by_second}
use Rattle.tpcc_tables.proofs.checks.last_order.Goals as goal

pub returns-then-is_empty : goal.returns-then-is_empty
returns-then-is_empty c =
    let s = c.args.s.now in
    let rows = c.args.rows.now in
    let row = c.args.row.now in
    let last = λ (t : ℕ). int_eq (cell NEXT_ORDER row -ℤ pos 1) (greatest_of rows t row.key.parts) in
    let none = λ (t : ℕ). int_eq (count_of rows t row.key.parts) (pos 0) in
    by_first c.is_last.result c.is_empty.result (last (number_of s Orders)) (none (number_of s NewOrder)) (last (number_of s NewOrder))
    (c.is_last.ensures ∙ ap last c.number.ensures) c.if-is_last.true (c.is_empty.ensures ∙ ap none c.number-waiting.ensures)
    c.if-is_empty.true

pub returns-else-is_empty : goal.returns-else-is_empty
returns-else-is_empty c =
    let s = c.args.s.now in
    let rows = c.args.rows.now in
    let row = c.args.row.now in
    let last = λ (t : ℕ). int_eq (cell NEXT_ORDER row -ℤ pos 1) (greatest_of rows t row.key.parts) in
    let none = λ (t : ℕ). int_eq (count_of rows t row.key.parts) (pos 0) in
    by_second c.is_last.result c.is_empty.result c.is_last-else-is_empty.result (last (number_of s Orders)) (none (number_of s NewOrder))
    (last (number_of s NewOrder)) (c.is_last.ensures ∙ ap last c.number.ensures) c.if-is_last.true
    (c.is_empty.ensures ∙ ap none c.number-waiting.ensures) c.if-is_empty.false
    (c.is_last-else-is_empty.ensures ∙ ap last c.number-waiting.ensures)
