use Rattle.std.proofs.Common.{◌≡◌, ap, ◌∙◌, ℕ, pos, ◌-ℤ◌, ◌+ℤ◌, true, refl}
use Rattle.std.specs.Ordering.{int_eq}
use Rattle.acc_base.specs.Tables.{count_of, greatest_of, least_of}
use Rattle.tpcc_tables.specs.declared.tables.SchemaTable.TheVariants.{NewOrder}
use Rattle.tpcc_tables.specs.Schema.{number_of}
use Rattle.tpcc_tables.proofs.Choices.{by_first, by_second}
use Rattle.tpcc_tables.proofs.checks.waiting_orders.Goals as goal

pub returns-then-is_empty : goal.returns-then-is_empty
returns-then-is_empty c =
    let t = number_of c.args.s.now NewOrder in
    let rows = c.args.rows.now in
    let row = c.args.row.now in
    let none = λ (t : ℕ). int_eq (count_of rows t row.key.parts) (pos 0) in
    let all = λ (t : ℕ). int_eq ((greatest_of rows t row.key.parts -ℤ least_of rows t row.key.parts) +ℤ pos 1)
    (count_of rows t row.key.parts) in
    by_first true c.is_empty.result true (none t) (all t) refl refl (c.is_empty.ensures ∙ ap none c.number-waiting.ensures)
    c.if-is_empty.true

pub returns-else-is_empty : goal.returns-else-is_empty
returns-else-is_empty c =
    let t = number_of c.args.s.now NewOrder in
    let rows = c.args.rows.now in
    let row = c.args.row.now in
    let none = λ (t : ℕ). int_eq (count_of rows t row.key.parts) (pos 0) in
    let all = λ (t : ℕ). int_eq ((greatest_of rows t row.key.parts -ℤ least_of rows t row.key.parts) +ℤ pos 1)
    (count_of rows t row.key.parts) in
    by_second true c.is_empty.result c.are_all_there.result true (none t) (all t) refl refl
    (c.is_empty.ensures ∙ ap none c.number-waiting.ensures) c.if-is_empty.false
    (c.are_all_there.ensures ∙ ap all c.number-waiting.ensures)
