use Rattle.std.proofs.Common.{◌≡◌, rules, ap, ◌∙◌, pos, FitsSigned}
use Rattle.std.specs.Int.{w128}
use Rattle.std.proofs.lemmas.Int.{to_z-of_z}
use Rattle.std.specs.Prelude.{count_by}
use Rattle.std.specs.Ordering.{int_eq}
use Rattle.tpcc_tables.specs.declared.tables.SchemaTable.TheVariants.{OrderLine}
use Rattle.tpcc_tables.specs.Conditions.{is_line_of}
use Rattle.tpcc_tables.specs.Schema.{number_of}
use Rattle.tpcc_tables.proofs.LineFacts.{lines_each}
use Rattle.tpcc_tables.proofs.checks.order_lines.Goals as goal

pub returns : goal.returns
returns c =
    let line = number_of c.args.s.now OrderLine in
    let rows = c.args.rows.now in
    let count : c.lines_of.result ≡ count_by (is_line_of line c.args.row.now.key.parts) rows =
    c.lines_of.ensures ∙ lines_each line rows c.args.counts.now c.as_slice.result.now c.requires
    ∙ ap (λ k. count_by (is_line_of line k) rows) c.as_slice.ensures in
    let fits : FitsSigned w128 c.cell.result = search rules in
    c.is_count.ensures ∙ ap (λ x. int_eq x (pos c.lines_of.result)) (to_z-of_z w128 c.cell.result fits)
    ∙ (λ i. int_eq (c.cell.ensures i) (pos (count i)))
