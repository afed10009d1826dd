use Rattle.std.proofs.Common.{◌≡◌, rules, ap, ◌∙◌, ℤ, pos, ◌-ℤ◌, ◌+ℤ◌, FitsSigned, w64, List}
use Rattle.std.specs.Int.{w128}
use Rattle.std.specs.Ordering.{int_eq}
use Rattle.std.proofs.lemmas.Int.{to_z-of_z}
use Rattle.acc_base.specs.Tables.{count_of, greatest_of, least_of}
use Rattle.tpcc_tables.proofs.checks.are_all_there.Goals as goal

pub returns : goal.returns
returns c =
    let rows = c.args.rows.now in
    let t = c.args.table in
    let key = c.args.row.now.key.parts in
    let least_fits : FitsSigned w64 c.least_under-least.result = search rules in
    let greatest_fits : FitsSigned w64 c.greatest_under-greatest.result = search rules in
    let span_fits : FitsSigned w128 c.span.result = search rules in
    let least = to_z-of_z w64 c.least_under-least.result least_fits
    ∙ (c.least_under-least.ensures ∙ ap (λ (k : List ℤ). least_of rows t k) c.as_slice-key.ensures) in
    let greatest = to_z-of_z w64 c.greatest_under-greatest.result greatest_fits
    ∙ (c.greatest_under-greatest.ensures ∙ ap (λ (k : List ℤ). greatest_of rows t k) c.as_slice-key.ensures) in
    let count = c.count_under.ensures ∙ ap (λ (k : List ℤ). count_of rows t k) c.as_slice-key.ensures in
    let span : c.span.result ≡ (greatest_of rows t key -ℤ least_of rows t key) +ℤ pos 1 =
    c.span.ensures ∙ (λ i. (greatest i -ℤ least i) +ℤ pos 1) in
    c.is_count.ensures ∙ ap (λ (x : ℤ). int_eq x (pos c.count_under.result)) (to_z-of_z w128 c.span.result span_fits)
    ∙ (λ i. int_eq (span i) (count i))
