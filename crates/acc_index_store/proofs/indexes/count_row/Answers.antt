use Rattle.std.proofs.Common.{◌≡◌, ◌∙◌, ap, Some}
use Rattle.std.specs.Prelude.{find, option_map}
use Rattle.acc_base.specs.Tables.{Place, cell, is_at}
use Rattle.acc_index_store.specs.Indexes.{place_written, prefix_at}
use Rattle.acc_index_store.proofs.Shares.{moves_there, moves_none, can_there}
use Rattle.acc_index_store.proofs.indexes.count_row.Goals as goal

pub count_value-requires-clause-fits : goal.count_value-requires-clause-fits
count_value-requires-clause-fits c =
    let k = c.args.kept in
    let rows = c.args.rows.now in
    let q = place_written c.args.write.now in
    let named : (c.place_of-table.result.0, c.place_of-table.result.1.now) ≡ q =
    λ i. (c.place_of-table.ensures.table i, c.place_of-table.ensures.key i) in
    let there : Some c.in-Some.prefix.now ≡ prefix_at k q = c.in-Some.ensures ∙ ap (prefix_at k) named in
    let value : c.value_at.result ≡ option_map (cell k.col) (find (is_at q.0 q.1) rows) =
    c.value_at.ensures ∙ ap (λ (p : Place). option_map (cell k.col) (find (is_at p.0 p.1) rows)) named in
    can_there k q rows c.args.way c.in-Some.prefix.now c.value_at.result c.args.totals.now.entries there value c.requires.fits

pub returns-in-Some-clause-counted : goal.returns-in-Some-clause-counted
returns-in-Some-clause-counted c =
    let k = c.args.kept in
    let rows = c.args.rows.now in
    let q = place_written c.args.write.now in
    let named : (c.place_of-table.result.0, c.place_of-table.result.1.now) ≡ q =
    λ i. (c.place_of-table.ensures.table i, c.place_of-table.ensures.key i) in
    let there : Some c.in-Some.prefix.now ≡ prefix_at k q = c.in-Some.ensures ∙ ap (prefix_at k) named in
    let value : c.value_at.result ≡ option_map (cell k.col) (find (is_at q.0 q.1) rows) =
    c.value_at.ensures ∙ ap (λ (p : Place). option_map (cell k.col) (find (is_at p.0 p.1) rows)) named in
    moves_there k q rows c.args.way c.in-Some.prefix.now c.value_at.result c.args.totals.now.entries c.count_value.new.totals.entries
    there value
    c.count_value.ensures.counted

pub returns-in_default-clause-counted : goal.returns-in_default-clause-counted
returns-in_default-clause-counted c =
    let q = place_written c.args.write.now in
    let named : (c.place_of-table.result.0, c.place_of-table.result.1.now) ≡ q =
    λ i. (c.place_of-table.ensures.table i, c.place_of-table.ensures.key i) in
    moves_none c.args.kept q c.args.rows.now c.args.way c.args.totals.now.entries (c.in_default.ensures ∙ ap (prefix_at c.args.kept) named)
