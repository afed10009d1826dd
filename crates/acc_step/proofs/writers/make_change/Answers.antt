use Rattle.std.proofs.Common.{◌∙◌, ap, sym, Some}
use Rattle.acc_store.specs.Rows.{written, row_of}
use Rattle.acc_store.specs.declared.writes.Write.TheVariants.{Row as Puts, Gone}
use Rattle.acc_step.specs.Overlay.{with_write}
use Rattle.acc_step.specs.Changing.{place_at, changed}
use Rattle.acc_step.proofs.ChangeWrites.{write_more}
use Rattle.acc_step.proofs.writers.make_change.Goals as goal

pub returns-in_ok-put_row-in-Put-clause-rows : goal.returns-in_ok-put_row-in-Put-clause-rows
returns-in_ok-put_row-in-Put-clause-rows g c =
    let db = g.S.Store.rows c.args.s.now in
    let ws = c.args.writes.now.items in
    let p = place_at c.in-Put.key in
    let e = c.in_ok-put_row-in-Put.ensures.value ∙ ap (λ xs. with_write ws (Some (Puts (row_of p xs)))) c.as_slice.ensures.value in
    write_more p ws c.put_row.new.writes.items db (Puts (row_of p c.in-Put.columns)) e ∙ ap (λ x. changed x (written ws db))
    (sym c.in-Put.is)

pub returns-in_ok-drop_row-in-Drop-clause-rows : goal.returns-in_ok-drop_row-in-Drop-clause-rows
returns-in_ok-drop_row-in-Drop-clause-rows g c =
    let db = g.S.Store.rows c.args.s.now in
    let ws = c.args.writes.now.items in
    write_more (place_at c.in-Drop.key) ws c.drop_row.new.writes.items db
    (Gone c.in-Drop.key.table (record { parts = c.in-Drop.key.parts })) c.in_ok-drop_row-in-Drop.ensures.value ∙ ap
    (λ x. changed x (written ws db)) (sym c.in-Drop.is)
