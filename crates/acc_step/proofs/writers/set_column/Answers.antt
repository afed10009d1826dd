use Rattle.std.proofs.Common.{◌≡◌, rules, FitsSigned, w64, ◌∙◌, ap}
use Rattle.std.proofs.lemmas.Int.{to_z-of_z}
use Rattle.acc_base.specs.Tables.{Place}
use Rattle.acc_store.specs.Rows.{written}
use Rattle.acc_step.specs.Overlay.{columns_at, set_of, with_write}
use Rattle.acc_step.specs.Changing.{place_at}
use Rattle.acc_step.proofs.ChangeWrites.{set_changed}
use Rattle.acc_step.proofs.Results.{on_ok}
use Rattle.acc_step.proofs.writers.set_column.Goals as goal

pub returns-clause-rows : goal.returns-clause-rows
returns-clause-rows g c =
    let p : Place = place_at c.args.key.now in
    let db = g.S.Store.rows c.args.s.now in
    let ws = c.args.writes.now.items in
    let fits : FitsSigned w64 c.args.value = search rules in
    let w : c.in_ok-write.write ≡ set_of p c.args.col c.args.value (columns_at p (written ws db)) =
    c.in_ok-write.ensures.value ∙ (λ i. set_of p c.args.col (to_z-of_z w64 c.args.value fits i)
    (columns_at p (written (c.as_slice.ensures.value i) db))) in
    on_ok c.push_if.result (λ e. set_changed p ws c.push_if.new.writes.items db c.args.col c.args.value c.requires.order
    (e ∙ ap (with_write ws) w)) c.push_if.ensures.value
