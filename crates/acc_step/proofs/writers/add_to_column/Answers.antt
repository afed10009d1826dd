use Rattle.std.proofs.Common.{◌≡◌, rules, FitsSigned, w64, ◌∙◌, ap, Some, None, Err}
use Rattle.std.proofs.lemmas.Int.{to_z-of_z}
use Rattle.acc_base.specs.Tables.{Place}
use Rattle.acc_store.specs.Rows.{written}
use Rattle.acc_step.specs.declared.errors.StepError.TheVariants.{Range}
use Rattle.acc_step.specs.Overlay.{columns_at, add_of}
use Rattle.acc_step.specs.Changing.{place_at}
use Rattle.acc_step.proofs.ChangeWrites.{add_changed, add_may, add_barred}
use Rattle.acc_step.proofs.Results.{error_is}
use Rattle.acc_step.proofs.writers.add_to_column.Goals as goal

pub returns-in_err-write-clause-range : goal.returns-in_err-write-clause-range
returns-in_err-write-clause-range g c = λ h.
    let p : Place = place_at c.args.key.now in
    let db = g.S.Store.rows c.args.s.now in
    let ws = c.args.writes.now.items in
    let e = error_is c.from_residual.result c.in_err-write.field-0.0 Range c.from_residual.ensures.1 h in
    let fits : FitsSigned w64 c.args.more = search rules in
    let none : None ≡ add_of c.args.side p c.args.col c.args.more (columns_at p (written ws db)) =
    c.add_write.ensures.range (c.in_err-write.was ∙ ap Err e) ∙
    (λ i. add_of c.args.side p c.args.col (to_z-of_z w64 c.args.more fits i) (columns_at p (written (c.as_slice.ensures.value i) db)))
    in
    add_barred p ws ws db c.args.side c.args.col c.args.more none

pub returns-clause-rows : goal.returns-clause-rows
returns-clause-rows g c =
    let p : Place = place_at c.args.key.now in
    let db = g.S.Store.rows c.args.s.now in
    let ws = c.args.writes.now.items in
    let fits : FitsSigned w64 c.args.more = search rules in
    let w : Some c.in_ok-write.write ≡ add_of c.args.side p c.args.col c.args.more (columns_at p (written ws db)) =
    c.in_ok-write.ensures.value ∙ (λ i. add_of c.args.side p c.args.col (to_z-of_z w64 c.args.more fits i)
    (columns_at p (written (c.as_slice.ensures.value i) db))) in
    add_changed p ws c.push_if.new.writes.items db c.args.side c.args.col c.args.more c.in_ok-write.write c.requires.order w
    c.in_ok-push_if.ensures.value

pub returns-clause-may : goal.returns-clause-may
returns-clause-may g c =
    let p : Place = place_at c.args.key.now in
    let db = g.S.Store.rows c.args.s.now in
    let ws = c.args.writes.now.items in
    let fits : FitsSigned w64 c.args.more = search rules in
    let w : Some c.in_ok-write.write ≡ add_of c.args.side p c.args.col c.args.more (columns_at p (written ws db)) =
    c.in_ok-write.ensures.value ∙ (λ i. add_of c.args.side p c.args.col (to_z-of_z w64 c.args.more fits i)
    (columns_at p (written (c.as_slice.ensures.value i) db))) in
    add_may p ws ws db c.args.side c.args.col c.args.more c.in_ok-write.write w
