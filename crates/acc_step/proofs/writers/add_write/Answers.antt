use Rattle.std.proofs.Common.{◌≡◌, rules, ◌∙◌, ap, sym, subst, ◌≤◌, ◌^◌, FitsSigned, Some}
use Rattle.std.specs.Prelude.{option_copied, unsigned_abs}
use Rattle.std.specs.Int.{w128}
use Rattle.std.proofs.lemmas.Int.{to_z-of_z}
use Rattle.acc_base.specs.Tables.{Place, is_at}
use Rattle.acc_store.specs.Rows.{written}
use Rattle.acc_step.specs.Overlay.{columns_at}
use Rattle.acc_step.specs.Changing.{place_at}
use Rattle.acc_step.proofs.Bounds.{found_within}
use Rattle.acc_step.proofs.writers.add_write.Goals as goal

pub stored_sum-requires : goal.stored_sum-requires
stored_sum-requires g c =
    let p : Place = place_at c.args.key.now in
    let rows = written c.args.writes.now (g.S.Store.rows c.args.s.now) in
    let place : (c.args.key.now.table, c.as_slice.result.now) ≡ p = λ i. (c.args.key.now.table, c.as_slice.ensures.value i) in
    let there : columns_at p rows ≡ Some c.in-Some.cols.now =
    ap (λ q. columns_at q rows) (sym place) ∙ sym c.columns_now.ensures.value ∙ ap option_copied c.in-Some.is in
    let near = found_within (2 ^ 121) (is_at p.0 p.1) rows c.in-Some.cols.now c.args.col c.requires.within there in
    let fits : FitsSigned w128 c.value_at.result = search rules in
    record { near = subst (λ z. unsigned_abs z ≤ 2 ^ 121) (sym (to_z-of_z w128 c.value_at.result fits ∙ c.value_at.ensures)) near }
