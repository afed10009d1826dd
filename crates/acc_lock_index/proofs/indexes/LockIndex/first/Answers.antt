use Rattle.std.proofs.Common.{◌≡◌, ℕ, ◌∙◌, ap, sym, subst, None}
use Rattle.acc_lock_index.specs.Asks.{Asked, TellsFirst, first_from}
use Rattle.acc_lock_index.specs.Indexed.{StandsFor, Bars, asked_of}
use Rattle.acc_lock_index.proofs.Barring.{first_bars}
use Rattle.acc_lock_index.proofs.indexes.LockIndex.first.Goals as goal

pub returns : goal.returns
returns c = λ frames stand.
    let d = c.args.d.now in
    let t = c.args.t in
    let at = c.args.at in
    let locals = c.args.locals.now in
    let to = c.args.to in
    let to_locals = c.args.to_locals.now in
    let points = c.reached_to-points.result in
    let es = c.self.inside.holders.entries in
    let of_type : ℕ → Asked = λ n. record { at = at; locals = locals; ty = n; points = points; to_locals = to_locals } in
    let asked = asked_of at locals to to_locals points in
    let same : c.new-asked.result ≡ asked = c.new-asked.ensures ∙ ap of_type c.type_of.ensures in
    let found : c.in_ok-first.field-0 ≡ first_from es t asked None 1 d.entries =
    c.in_ok-first.ensures ∙ (ap (λ a. first_from es t a None 1 c.as_slice.result.now) same
    ∙ ap (first_from es t asked None 1) c.as_slice.ensures) in
    subst (TellsFirst (Bars d frames t at locals to to_locals)) (sym found)
    (first_bars d t at locals frames c.self.inside.standings.items es
    (subst (λ v. StandsFor d frames v.standings) (sym c.self.view_is) stand) c.self.invariant.under_keys to to_locals points
    c.reached_to-points.ensures)
