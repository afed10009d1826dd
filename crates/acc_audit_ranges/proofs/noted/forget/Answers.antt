use Rattle.std.proofs.Common.{◌≡◌, false, sym, ap, ◌∙◌}
use Rattle.std.specs.List.{list_any}
use Rattle.acc_base.specs.Tables.{is_at}
use Rattle.acc_audit_ranges.proofs.Giving.{covers_without}
use Rattle.acc_audit_ranges.proofs.noted.forget.Goals as goal

pub returns-else-has-clause-covers : goal.returns-else-has-clause-covers
returns-else-has-clause-covers g c =
    let db = g.S.Store.rows c.args.rows.now in
    let p = c.args.place.now in
    let none : list_any (is_at p.0 p.1) db ≡ false =
    ap (λ k. list_any (is_at p.0 k) db) (sym c.as_slice.ensures) ∙ sym c.has.ensures ∙ c.if-has.false in
    covers_without c.args.noted.now.places c.take_out.new.noted.places p db none c.take_out.ensures.gone
