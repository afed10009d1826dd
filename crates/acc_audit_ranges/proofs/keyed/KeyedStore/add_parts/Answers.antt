use Rattle.std.proofs.Common.{◌≡◌, ℤ, sym, ap, ◌∙◌}
use Rattle.std.specs.Prelude.{nat_le, option_copied}
use Rattle.acc_audit_ranges.specs.Ranges.{Adds, parts_have}
use Rattle.acc_audit_ranges.specs.Parts.{number, number_in}
use Rattle.acc_audit_ranges.proofs.Adding.{adds_none, adds_like}
use Rattle.acc_audit_ranges.proofs.Giving.{on_ok, told_all}
use Rattle.acc_audit_ranges.proofs.keyed.KeyedStore.add_parts.Goals as goal

pub returns-in-Some : goal.returns-in-Some
returns-in-Some g c =
    let db = g.S.Store.rows c.self.inside.rows in
    let t = c.args.table in
    let j = c.args.place in
    let counted = c.in-Some.counted.now in
    let have : (q : ℤ) → nat_le 1 (number counted q) ≡ parts_have c.args.self.now t j q = λ q.
    ap (λ o. nat_le 1 (number_in o q)) (sym (sym c.get.ensures.value ∙ ap option_copied c.in-Some.is))
    ∙ told_all c.self.inside.noted db t j q c.self.invariant.0 (c.self.invariant.1 c.if-not-self.false)
    ∙ ap (λ rows. parts_have rows t j q) c.self.view_is in
    on_ok (Adds (λ q. nat_le 1 (number counted q)) c.args.values.now c.add_values.new.values) (Adds (parts_have c.args.self.now t j) c.args.values.now c.add_values.new.values)
    (adds_like (λ q. nat_le 1 (number counted q)) (parts_have c.args.self.now t j) c.args.values.now c.add_values.new.values have)
    c.add_values.result c.add_values.ensures

pub returns-in-None : goal.returns-in-None
returns-in-None g c =
    let db = g.S.Store.rows c.self.inside.rows in
    let t = c.args.table in
    let j = c.args.place in
    adds_none (parts_have c.args.self.now t j) c.args.values.now
    (λ q.
    sym (ap (λ o. nat_le 1 (number_in o q)) (ap option_copied (sym c.in-None.is) ∙ c.get.ensures.value)
    ∙ told_all c.self.inside.noted db t j q c.self.invariant.0 (c.self.invariant.1 c.if-not-self.false)
    ∙ ap (λ rows. parts_have rows t j q) c.self.view_is))
