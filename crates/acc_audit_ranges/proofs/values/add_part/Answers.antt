use Rattle.std.proofs.Common.{rules, sym, ap, subst}
use Rattle.std.specs.Prelude.{OnOk, slice_get, FitsSigned}
use Rattle.std.specs.Int.{w64}
use Rattle.std.proofs.lemmas.Int.{to_z-of_z}
use Rattle.acc_base.proofs.Items.{got}
use Rattle.acc_audit_ranges.specs.Ranges.{Adds, is_part, same}
use Rattle.acc_audit_ranges.proofs.Adding.{adds_none, none_past}
use Rattle.acc_audit_ranges.proofs.values.add_part.Goals as goal

pub returns-in-Some : goal.returns-in-Some
returns-in-Some c =
    let part = c.in-Some.part.now in
    let fits : FitsSigned w64 part = search rules in
    let found = got c.args.key.now c.args.place part c.in-Some.ensures.lookup.3.0 c.in-Some.ensures.lookup.1 in
    subst (λ o. OnOk c.add.result (Adds (λ q. is_part q o) c.args.values.now c.add.new.values)) (sym found)
    (subst (λ z. OnOk c.add.result (Adds (same z) c.args.values.now c.add.new.values)) (to_z-of_z w64 part fits) c.add.ensures)

pub returns-in-None : goal.returns-in-None
returns-in-None c =
    adds_none (λ q. is_part q (slice_get c.args.key.now c.args.place)) c.args.values.now
    (λ q. ap (is_part q) (none_past c.args.key.now c.args.place c.in-None.ensures.lookup.3))
