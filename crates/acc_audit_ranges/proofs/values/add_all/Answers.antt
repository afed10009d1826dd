use Rattle.std.proofs.Common.{rules, refl, subst, pos, get_or}
use Rattle.std.specs.Prelude.{FitsSigned}
use Rattle.std.specs.Int.{w64}
use Rattle.std.proofs.lemmas.Int.{to_z-of_z}
use Rattle.acc_audit_ranges.specs.Ranges.{Adds, same}
use Rattle.acc_audit_ranges.proofs.Adding.{adds_more}
use Rattle.acc_audit_ranges.proofs.values.add_all.Goals as goal

pub loop-x-preserved : goal.loop-x-preserved
loop-x-preserved c =
    let x = get_or c.args.xs.now c.loop-x.x-index (pos 0) in
    let fits : FitsSigned w64 x = search rules in
    adds_more same c.args.xs.now c.loop-x.x-index x (pos 0) c.args.values.now c.loop-x.values c.add.new.values c.loop-x-test.true refl
    c.loop-x.invariant
    (subst (λ z. Adds (same z) c.loop-x.values c.add.new.values) (to_z-of_z w64 x fits) c.in_ok-add.ensures)
