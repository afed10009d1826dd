use Rattle.std.proofs.Common.{◌≡◌, ◌&&◌, true, sym, subst, arith}
use Rattle.std.specs.Prelude.{OnOk, nat_le}
use Rattle.std.specs.Int.{w64}
use Rattle.std.proofs.lemmas.Int.{to_z-of_z}
use Rattle.std.proofs.lemmas.Bool.Decides.{nat_tests}
use Rattle.acc_audit_ranges.specs.Ranges.{Adds, same}
use Rattle.acc_audit_ranges.proofs.keyed.add_counted.Goals as goal

pub returns-then-n-gt0 : goal.returns-then-n-gt0
returns-then-n-gt0 c =
    let some = c.if-n-gt0.true in
    let yes : nat_le 1 c.args.n ≡ true = grind (arith, nat_tests) in
    subst (λ b. OnOk c.add.result (Adds (λ q. b && same c.args.x q) c.args.values.now c.add.new.values)) (sym yes)
    (subst (λ z. OnOk c.add.result (Adds (same z) c.args.values.now c.add.new.values)) (to_z-of_z w64 c.args.x c.ranges.x) c.add.ensures)
