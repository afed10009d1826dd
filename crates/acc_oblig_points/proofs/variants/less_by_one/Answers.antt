use Rattle.std.proofs.Common.{◌≡◌, arith}
use Rattle.std.specs.Prelude.{ℤ, pos, negsuc, ◌+ℤ◌, ◌-ℤ◌, ◌*ℤ◌}
use Rattle.std.proofs.lemmas.Int.{ints}
use Rattle.acc_oblig_points.proofs.variants.less_by_one.Goals as goal

-- a difference and 1
less : (a b : ℤ) → (a -ℤ b) +ℤ pos 1 ≡ (a +ℤ negsuc 0 *ℤ b) +ℤ pos 1
less a b = first_of (omega (arith, ints), grind (arith, ints))

pub returns : goal.returns
returns c =
    let e = less c.args.last.now.constant c.args.first.now.constant in
    first_of (omega (arith, ints), grind (arith, ints, e))
