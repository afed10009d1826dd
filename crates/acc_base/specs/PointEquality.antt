-- The tests of equality of points and sides decide equality.
use Rattle.std.specs.Prelude.{◌≡◌, ◌==◌, Bool, ◌&&◌, refl, Decides}
use Rattle.std.proofs.Common.{ap}
use Rattle.std.proofs.lemmas.Bool.Decides.{Decides-like, Decides-eqb}
use Rattle.acc_base.specs.declared.designs.At.{At}
use Rattle.acc_base.specs.declared.designs.Side.{Side}
use Rattle.acc_base.specs.declared.designs.Side.TheVariants.{Next, Undo}
use Rattle.acc_base.specs.contracts.designs.SidePartialEq.TheImpl as derived
use Rattle.acc_base.specs.Pairs.{both}

abbrev pub at_eq : At → At → Bool
at_eq x y = (x.ty == y.ty) && (x.point == y.point)

pub at_decides : (x y : At) → Decides (at_eq x y) (x ≡ y)
at_decides x y =
    Decides-like (at_eq x y)
    (λ h. λ i. record { ty = h.0 i; point = h.1 i })
    (λ e. (ap (λ a. a.ty) e, ap (λ a. a.point) e))
    (both (Decides-eqb x.ty y.ty) (Decides-eqb x.point y.point))

-- the derived test of sides
abbrev pub side_eq : Side → Side → Bool
side_eq x y = derived.ghosts.eq x y

pub side_decides : (x y : Side) → Decides (side_eq x y) (x ≡ y)
side_decides Next Next = (λ h. refl, λ e. refl)
side_decides Undo Undo = (λ h. refl, λ e. refl)
side_decides Next Undo = (λ h. cc, λ e. cc)
side_decides Undo Next = (λ h. cc, λ e. cc)
