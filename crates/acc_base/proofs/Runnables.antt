-- A step of a design whose steps can be taken can be taken.
use Rattle.std.proofs.Common.{◌≡◌, ℕ, subst, refl, Option, Some, None}
use Rattle.std.specs.Prelude.{slice_get, option_and_then}
use Rattle.acc_base.specs.declared.steps.Step.{Step}
use Rattle.acc_base.specs.declared.designs.Design.{Design}
use Rattle.acc_base.specs.declared.designs.TxType.{TxType}
use Rattle.acc_base.specs.declared.designs.Point.{Point}
use Rattle.acc_base.specs.declared.designs.Side.{Side}
use Rattle.acc_base.specs.declared.designs.Side.TheVariants.{Next, Undo}
use Rattle.acc_base.specs.Effects.{step_at, step_of}
use Rattle.acc_base.specs.Runnable.{CanStep, IsRunnablePoint, IsRunnableType, IsRunnable}
use Rattle.acc_base.proofs.Items.{at_slice_get}

point_can : (side : Side) (p : Point) → IsRunnablePoint p → CanStep side (step_at side p)
point_can Next p h = h.next
point_can Undo p h = h.undo

pub step_can : (d : Design) (ty p : ℕ) (side : Side) (step : Step) → IsRunnable d → step_of d ty p side ≡ Some step → CanStep side step
step_can d ty p side step h e = in_type (slice_get d.types ty) refl e
  where
    in_point : (x : TxType) → IsRunnableType x → (o : Option Point) → slice_get x.points p ≡ o
        → option_and_then (λ q. Some (step_at side q)) o ≡ Some step → CanStep side step
    in_point x r None f g = cc
    in_point x r (Some q) f g =
        let same : step_at side q ≡ step = cc in
        subst (CanStep side) same (point_can side q (at_slice_get IsRunnablePoint x.points p q r.points f))

    in_type : (o : Option TxType) → slice_get d.types ty ≡ o
        → option_and_then (λ q. Some (step_at side q)) (option_and_then (λ x. slice_get x.points p) o) ≡ Some step → CanStep side step
    in_type None f g = cc
    in_type (Some x) f g = in_point x (at_slice_get IsRunnableType d.types ty x h f) (slice_get x.points p) refl g
