-- Where a step is and where a frame stands: the type and its point.
use Rattle.std.proofs.Common.{◌≡◌, ℕ, zero, suc, ◌<◌, List, [], ◌∷◌, length, refl, arith, Option, Some, None}
use Rattle.std.specs.List.{AllByRecursion}
use Rattle.std.specs.Prelude.{slice_get, option_and_then}
use Rattle.std.proofs.lemmas.Option.{same_Some, none-some}
use Rattle.acc_base.specs.declared.steps.Step.{Step}
use Rattle.acc_base.specs.declared.designs.Point.{Point}
use Rattle.acc_base.specs.declared.designs.TxType.{TxType}
use Rattle.acc_base.specs.declared.designs.Design.{Design}
use Rattle.acc_base.specs.declared.designs.Side.{Side}
use Rattle.acc_base.specs.declared.machines.Frame.{Frame}
use Rattle.acc_base.specs.Effects.{step_at, step_of}
use Rattle.acc_base.specs.Fits.{IsFrameOf, IsFrameOfSome, IsFrame}

pub record StepAt (d : Design) (ty point : ℕ) (side : Side) (step : Step) : Type 0 where
  pub type : TxType
  pub is_type : slice_get d.types ty ≡ Some type
  pub p : Point
  pub is_point : slice_get type.points point ≡ Some p
  pub is_step : step_at side p ≡ step

pub step_is_at : (d : Design) (ty point : ℕ) (side : Side) (step : Step) → step_of d ty point side ≡ Some step → StepAt d ty point side step
step_is_at d ty point side step h = by (slice_get d.types ty) refl h
  where
    at_point :
        (x : TxType) → slice_get d.types ty ≡ Some x → (o : Option Point) → slice_get x.points point ≡ o
        → option_and_then (λ y. Some (step_at side y)) o ≡ Some step → StepAt d ty point side step
    at_point x a None b e = absurd (none-some step e)
    at_point x a (Some y) b e = record { type = x; is_type = a; p = y; is_point = b; is_step = same_Some (step_at side y) step e }

    by :
        (o : Option TxType) → slice_get d.types ty ≡ o
        → option_and_then (λ y. Some (step_at side y)) (option_and_then (λ x. slice_get x.points point) o) ≡ Some step
        → StepAt d ty point side step
    by None a e = absurd (none-some step e)
    by (Some x) a e = at_point x a (slice_get x.points point) refl e

-- a frame that fits stands at a point of its type
pub record HeldAt (d : Design) (g : Frame) : Type 0 where
  pub x : TxType
  pub is_type : slice_get d.types g.ty ≡ Some x
  pub h : Point
  pub is_point : slice_get x.points g.point ≡ Some h
  pub frame : IsFrameOf x g

pub some_point : {X : Type 0} (xs : List X) (k : ℕ) → k < length xs → (x : X) × (slice_get xs k ≡ Some x)
some_point [] k l = absurd (omega arith)
some_point (x ∷ xs) zero l = (x, refl)
some_point (x ∷ xs) (suc k) l = some_point xs k (omega arith)

pub held_at : (d : Design) (g : Frame) → IsFrame d g → HeldAt d g
held_at d g h = by (slice_get d.types g.ty) refl h
  where
    by : (o : Option TxType) → slice_get d.types g.ty ≡ o → IsFrameOfSome o g → HeldAt d g
    by None e k = absurd k
    by (Some x) e k = let q = some_point x.points g.point k.point in record { x = x; is_type = e; h = q.0; is_point = q.1; frame = k }

pub by_places : {X : Type 0} (P : X → Type 0) (xs : List X) → ((k : ℕ) (x : X) → slice_get xs k ≡ Some x → P x) → AllByRecursion P xs
by_places P [] h = tt
by_places P (x ∷ xs) h = (h zero x refl, by_places P xs (λ k y e. h (suc k) y e))
