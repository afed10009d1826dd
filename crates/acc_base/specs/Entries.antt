-- When an entry of a design forbids a step, because of where another transaction stands.
-- Soundness and the rules of locks speak of it; the table of entries is asked for it.
use Rattle.std.specs.Prelude.{◌≡◌, ℕ, ◌-◌, ◌≤◌, List, All, Some, slice_get, ℤ}
use Rattle.acc_base.specs.declared.designs.Design.{Design}
use Rattle.acc_base.specs.declared.designs.Entry.{Entry}
use Rattle.acc_base.specs.declared.designs.At.{At}
use Rattle.acc_base.specs.declared.designs.Side.{Side}
use Rattle.acc_base.specs.declared.designs.Side.TheVariants.{Next, Undo as UndoSide}
use Rattle.acc_base.specs.declared.machines.Frame.{Frame}
use Rattle.acc_base.specs.Linear.{var}
use Rattle.acc_base.specs.Reads.{Reading}

-- where a frame stands
abbrev pub at_of : Frame → At
at_of f = record { ty = f.ty; point = f.point }

-- the entry with this number, from 1, is for this held point and this step, and the locals of each of its pairs are equal
pub record Forbids (d : Design) (held : At) (held_locals : List ℤ) (step : At) (side : Side) (locals : List ℤ) (n : ℕ) : Type 0 where
  pub entry : Entry
  pub first : 1 ≤ n
  pub is_entry : slice_get d.entries (n - 1) ≡ Some entry
  pub held_is : entry.held ≡ held
  pub step_is : entry.step ≡ step
  pub side_is : entry.side ≡ side
  pub pairs : All (λ p. var held_locals p.0 ≡ var locals p.1) entry.pairs

-- the locals by which an entry judges a step: after its reads, or for an undo step the frame's own
abbrev pub judged : Side → Frame → Reading → List ℤ
judged Next f s = s.locals
judged UndoSide f s = f.locals

-- no entry forbids f's step where g stands
abbrev pub IsFree : Design → Frame → Frame → Side → Reading → Type 0
IsFree d g f side s = (n : ℕ) → ¬ Forbids d (at_of g) g.locals (at_of f) side (judged side f s) n
