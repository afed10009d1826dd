-- One turn of a pass by the rules of locks.
use Rattle.std.specs.Prelude.{◌≡◌, ◌⊎◌, ◌<◌, ℕ, length}
use Rattle.acc_base.specs.declared.designs.Design.{Design}
use Rattle.acc_base.specs.declared.machines.Frame.{Frame}
use Rattle.acc_base.specs.Locks.{IsStuck}
use Rattle.acc_base.specs.Machine.{World}
use Rattle.acc_plain.specs.Turned.{IsUnfinished}
use Rattle.acc_machine.specs.Holders.{IsHeldBack}

-- transaction t waits for another, and not all are stuck
pub record Waits (d : Design) (w : World) (t : ℕ) : Type 0 where
  pub frame : Frame
  pub number : frame.t ≡ t
  pub held : IsHeldBack d w frame
  pub loose : ¬ IsStuck d w

-- there is one more event; or nothing has changed, since transaction t isn't unfinished or waits
abbrev pub Moves : Design → World → ℕ → World → Type 0
Moves d old t new = (length old.events < length new.events) ⊎ ((new ≡ old) × (IsUnfinished t old → Waits d old t))
