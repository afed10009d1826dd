-- The holder and the entry that a blocked turn names.
use Rattle.std.specs.Prelude.{◌<◌, ℕ}
use Rattle.acc_base.specs.declared.designs.Design.{Design}
use Rattle.acc_base.specs.declared.machines.Frame.{Frame}
use Rattle.acc_base.specs.Machine.{World}
use Rattle.acc_base.specs.Locks.{IsBlockedBy}

-- transaction h blocks f's step through entry n; none with a lower number blocks it, and h through no lower entry
pub record IsLowestBlocker (d : Design) (w : World) (f : Frame) (h n : ℕ) : Type 0 where
  pub blocked : IsBlockedBy d w f h n
  pub holder : (u m : ℕ) → u < h → ¬ IsBlockedBy d w f u m
  pub entry : (m : ℕ) → m < n → ¬ IsBlockedBy d w f h m
