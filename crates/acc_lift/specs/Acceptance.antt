-- Accepted designs.
use Rattle.acc_base.specs.declared.designs.Design.{Design}
use Rattle.acc_base.specs.Runnable.{IsRunnable}
use Rattle.acc_base.specs.Soundness.{IsSound}
use Rattle.acc_formed.specs.WellFormed.{IsWellFormed}

-- what an accepted design keeps: it is sound and well-formed, and so it can be run
pub record IsAccepted (d : Design) : Type 0 where
  pub sound : IsSound d
  pub formed : IsWellFormed d
  pub runnable : IsRunnable d
