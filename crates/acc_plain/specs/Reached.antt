-- States that a run reaches.
use Rattle.std.specs.Prelude.{◌≡◌, Some}
use Rattle.acc_base.specs.declared.designs.Design.{Design}
use Rattle.acc_base.specs.Machine.{World, world}
use Rattle.acc_base.specs.Runnable.{IsRunnable}

-- the state is that of its events, which are a run of a design whose steps can be taken
pub record IsReached (d : Design) (w : World) : Type 0 where
  pub runnable : IsRunnable d
  pub run : world d w.events ≡ Some w
