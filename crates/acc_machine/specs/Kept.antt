-- What the type of a state keeps: its design is accepted, and the state is good.
use Rattle.acc_base.specs.declared.designs.Design.{Design}
use Rattle.acc_base.specs.Machine.{World}
use Rattle.acc_base.specs.Invariant.{IsGood}
use Rattle.acc_lift.specs.Acceptance.{IsAccepted}

pub record IsKept (d : Design) (w : World) : Type 0 where
  pub accepted : IsAccepted d
  pub good : IsGood d w
