-- What the type of a state keeps beside that: an index, where one is kept, stands for the transactions that are unfinished.
use Rattle.std.specs.Prelude.{◌≡◌, List, Option, IfSome}
use Rattle.acc_base.specs.declared.designs.Design.{Design}
use Rattle.acc_base.specs.declared.machines.Frame.{Frame}
use Rattle.acc_base.specs.Machine.{World, unfinished}
use Rattle.acc_lock_index.specs.Indexed.{Indexed, StandsFor}
use Rattle.acc_machine.specs.Kept.{IsKept}

-- an index, if there is one, stands for these transactions
abbrev pub IsIndexOf : Design → List Frame → Option Indexed → Type 0
IsIndexOf d frames index = IfSome index (λ (x : Indexed). StandsFor d frames x.standings)

-- the state of a machine over an accepted design, and the index beside it
pub record IsStateOf (accepted d : Design) (w : World) (index : Option Indexed) : Type 0 where
  pub same : accepted ≡ d
  pub kept : IsKept d w
  pub stands : IsIndexOf accepted (unfinished w) index
