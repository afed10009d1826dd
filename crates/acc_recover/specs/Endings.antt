-- The next event of a recovery, told from the frames of the unfinished transactions.
use Rattle.std.specs.Prelude.{ℕ, List, [], ◌∷◌, Bool, true, false, if◌then◌else◌, Option, Some, None}
use Rattle.acc_base.specs.declared.designs.Side.{Side}
use Rattle.acc_base.specs.declared.designs.Side.TheVariants.{Next, Undo as UndoSide}
use Rattle.acc_base.specs.declared.machines.Frame.{Frame}
use Rattle.acc_base.specs.declared.machines.Event.{Event}
use Rattle.acc_base.specs.declared.machines.Event.TheVariants.{Abort, Undo}
use Rattle.acc_base.specs.declared.machines.Cause.TheVariants.{Crash}

abbrev pub is_forward : Side → Bool
is_forward Next = true
is_forward UndoSide = false

-- the number of the first forward frame
abbrev pub first_forward : List Frame → Option ℕ
first_forward [] = None
first_forward (f ∷ frames) = if is_forward f.side then Some f.t else first_forward frames

-- a crash of that one; where there is none, an undo turn of the first frame
abbrev pub ending_from : Option ℕ → List Frame → Option Event
ending_from (Some t) frames = Some (Abort t Crash)
ending_from None [] = None
ending_from None (f ∷ frames) = Some (Undo f.t)
