-- Rows and frames that fit a design: of its tables' shapes and its types' lengths, with numbers in range.
-- Soundness, the invariant of runs and the obligations of a design speak of them.
use Rattle.std.specs.Prelude.{◌≡◌, ◌<◌, ◌≤◌, List, length, All, Option, Some, None, slice_get}
use Rattle.acc_base.specs.declared.bounds.TheConstants.{LARGEST_NUMBER}
use Rattle.acc_base.specs.declared.tables.Row.{Row}
use Rattle.acc_base.specs.declared.designs.Design.{Design}
use Rattle.acc_base.specs.declared.designs.TxType.{TxType}
use Rattle.acc_base.specs.declared.machines.Frame.{Frame}
use Rattle.acc_base.specs.Numbers.{IsSmall}
use Rattle.acc_base.specs.Tables.{IsInOrder}
use Rattle.acc_base.specs.Shapes.{RowFits}
use Rattle.acc_base.specs.Assertions.{Holds, Always}

-- rows of the tables' widths and columns, in order, with small keys, and few enough
pub record RowsFit (d : Design) (db : List Row) : Type 0 where
  pub shapes : All (RowFits d.tables) db
  pub order : IsInOrder db
  pub keys : All (λ r. All IsSmall r.key.parts) db
  pub few : length db ≤ LARGEST_NUMBER

-- a frame of this type: at one of its points, with its locals, within its limit of steps; its number is from 1
pub record IsFrameOf (x : TxType) (f : Frame) : Type 0 where
  pub point : f.point < length x.points
  pub each : length f.locals ≡ length x.locals
  pub locals : All IsSmall f.locals
  pub tape : All IsSmall f.tape
  pub first : 1 ≤ f.t
  pub number : f.t ≤ LARGEST_NUMBER
  pub steps : f.steps ≤ x.limit
  pub at : f.pos ≤ length f.tape

abbrev pub IsFrameOfSome : Option TxType → Frame → Type 0
IsFrameOfSome None f = ⊥
IsFrameOfSome (Some x) f = IsFrameOf x f

-- a frame of a type of the design
abbrev pub IsFrame : Design → Frame → Type 0
IsFrame d f = IsFrameOfSome (slice_get d.types f.ty) f

-- rows and a frame at which a step is judged: they fit, and what is asserted for all times and at the frame's point is true
pub record IsReady (d : Design) (db : List Row) (f : Frame) : Type 0 where
  pub rows : RowsFit d db
  pub always : Always d db
  pub frame : IsFrame d f
  pub holds : Holds d db f
