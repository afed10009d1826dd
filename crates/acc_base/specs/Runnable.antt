-- What a design has to keep so that the machine can run it: the form rules and limits on which that rests. Each well-formed design does.
use Rattle.std.specs.Prelude.{◌≤◌, ◌<◌, ◌^◌, List, length, All, pos, ◌<ℤ◌, ⊤}
use Rattle.acc_base.specs.declared.bounds.TheConstants.{LARGEST_NUMBER, MOST_ACTIONS, MOST_COLUMNS, MOST_KEY_PARTS, MOST_LOCALS}
use Rattle.acc_base.specs.declared.forms.Lin.{Lin}
use Rattle.acc_base.specs.declared.steps.Read.{Read}
use Rattle.acc_base.specs.declared.steps.Read.TheVariants.{Let, Col, Has, Count, Sum, Least, Greatest, Take, Mul, Div}
use Rattle.acc_base.specs.declared.steps.Action.{Action}
use Rattle.acc_base.specs.declared.steps.Action.TheVariants.{Put, Del, Set, Add}
use Rattle.acc_base.specs.declared.steps.Target.{Target}
use Rattle.acc_base.specs.declared.steps.Target.TheVariants.{Point as ToPoint, Commit, Undone, Refuse}
use Rattle.acc_base.specs.declared.steps.Path.{Path}
use Rattle.acc_base.specs.declared.steps.Step.{Step}
use Rattle.acc_base.specs.declared.designs.Side.{Side}
use Rattle.acc_base.specs.declared.designs.Side.TheVariants.{Next, Undo}
use Rattle.acc_base.specs.declared.designs.Point.{Point}
use Rattle.acc_base.specs.declared.designs.TxType.{TxType}
use Rattle.acc_base.specs.declared.designs.Design.{Design}
use Rattle.acc_base.specs.declared.machines.Frame.{Frame}
use Rattle.acc_base.specs.Numbers.{IsSmall}

-- a key or a prefix of at most 6 parts
abbrev pub IsKey : List Lin → Type 0
IsKey k = length k ≤ MOST_KEY_PARTS

abbrev pub CanRead : Read → Type 0
CanRead (Let x l) = ⊤
CanRead (Col x t k c) = IsKey k
CanRead (Has x t k) = IsKey k
CanRead (Count x t p) = IsKey p
CanRead (Sum x t p c) = IsKey p
CanRead (Least x t p) = IsKey p
CanRead (Greatest x t p) = IsKey p
CanRead (Take x) = ⊤
CanRead (Mul x y z) = ⊤
CanRead (Div x y c) = pos 0 <ℤ c

-- a row that is put has at most 12 columns
abbrev pub CanAct : Action → Type 0
CanAct (Put t k vs) = IsKey k × (length vs ≤ MOST_COLUMNS)
CanAct (Del t k) = IsKey k
CanAct (Set t k c v) = IsKey k
CanAct (Add t k c v) = IsKey k

-- a forward path doesn't end undone, and an undo path neither commits nor refuses
abbrev pub CanEnd : Side → Target → Type 0
CanEnd Next (ToPoint p) = ⊤
CanEnd Next Commit = ⊤
CanEnd Next Undone = ⊥
CanEnd Next (Refuse n) = ⊤
CanEnd Undo (ToPoint p) = ⊤
CanEnd Undo Commit = ⊥
CanEnd Undo Undone = ⊤
CanEnd Undo (Refuse n) = ⊥

pub record CanGo (side : Side) (p : Path) : Type 0 where
  pub actions : All CanAct p.actions
  pub few : length p.actions ≤ MOST_ACTIONS
  pub target : CanEnd side p.target

pub record CanStep (side : Side) (step : Step) : Type 0 where
  pub reads : All CanRead step.reads
  pub paths : All (CanGo side) step.paths
  pub few : length step.paths < 2 ^ 32

pub record IsRunnablePoint (p : Point) : Type 0 where
  pub next : CanStep Next p.next
  pub undo : CanStep Undo p.undo

pub record IsRunnableType (x : TxType) : Type 0 where
  pub points : All IsRunnablePoint x.points
  pub few : length x.locals ≤ MOST_LOCALS
  pub params : x.params ≤ length x.locals

-- every step keeps them; whether one of its paths is open is not asked
abbrev pub IsRunnable : Design → Type 0
IsRunnable d = All IsRunnableType d.types

-- a frame whose numbers are in range: its number, locals and tape within 2^45 of 0
pub record IsSmallFrame (f : Frame) : Type 0 where
  pub locals : All IsSmall f.locals
  pub few : length f.locals ≤ MOST_LOCALS
  pub tape : All IsSmall f.tape
  pub long : length f.tape < 2 ^ 32
  pub number : f.t ≤ LARGEST_NUMBER
