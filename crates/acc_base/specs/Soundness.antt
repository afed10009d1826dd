-- When a design is sound: each step keeps what stands, its own assertions and those of the others that don't forbid it.
-- The obligations of a design show it, and every run by the rules of locks rests on it.
use Rattle.std.specs.Prelude.{◌≢◌, ℕ, ◌≤◌, ◌/◌, Bool, false, ◌&&◌, ◌==◌, IsTrue, List, [], All, count_by, Option, Some, None, slice_get}
use Rattle.std.specs.Prelude.{ℤ, pos, ◌≤ℤ◌, ◌<ℤ◌, unsigned_abs, ⊤}
use Rattle.acc_base.specs.declared.bounds.TheConstants.{LARGEST_NUMBER, LARGEST_VARIANT}
use Rattle.acc_base.specs.declared.forms.Clause.{Clause}
use Rattle.acc_base.specs.declared.tables.Row.{Row}
use Rattle.acc_base.specs.declared.steps.Action.{Action}
use Rattle.acc_base.specs.declared.steps.Action.TheVariants.{Put, Del, Set, Add}
use Rattle.acc_base.specs.declared.steps.Target.{Target}
use Rattle.acc_base.specs.declared.steps.Target.TheVariants.{Point as ToPoint, Commit, Undone, Refuse}
use Rattle.acc_base.specs.declared.steps.Path.{Path}
use Rattle.acc_base.specs.declared.steps.Step.{Step}
use Rattle.acc_base.specs.declared.designs.Design.{Design}
use Rattle.acc_base.specs.declared.designs.TxType.{TxType}
use Rattle.acc_base.specs.declared.designs.Point.{Point}
use Rattle.acc_base.specs.declared.designs.Side.{Side}
use Rattle.acc_base.specs.declared.designs.Side.TheVariants.{Undo as UndoSide}
use Rattle.acc_base.specs.declared.machines.Frame.{Frame}
use Rattle.acc_base.specs.declared.machines.Call.{Call}
use Rattle.acc_base.specs.Linear.{variables, lin_value}
use Rattle.acc_base.specs.Reads.{Reading}
use Rattle.acc_base.specs.Effects.{point_of, step_of, Effect, Goes, Refuses, OutOfRange, effect_of}
use Rattle.acc_base.specs.RowsAfter.{AreThere}
use Rattle.acc_base.specs.Assertions.{AllTrue, Holds, Always}
use Rattle.acc_base.specs.Machine.{call_fits, begun, moved}
use Rattle.acc_base.specs.Fits.{RowsFit, IsFrame, IsReady}
use Rattle.acc_base.specs.PrivateRows.{HasNoPrivate, HasNoneOf}
use Rattle.acc_base.specs.Entries.{IsFree}

-- ---- what a path leaves

-- what is said of a step that goes on or ends: of the rows and the reading that it leaves, its path, and where it leads
abbrev pub WhereGoes : (List Row → Reading → ℕ → Target → Type 0) → Effect → Type 0
WhereGoes P (Goes db s i to) = P db s i to
WhereGoes P (Refuses s n) = ⊤
WhereGoes P OutOfRange = ⊤

-- what a type promises where a transaction commits
abbrev pub posts_of : Option TxType → List Clause
posts_of None = []
posts_of (Some x) = x.posts

-- and where its compensation ends
abbrev pub repairs_of : Option TxType → List Clause
repairs_of None = []
repairs_of (Some x) = x.repairs

-- what is promised where a path leads: the next point's assertion, or at an end what the type promises
abbrev pub MeetsAt : Design → Frame → Side → List Row → Reading → Target → Type 0
MeetsAt d f side db s (ToPoint p) = Holds d db (moved side f s p)
MeetsAt d f side db s Commit = AllTrue (posts_of (slice_get d.types f.ty)) db f.t s.locals
MeetsAt d f side db s Undone = AllTrue (repairs_of (slice_get d.types f.ty)) db f.t s.locals
MeetsAt d f side db s (Refuse n) = ⊤

-- an end leaves none of the transaction's private rows
abbrev pub ClearsAt : Design → Frame → List Row → Target → Type 0
ClearsAt d f db (ToPoint p) = ⊤
ClearsAt d f db Commit = HasNoneOf d f.ty (pos f.t) db
ClearsAt d f db Undone = HasNoneOf d f.ty (pos f.t) db
ClearsAt d f db (Refuse n) = ⊤

-- ---- the actions of the taken path

abbrev pub actions_of_path : Option Path → List Action
actions_of_path None = []
actions_of_path (Some p) = p.actions

abbrev pub actions_of : Option Step → ℕ → List Action
actions_of None i = []
actions_of (Some step) i = actions_of_path (slice_get step.paths i)

-- the actions of path i of the step where a frame stands
abbrev pub taken_actions : Design → Frame → Side → ℕ → List Action
taken_actions d f side i = actions_of (step_of d f.ty f.point side) i

abbrev pub adds_to : ℕ → ℕ → Action → Bool
adds_to t c (Put u k vs) = false
adds_to t c (Del u k) = false
adds_to t c (Set u k e v) = false
adds_to t c (Add u k e v) = (t == u) && (c == e)

-- of k `add` actions on one table and column each operand lies within a k-th of the range
abbrev pub IsShared : List ℤ → List Action → Action → Type 0
IsShared env actions (Put t k vs) = ⊤
IsShared env actions (Del t k) = ⊤
IsShared env actions (Set t k c v) = ⊤
IsShared env actions (Add t k c v) = unsigned_abs (lin_value env v) ≤ LARGEST_NUMBER / count_by (adds_to t c) actions

abbrev pub AreShared : List ℤ → List Action → Type 0
AreShared env actions = All (IsShared env actions) actions

-- ---- variants

abbrev pub variant_at : Frame → Option Point → ℤ
variant_at f None = pos 0
variant_at f (Some p) = lin_value (variables f.t f.locals) p.variant

-- how far a frame's compensation has still to go, by its point's variant
abbrev pub variant_of : Design → Frame → ℤ
variant_of d f = variant_at f (point_of d f.ty f.point)

-- an undo step to a point lowers it
abbrev pub FallsAt : Design → Frame → Reading → Target → Type 0
FallsAt d f s (ToPoint p) = variant_of d (moved UndoSide f s p) <ℤ variant_of d f
FallsAt d f s Commit = ⊤
FallsAt d f s Undone = ⊤
FallsAt d f s (Refuse n) = ⊤

-- ---- soundness

pub record IsSound (d : Design) : Type 0 where
  -- a transaction that begins has its start point's assertion, where no private row ends in its number
  pub begins :
      (db : List Row) (t : ℕ) (call : Call) → RowsFit d db → Always d db
      → IsTrue (call_fits (slice_get d.types call.ty) call)
      → 1 ≤ t → t ≤ LARGEST_NUMBER → HasNoPrivate d (pos t) db
      → Holds d db (begun d t call)
  -- each path leaves what is promised where it leads
  pub meets :
      (db : List Row) (f : Frame) (side : Side) → IsReady d db f
      → WhereGoes (λ after s i to. MeetsAt d f side after s to) (effect_of d db f side)
  -- and what holds always
  pub keeps :
      (db : List Row) (f : Frame) (side : Side) → IsReady d db f
      → WhereGoes (λ after s i to. Always d after) (effect_of d db f side)
  -- and the assertion of each other transaction that doesn't forbid the step
  pub spares :
      (db : List Row) (f : Frame) (side : Side) (g : Frame) → IsReady d db f → IsFrame d g → g.t ≢ f.t → Holds d db g
      → WhereGoes (λ after s i to. IsFree d g f side s → Holds d after g) (effect_of d db f side)
  -- the rows that a path changes are there
  pub there :
      (db : List Row) (f : Frame) (side : Side) → IsReady d db f
      → WhereGoes (λ after s i to. AreThere (variables f.t s.locals) (taken_actions d f side i) db) (effect_of d db f side)
  -- undo steps stay in range
  pub in_range : (db : List Row) (f : Frame) → IsReady d db f → effect_of d db f UndoSide ≢ OutOfRange
  pub shared :
      (db : List Row) (f : Frame) → IsReady d db f
      → WhereGoes (λ after s i to. AreShared (variables f.t s.locals) (taken_actions d f UndoSide i)) (effect_of d db f UndoSide)
  -- and fall, from a variant that isn't negative and not large
  pub variant :
      (db : List Row) (f : Frame) → IsReady d db f
      → (pos 0 ≤ℤ variant_of d f) × (variant_of d f ≤ℤ pos LARGEST_VARIANT)
  pub falls :
      (db : List Row) (f : Frame) → IsReady d db f
      → WhereGoes (λ after s i to. FallsAt d f s to) (effect_of d db f UndoSide)
  -- what has ended leaves no private row of its own
  pub clears :
      (db : List Row) (f : Frame) (side : Side) → IsReady d db f
      → WhereGoes (λ after s i to. ClearsAt d f after to) (effect_of d db f side)
  -- what holds always is true of no rows
  pub empty : Always d []
