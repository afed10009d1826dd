-- What is true of each state that lawful events reach. The machine with locks keeps it, and its users start from it.
use Rattle.std.specs.Prelude.{◌≡◌, ◌≢◌, ℕ, ◌+◌, ◌-◌, ◌*◌, ◌≤◌, IsTrue, List, length, sum_by, All, Some, slice_get, pos, unsigned_abs}
use Rattle.acc_base.specs.declared.bounds.TheConstants.{LARGEST_NUMBER, MOST_ACTIONS, LARGEST_LIMIT, LARGEST_VARIANT, MOST_EVENTS}
use Rattle.acc_base.specs.declared.bounds.TheConstants.{MOST_UNFINISHED}
use Rattle.acc_base.specs.declared.tables.Row.{Row}
use Rattle.acc_base.specs.declared.designs.Design.{Design}
use Rattle.acc_base.specs.declared.designs.Side.{Side}
use Rattle.acc_base.specs.declared.designs.Side.TheVariants.{Next, Undo as UndoSide}
use Rattle.acc_base.specs.declared.machines.Frame.{Frame}
use Rattle.acc_base.specs.declared.machines.Transaction.{Transaction}
use Rattle.acc_base.specs.declared.machines.Transaction.TheVariants.{Forward, Undoing, Ended}
use Rattle.acc_base.specs.Tables.{cell}
use Rattle.acc_base.specs.Assertions.{Holds, Always}
use Rattle.acc_base.specs.Machine.{World, start, transaction_at, limit_of}
use Rattle.acc_base.specs.Fits.{RowsFit, IsFrame}
use Rattle.acc_base.specs.PrivateRows.{is_own_table, IsPrivateOf, type_puts}
use Rattle.acc_base.specs.Soundness.{variant_of}
use Rattle.acc_base.specs.Locks.{frame_at, AreCompatibleFrames}
use Rattle.acc_base.specs.Lawful.{LeadLawfully}

-- ---- transactions

-- an unfinished transaction with this number, on this side: its frame fits, and its assertion is true
pub record Stands (d : Design) (db : List Row) (t : ℕ) (side : Side) (f : Frame) : Type 0 where
  pub number : f.t ≡ t
  pub side_is : f.side ≡ side
  pub frame : IsFrame d f
  pub holds : Holds d db f

abbrev pub IsKept : Design → List Row → ℕ → Transaction → Type 0
IsKept d db t (Forward f) = Stands d db t Next f
IsKept d db t (Undoing f c) = Stands d db t UndoSide f
IsKept d db t (Ended reply) = reply.t ≡ t

-- the events that a transaction may still take at most
abbrev pub rest_of : Design → Transaction → ℕ
rest_of d (Forward f) = limit_of (slice_get d.types f.ty) - f.steps + (LARGEST_VARIANT + 2)
rest_of d (Undoing f c) = unsigned_abs (variant_of d f) + 1
rest_of d (Ended reply) = 0

-- ---- rows

-- an unfinished transaction in whose number the row's key ends, and whose type puts into the table
pub record IsOwnerOf (d : Design) (w : World) (r : Row) : Type 0 where
  pub t : ℕ
  pub owner : Frame
  pub is_owner : frame_at t w ≡ Some owner
  pub ends : IsPrivateOf d (pos t) r
  pub puts : IsTrue (type_puts r.table (slice_get d.types owner.ty))

abbrev pub IsOwned : Design → World → Row → Type 0
IsOwned d w r = IsTrue (is_own_table (slice_get d.tables r.table)) → IsOwnerOf d w r

abbrev pub IsWithin : ℕ → Row → Type 0
IsWithin n r = (c : ℕ) → unsigned_abs (cell c r) ≤ n

-- ---- states

-- all that holds of a state apart from how it came about
pub record IsSteady (d : Design) (w : World) : Type 0 where
  pub rows : RowsFit d w.rows
  pub few : length w.rows ≤ MOST_ACTIONS * length w.events
  pub counted : length w.transactions ≤ length w.events
  pub each : (t : ℕ) (x : Transaction) → transaction_at t w.transactions ≡ Some x → IsKept d w.rows t x
  pub always : Always d w.rows
  pub compatible :
      (t u : ℕ) (f g : Frame) → frame_at t w ≡ Some f → frame_at u w ≡ Some g → t ≢ u
      → AreCompatibleFrames d f g
  pub owned : All (IsOwned d w) w.rows
  pub bounded : All (IsWithin (LARGEST_NUMBER * (1 + length w.events))) w.rows
  pub ends :
      length w.events + sum_by (rest_of d) w.transactions
      ≤ MOST_EVENTS + MOST_UNFINISHED * (LARGEST_LIMIT + LARGEST_VARIANT + 2)

-- the events are lawful and lead to this state
pub record IsGood (d : Design) (w : World) : Type 0 where
  pub lawful : LeadLawfully d start w.events w
  pub steady : IsSteady d w
