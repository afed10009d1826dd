-- What an event leaves as it was: rows that it doesn't write, and the frames of all transactions but one.
use Rattle.std.specs.Prelude.{◌≡◌, ◌⊎◌, ℕ, ◌-◌, ◌==◌, if◌then◌else◌, List, [], length, All, Option, Some, None, find, slice_get, IfSome}
use Rattle.std.specs.Borrow.{Bor}
use Rattle.acc_base.specs.declared.tables.Row.{Row}
use Rattle.acc_base.specs.declared.steps.Target.{Target}
use Rattle.acc_base.specs.declared.designs.Design.{Design}
use Rattle.acc_base.specs.declared.designs.Side.{Side}
use Rattle.acc_base.specs.declared.machines.Frame.{Frame}
use Rattle.acc_base.specs.declared.machines.Event.{Event}
use Rattle.acc_base.specs.declared.machines.Event.TheVariants.{Begin, Step, Abort, Undo}
use Rattle.acc_base.specs.Effects.{Goes, effect_of}
use Rattle.acc_base.specs.Machine.{World, unfinished, after_event}
use Rattle.acc_base.specs.Reads.{Reading}
use Rattle.acc_audit_complaints.specs.Complaints.{IsFirst}
use Rattle.acc_store.specs.declared.writes.Write.{Write}
use Rattle.acc_store.specs.Rows.{written}
use Rattle.acc_audit.specs.declared.frames.KnownBefore.{KnownBefore}
use Rattle.acc_audit.specs.Audits.{IsFirstOf}

-- ---- what an event writes

-- the frame with a number
abbrev pub frame_of : ℕ → List Frame → Option Frame
frame_of t frames = find (λ f. f.t == t) frames

-- the writes are those of a step of the unfinished transaction, where it goes on or ends
abbrev pub AreOfStep : Design → World → ℕ → Side → List Write → Type 0
AreOfStep d w t side ws =
    (f : Frame) (after : List Row) (s : Reading) (i : ℕ) (to : Target) → frame_of t (unfinished w) ≡ Some f
    → effect_of d w.rows f side ≡ Goes after s i to → after ≡ written ws w.rows

-- the writes are those of an event, where the machine allows it
abbrev pub AreOf : Design → World → Event → List Write → Type 0
AreOf d w e ws = (after : World) → after_event d w e ≡ Some after → after.rows ≡ written ws w.rows

-- ---- whose event it is

abbrev pub number_of : Option Frame → ℕ
number_of None = 0
number_of (Some f) = f.t

-- the number of the transaction that an event began or moved, among the frames behind it: what begins is the last
abbrev pub moved_by : Event → List Frame → ℕ
moved_by (Begin call) frames = number_of (slice_get frames (length frames - 1))
moved_by (Step t) frames = t
moved_by (Abort t c) frames = t
moved_by (Undo t) frames = t

-- ---- before the event

-- the writes led to these rows, and before them nothing was wrong but, maybe, with what this transaction asserts now
pub record WereClearBut (d : Design) (ws : List Write) (db : List Row) (moved : ℕ) (frames : List Frame) : Type 0 where
  pub before : List Row
  pub led : db ≡ written ws before
  pub always : IsFirst before [] d.always None
  pub each : All (λ f. (f.t ≡ moved) ⊎ IsFirstOf d before f None) frames

abbrev pub IsKnown : Design → List Row → List Frame → Option KnownBefore → Type 0
IsKnown d db frames known = IfSome known (λ k. WereClearBut d k.writes.now db k.moved frames)

-- the writes since then, if it is known
abbrev pub writes_in : Option KnownBefore → Option (List Write)
writes_in None = None
writes_in (Some k) = Some k.writes.now

-- the same, but for what the transaction asserts that moved
abbrev pub writes_for : ℕ → Option KnownBefore → Option (List Write)
writes_for t None = None
writes_for t (Some k) = if k.moved == t then None else Some k.writes.now

-- what is known behind so many events of the state before the last
abbrev pub known_at : ℕ → ℕ → Bor (List Write) → Option KnownBefore
known_at place moved writes = if place == 0 then None else Some (record { writes = writes; moved = moved })
