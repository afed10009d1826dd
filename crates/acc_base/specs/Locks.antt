-- Who blocks whom: what undo steps reach, when two transactions are compatible, and when one is blocked, or all are.
-- Lawful events are defined by them; the table of entries and the machine with locks answer by them.
use Rattle.std.specs.Prelude.{◌≡◌, ◌≢◌, ◌⊎◌, ⊤, ℕ, List, [], Option, Some, None, option_and_then, slice_get, ℤ}
use Rattle.acc_base.specs.declared.steps.Target.{Target}
use Rattle.acc_base.specs.declared.steps.Target.TheVariants.{Point as ToPoint, Commit, Undone, Refuse}
use Rattle.acc_base.specs.declared.steps.Path.{Path}
use Rattle.acc_base.specs.declared.steps.Step.{Step}
use Rattle.acc_base.specs.declared.designs.Design.{Design}
use Rattle.acc_base.specs.declared.designs.At.{At}
use Rattle.acc_base.specs.declared.designs.Side.TheVariants.{Next, Undo as UndoSide}
use Rattle.acc_base.specs.declared.machines.Frame.{Frame}
use Rattle.acc_base.specs.declared.machines.Transaction.{Transaction}
use Rattle.acc_base.specs.declared.machines.Transaction.TheVariants.{Forward, Undoing, Ended}
use Rattle.acc_base.specs.Reads.{Reading}
use Rattle.acc_base.specs.Effects.{step_of, Effect, Goes, Refuses, OutOfRange, effect_of}
use Rattle.acc_base.specs.Machine.{World, transaction_at, frame_in, unfinished, stop_of}
use Rattle.acc_base.specs.Entries.{at_of, Forbids}

-- the frame of transaction t, where it has begun and hasn't ended
abbrev pub frame_at : ℕ → World → Option Frame
frame_at t w = option_and_then frame_in (transaction_at t w.transactions)

abbrev pub point_at : ℕ → ℕ → At
point_at ty p = record { ty = ty; point = p }

-- ---- what undo steps reach

-- a path of the undo step of point p leads to point q
pub record LeadsBack (d : Design) (ty p q : ℕ) : Type 0 where
  pub step : Step
  pub is_step : step_of d ty p UndoSide ≡ Some step
  pub place : ℕ
  pub path : Path
  pub is_path : slice_get step.paths place ≡ Some path
  pub target : path.target ≡ ToPoint q

-- undo paths lead from point p to point q of the type, or q is p
pub data Reaches (d : Design) (ty : ℕ) : ℕ → ℕ → Type 0 where
  here : {p : ℕ} → Reaches d ty p p
  on : {p q r : ℕ} → LeadsBack d ty p q → Reaches d ty q r → Reaches d ty p r

-- ---- compatible

-- the entry with number n forbids an undo step that a may come to, at a point that b may come to
pub record Clashes (d : Design) (a : At) (a_locals : List ℤ) (b : At) (b_locals : List ℤ) (n : ℕ) : Type 0 where
  pub step : ℕ
  pub held : ℕ
  pub step_reached : Reaches d a.ty a.point step
  pub held_reached : Reaches d b.ty b.point held
  pub forbids : Forbids d (point_at b.ty held) b_locals (point_at a.ty step) UndoSide a_locals n

-- two points, with their locals, are not compatible because of the entry
abbrev pub ClashesEither : Design → At → List ℤ → At → List ℤ → ℕ → Type 0
ClashesEither d a a_locals b b_locals n = Clashes d a a_locals b b_locals n ⊎ Clashes d b b_locals a a_locals n

abbrev pub AreCompatible : Design → At → List ℤ → At → List ℤ → Type 0
AreCompatible d a a_locals b b_locals = (n : ℕ) → ¬ ClashesEither d a a_locals b b_locals n

abbrev pub AreCompatibleFrames : Design → Frame → Frame → Type 0
AreCompatibleFrames d f g = AreCompatible d (at_of f) f.locals (at_of g) g.locals

-- ---- blocked

-- a step of f leads to a frame that is not compatible with h because of the entry
abbrev pub ClashesAfter : Design → Frame → Frame → ℕ → Reading → Target → Type 0
ClashesAfter d f h n s (ToPoint p) = ClashesEither d (point_at f.ty p) s.locals (at_of h) h.locals n
ClashesAfter d f h n s Commit = ⊥
ClashesAfter d f h n s Undone = ⊥
ClashesAfter d f h n s (Refuse m) = ⊥

-- the entry forbids f's forward step where h stands, or f would clash with h after it;
-- a step whose numbers leave the range has no locals to judge
abbrev pub BlocksEffect : Design → Frame → Frame → ℕ → Effect → Type 0
BlocksEffect d f h n (Goes db s i to) =
    Forbids d (at_of h) h.locals (at_of f) Next s.locals n ⊎ ClashesAfter d f h n s to
BlocksEffect d f h n (Refuses s m) = Forbids d (at_of h) h.locals (at_of f) Next s.locals n
BlocksEffect d f h n OutOfRange = ⊥

-- f's forward step is blocked by transaction h, another one, through the entry with number n, from 1
pub record IsBlockedBy (d : Design) (w : World) (f : Frame) (h n : ℕ) : Type 0 where
  pub holder : Frame
  pub is_holder : frame_at h w ≡ Some holder
  pub other : h ≢ f.t
  pub blocks : BlocksEffect d f holder n (effect_of d w.rows f Next)

abbrev pub IsUnblocked : Design → World → Frame → Type 0
IsUnblocked d w f = (h n : ℕ) → ¬ IsBlockedBy d w f h n

-- ---- stuck

-- it is forward, nothing stops its step, and some transaction blocks it; nothing is asked of one that has ended
abbrev pub IsHeldUp : Design → World → Transaction → Type 0
IsHeldUp d w (Forward f) = (stop_of d w.rows f ≡ None) × ((h : ℕ) × (n : ℕ) × IsBlockedBy d w f h n)
IsHeldUp d w (Undoing f c) = ⊥
IsHeldUp d w (Ended reply) = ⊤

-- there are unfinished transactions, and all are held up
pub record IsStuck (d : Design) (w : World) : Type 0 where
  pub some : unfinished w ≢ []
  pub each : (t : ℕ) (x : Transaction) → transaction_at t w.transactions ≡ Some x → IsHeldUp d w x
