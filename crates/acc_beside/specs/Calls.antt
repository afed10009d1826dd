-- What a call of a shared engine says of the caller's pass.
use Rattle.std.specs.Prelude.{◌≡◌, ℕ, ◌+◌, ◌<◌, ◌≤◌, Bool, true, List, [], ◌∷◌, ◌++◌, length, slice_get, Option, Some}
use mathlib.Core.List.{IsPrefix}
use Rattle.acc_base.specs.declared.bounds.TheConstants.{MOST_EVENTS, MOST_UNFINISHED}
use Rattle.acc_base.specs.declared.designs.Design.{Design}
use Rattle.acc_base.specs.declared.machines.Call.{Call}
use Rattle.acc_base.specs.declared.machines.Event.{Event}
use Rattle.acc_base.specs.declared.machines.Event.TheVariants.{Begin}
use Rattle.acc_base.specs.declared.machines.Frame.{Frame}
use Rattle.acc_base.specs.declared.machines.Reply.{Reply}
use Rattle.acc_base.specs.declared.machines.Turn.{Turn}
use Rattle.acc_base.specs.declared.machines.Turn.TheVariants as turn
use Rattle.acc_base.specs.Machine.{World, world, unfinished, next_number, reply_at, after_event}
use Rattle.acc_base.specs.Locks.{frame_at, IsBlockedBy}
use Rattle.acc_plain.specs.Turned.{IsUnfinished}
use Rattle.acc_machine.specs.Kept.{IsKept}
use Rattle.acc_machine.specs.Turns.{IsTurn, IsTurnEvent}
use Rattle.acc_engine.specs.Keeping.{Journalled}
use Rattle.acc_engine.specs.declared.errors.Drawn.{Drawn}
use Rattle.acc_engine.specs.declared.errors.Drawn.TheVariants.{Begun, Empty, Full, Crowd}
use Rattle.acc_engine.specs.declared.errors.EngineError.{EngineError}
use Rattle.acc_engine.specs.declared.errors.EngineError.TheVariants.{Disk, Failed, Memory}
use Rattle.acc_pass.specs.declared.views.Known.{Known}
use Rattle.acc_pass.specs.Histories.{Owns, MayAppend}
use Rattle.acc_workers.specs.declared.turners.Why.{Why}
use Rattle.acc_workers.specs.declared.turners.Why.TheVariants as why
use Rattle.acc_beside.specs.Serving.{Script, begun_after, IsCause}

-- these events with their places, from n on
abbrev pub placed : ℕ → List Event → List (ℕ × Event)
placed n [] = []
placed n (e ∷ es) = (n, e) ∷ placed (n + 1) es

-- the keeper's pass fits the engine
abbrev pub Tied : {D : Type 0} → Known → Journalled D → Type 0
Tied k e = (k.keeps ≡ true) × (k.seen ≡ e.state.events) × (k.broken ≡ e.failed)

-- A call was made after `log`, which begins with all that the caller had seen, and made the events `own`: the caller has now seen
-- these, and its own are longer by just them.
pub record Called (v w : Known) (log own : List Event) : Type 0 where
  pub begun : IsPrefix v.seen log
  pub seen : w.seen ≡ log ++ own
  pub mine : w.mine ≡ v.mine ++ placed (length log) own
  pub broken : v.broken ≡ true → w.broken ≡ true

-- ---- draws

-- the call of that place, counted from 0, begins as the next number, by this event
pub record IsBegun (script : Script) (place t : ℕ) (old new : World) (own : List Event) : Type 0 where
  pub call : Call
  pub is_call : slice_get script.calls place ≡ Some call
  pub begins : after_event script.design old (Begin call) ≡ Some new
  pub number : t ≡ next_number old
  pub own_is : own ≡ Begin call ∷ []

-- nothing has changed, and no event was made
abbrev pub IsStill : World → World → List Event → Type 0
IsStill old new own = (new ≡ old) × (own ≡ [])

-- what comes of beginning that place
abbrev pub DrawsAt : Script → ℕ → Drawn → World → World → List Event → Type 0
DrawsAt script place (Begun t) old new own =
    IsBegun script place t old new own × (length old.events < MOST_EVENTS) × (length (unfinished old) < MOST_UNFINISHED)
DrawsAt script place Empty old new own = (length script.calls ≤ place) × IsStill old new own
DrawsAt script place Full old new own = (place < length script.calls) × (MOST_EVENTS ≤ length old.events) × IsStill old new own
DrawsAt script place Crowd old new own =
    (place < length script.calls) × (length old.events < MOST_EVENTS) × (MOST_UNFINISHED ≤ length (unfinished old)) × IsStill old new own

-- the answer of a draw is the engine's, for the next place, in the state of the history then
pub record Draws (script : Script) (first : List Event) (v w : Known) (drawn : Drawn) : Type 0 where
  pub old : World
  pub new : World
  pub own : List Event
  pub kept : IsKept script.design old
  pub left : IsKept script.design new
  pub draws : DrawsAt script (begun_after script first old.events) drawn old new own
  pub added : new.events ≡ old.events ++ own
  pub called : Called v w old.events own

-- ---- turns

-- one event, of transaction t
pub record IsMove (t : ℕ) (own : List Event) : Type 0 where
  pub event : Event
  pub of_turn : IsTurnEvent t event
  pub own_is : own ≡ event ∷ []

-- a blocked turn makes no event, and each other one
abbrev pub Makes : ℕ → List Event → Turn → Type 0
Makes t own (turn.Blocked holder entry) = own ≡ []
Makes t own (turn.Stepped at) = IsMove t own
Makes t own (turn.Turned cause) = IsMove t own
Makes t own (turn.Back at) = IsMove t own
Makes t own turn.Ended = IsMove t own

-- the answer of a turn is the engine's in the state of the history then, in which t is unfinished
pub record Turns (d : Design) (t : ℕ) (v w : Known) (turn : Turn) : Type 0 where
  pub old : World
  pub new : World
  pub own : List Event
  pub kept : IsKept d old
  pub left : IsKept d new
  pub unfinished : IsUnfinished t old
  pub turns : IsTurn d old new t turn
  pub makes : Makes t own turn
  pub added : new.events ≡ old.events ++ own
  pub called : Called v w old.events own

-- ---- settling

-- a settling answers the length of the history then
pub record Settles (d : Design) (v w : Known) (count : ℕ) : Type 0 where
  pub old : World
  pub kept : IsKept d old
  pub count_is : count ≡ length old.events
  pub called : Called v w old.events []

-- the reply of t in the history then
pub record Acks (d : Design) (t : ℕ) (v w : Known) (reply : Option Reply) : Type 0 where
  pub old : World
  pub kept : IsKept d old
  pub reply_is : reply ≡ reply_at t old
  pub called : Called v w old.events []

-- no event was made, and no less is seen
pub record Looks (d : Design) (v w : Known) : Type 0 where
  pub old : World
  pub kept : IsKept d old
  pub called : Called v w old.events []

abbrev pub ShowsFault : EngineError → Bool → Type 0
ShowsFault Disk broken = broken ≡ true
ShowsFault Failed broken = broken ≡ true
ShowsFault Memory broken = Unit {0}

-- why a failure halts a run
abbrev pub cause_for : EngineError → Why
cause_for Disk = why.Disk
cause_for Failed = why.Disk
cause_for Memory = why.Memory

-- a call failed, and made no event; a fault of the disk is shown
pub record Fails (d : Design) (v w : Known) (error : EngineError) : Type 0 where
  pub looks : Looks d v w
  pub shown : ShowsFault error w.broken

-- ---- what a pass shows, and which numbers it may turn

abbrev pub Shows : Design → Known → Why → Type 0
Shows d k why = IsCause d k.seen k.broken why

-- no place is left
abbrev pub AllBegun : Script → List Event → Known → Type 0
AllBegun script first k = length script.calls ≤ begun_after script first k.seen

-- transaction t is blocked after these events
pub record IsBlockedAfter (d : Design) (log : List Event) (t : ℕ) : Type 0 where
  pub state : World
  pub run : world d log ≡ Some state
  pub frame : Frame
  pub is_frame : frame_at t state ≡ Some frame
  pub holder : ℕ
  pub entry : ℕ
  pub blocked : IsBlockedBy d state frame holder entry

abbrev pub ShowsBlocked : Design → Known → ℕ → Type 0
ShowsBlocked d k t = IsBlockedAfter d k.seen t

-- transaction t is unfinished after these events
pub record IsUnfinishedAfter (d : Design) (t : ℕ) (log : List Event) : Type 0 where
  pub state : World
  pub run : world d log ≡ Some state
  pub unfinished : IsUnfinished t state

abbrev pub May : Design → Known → ℕ → Type 0
May d k t = Owns k.seen k.mine t × IsUnfinishedAfter d t k.seen

-- ---- the keeper's next event

-- the history has one event more, which may be one of this `mine`
pub record IsNext (seen : List Event) (mine : List (ℕ × Event)) (log : List Event) : Type 0 where
  pub event : Event
  pub is : log ≡ seen ++ event ∷ []
  pub may : MayAppend seen mine event
