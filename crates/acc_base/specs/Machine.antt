-- The plain machine of steps: its states, and what each event does.
use Rattle.std.specs.Prelude.{ℕ, ◌+◌, ◌-◌, Bool, true, false, ◌&&◌, ◌==◌, nat_lt, nat_le, if◌then◌else◌, List, [], ◌∷◌, ◌++◌, length, map}
use Rattle.std.specs.Prelude.{replicate, slice_get, slice_set, Option, Some, None, option_and_then, pos}
use Rattle.std.specs.List.{list_all, filter_map}
use Rattle.acc_base.specs.declared.bounds.TheConstants.{LATEST_ASK, LONGEST_TAPE}
use Rattle.acc_base.specs.declared.tables.Row.{Row}
use Rattle.acc_base.specs.declared.steps.Target.{Target}
use Rattle.acc_base.specs.declared.steps.Target.TheVariants.{Point as ToPoint, Commit, Undone, Refuse}
use Rattle.acc_base.specs.declared.designs.Design.{Design}
use Rattle.acc_base.specs.declared.designs.TxType.{TxType}
use Rattle.acc_base.specs.declared.designs.Side.{Side}
use Rattle.acc_base.specs.declared.designs.Side.TheVariants.{Next, Undo as UndoSide}
use Rattle.acc_base.specs.declared.machines.Frame.{Frame}
use Rattle.acc_base.specs.declared.machines.Call.{Call}
use Rattle.acc_base.specs.declared.machines.Cause.{Cause}
use Rattle.acc_base.specs.declared.machines.Cause.TheVariants.{Refused, Range, Limit, Asked, Victim, Crash}
use Rattle.acc_base.specs.declared.machines.Event.{Event}
use Rattle.acc_base.specs.declared.machines.Event.TheVariants.{Begin, Step, Abort, Undo}
use Rattle.acc_base.specs.declared.machines.Outcome.TheVariants.{Committed, Compensated}
use Rattle.acc_base.specs.declared.machines.Reply.{Reply}
use Rattle.acc_base.specs.declared.machines.Transaction.{Transaction}
use Rattle.acc_base.specs.declared.machines.Transaction.TheVariants.{Forward, Undoing, Ended}
use Rattle.acc_base.specs.Numbers.{is_small}
use Rattle.acc_base.specs.RunEquality.{cause_eq}
use Rattle.acc_base.specs.Items.{item_at}
use Rattle.acc_base.specs.Linear.{var}
use Rattle.acc_base.specs.Reads.{Reading}
use Rattle.acc_base.specs.Effects.{Effect, Goes, Refuses, OutOfRange, effect_of}

-- a state: the rows, the transactions by number (number t stands at place t - 1), and the events so far
pub record World : Type 0 where
  pub rows : List Row
  pub transactions : List Transaction
  pub events : List Event

-- the state before any event
abbrev pub start : World
start = record { rows = []; transactions = []; events = [] }

-- ---- parts of a state

-- transaction number t; numbers begin with 1
abbrev pub transaction_at : ℕ → List Transaction → Option Transaction
transaction_at t transactions = item_at t transactions

-- the frame of an unfinished transaction
abbrev pub frame_in : Transaction → Option Frame
frame_in (Forward f) = Some f
frame_in (Undoing f c) = Some f
frame_in (Ended reply) = None

abbrev pub reply_in : Transaction → Option Reply
reply_in (Forward f) = None
reply_in (Undoing f c) = None
reply_in (Ended reply) = Some reply

-- the reply of transaction t, if it has ended
abbrev pub reply_at : ℕ → World → Option Reply
reply_at t w = option_and_then reply_in (transaction_at t w.transactions)

-- the unfinished transactions, in order of number
abbrev pub unfinished : World → List Frame
unfinished w = filter_map frame_in w.transactions

-- one above all numbers before
abbrev pub next_number : World → ℕ
next_number w = length w.transactions + 1

abbrev pub limit_of : Option TxType → ℕ
limit_of None = 0
limit_of (Some x) = x.limit

abbrev pub returns_of : Option TxType → List ℕ
returns_of None = []
returns_of (Some x) = x.returns

-- ---- why a forward transaction takes no step

abbrev pub is_asked : Option ℕ → ℕ → Bool
is_asked None steps = false
is_asked (Some n) steps = n == steps

abbrev pub stop_by : Effect → Option Cause
stop_by OutOfRange = Some Range
stop_by (Refuses s n) = Some (Refused n)
stop_by (Goes db s i to) = None

-- the first that applies: it was asked to turn here, it has no steps left, a number of its step leaves the range, or its step refuses
abbrev pub stop_of : Design → List Row → Frame → Option Cause
stop_of d db f =
    if is_asked f.ask f.steps then Some Asked
    else (if nat_lt f.steps (limit_of (slice_get d.types f.ty)) then stop_by (effect_of d db f Next) else Some Limit)

abbrev pub is_cause : Cause → Option Cause → Bool
is_cause c None = false
is_cause c (Some e) = cause_eq c e

-- whether a forward transaction may turn for this cause, locks apart: a crash and a victim may come at any time
abbrev pub may_turn : Design → List Row → Frame → Cause → Bool
may_turn d db f Crash = true
may_turn d db f Victim = true
may_turn d db f (Refused n) = is_cause (Refused n) (stop_of d db f)
may_turn d db f Range = is_cause Range (stop_of d db f)
may_turn d db f Limit = is_cause Limit (stop_of d db f)
may_turn d db f Asked = is_cause Asked (stop_of d db f)

-- ---- a transaction begins

-- an abort can be asked for ahead of any of its steps
abbrev pub ask_fits : Option ℕ → Bool
ask_fits None = true
ask_fits (Some n) = nat_le n LATEST_ASK

-- the type exists and has so many parameters, and the numbers are in range
abbrev pub call_fits : Option TxType → Call → Bool
call_fits None call = false
call_fits (Some x) call =
    (length call.params == x.params) && list_all is_small call.params && list_all is_small call.tape
    && nat_le (length call.tape) LONGEST_TAPE
    && ask_fits call.ask

abbrev pub locals_in : Option TxType → ℕ
locals_in None = 0
locals_in (Some x) = length x.locals

-- a transaction as it begins: at its first point, its locals the parameters and then zeros
abbrev pub begun : Design → ℕ → Call → Frame
begun d t call =
    record {
      t = t;
      ty = call.ty;
      point = 0;
      side = Next;
      locals = call.params ++ replicate (locals_in (slice_get d.types call.ty) - length call.params) (pos 0);
      tape = call.tape;
      pos = 0;
      steps = 0;
      ask = call.ask;
    }

-- ---- a transaction takes a step

-- the frame at a point, with what the reads left; a forward step counts
abbrev pub moved : Side → Frame → Reading → ℕ → Frame
moved Next f s p = record f { locals = s.locals; pos = s.at; point = p; steps = f.steps + 1 }
moved UndoSide f s p = record f { locals = s.locals; pos = s.at; point = p }

-- the reply of a transaction that commits: its returned locals
abbrev pub committed : Design → Frame → Reading → Reply
committed d f s = record { t = f.t; outcome = Committed (map (var s.locals) (returns_of (slice_get d.types f.ty))) }

-- where a forward step's path leads: to a point, or to a commit
abbrev pub forward_to : Design → Frame → Reading → Target → Option Transaction
forward_to d f s (ToPoint p) = Some (Forward (moved Next f s p))
forward_to d f s Commit = Some (Ended (committed d f s))
forward_to d f s Undone = None
forward_to d f s (Refuse n) = None

-- where an undo step's path leads: to a point, or to the end of compensation
abbrev pub back_to : Frame → Cause → Reading → Target → Option Transaction
back_to f c s (ToPoint p) = Some (Undoing (moved UndoSide f s p) c)
back_to f c s Commit = None
back_to f c s Undone = Some (Ended (record { t = f.t; outcome = Compensated c }))
back_to f c s (Refuse n) = None

-- the rows and the transaction after an effect that goes on or ends
abbrev pub with_rows : List Row → Option Transaction → Option (List Row × Transaction)
with_rows db None = None
with_rows db (Some x) = Some (db, x)

abbrev pub forward_by : Design → Frame → Effect → Option (List Row × Transaction)
forward_by d f (Goes db s i to) = with_rows db (forward_to d f s to)
forward_by d f (Refuses s n) = None
forward_by d f OutOfRange = None

abbrev pub back_by : Frame → Cause → Effect → Option (List Row × Transaction)
back_by f c (Goes db s i to) = with_rows db (back_to f c s to)
back_by f c (Refuses s n) = None
back_by f c OutOfRange = None

-- a forward transaction's step, where nothing stops it
abbrev pub step_by : Design → List Row → Frame → Option Cause → Option (List Row × Transaction)
step_by d db f None = forward_by d f (effect_of d db f Next)
step_by d db f (Some c) = None

abbrev pub stepped : Design → List Row → Option Transaction → Option (List Row × Transaction)
stepped d db (Some (Forward f)) = step_by d db f (stop_of d db f)
stepped d db (Some (Undoing f c)) = None
stepped d db (Some (Ended reply)) = None
stepped d db None = None

-- a forward transaction turns: it is undone from here on
abbrev pub turned : Design → List Row → Cause → Option Transaction → Option (List Row × Transaction)
turned d db c (Some (Forward f)) = if may_turn d db f c then Some (db, Undoing (record f { side = UndoSide }) c) else None
turned d db c (Some (Undoing f e)) = None
turned d db c (Some (Ended reply)) = None
turned d db c None = None

-- an undo step
abbrev pub undone : Design → List Row → Option Transaction → Option (List Row × Transaction)
undone d db (Some (Forward f)) = None
undone d db (Some (Undoing f c)) = back_by f c (effect_of d db f UndoSide)
undone d db (Some (Ended reply)) = None
undone d db None = None

-- ---- events

-- the state in which transaction t has become this, after event e
abbrev pub became : World → Event → ℕ → List Row × Transaction → World
became w e t x = record { rows = x.0; transactions = slice_set w.transactions (t - 1) x.1; events = w.events ++ e ∷ [] }

abbrev pub becomes : World → Event → ℕ → Option (List Row × Transaction) → Option World
becomes w e t None = None
becomes w e t (Some x) = Some (became w e t x)

-- the state after a transaction began
abbrev pub with_begun : Design → World → Call → World
with_begun d w call =
    record w { transactions = w.transactions ++ Forward (begun d (next_number w) call) ∷ []; events = w.events ++ Begin call ∷ [] }

-- what an event of one transaction does with the rows and with that transaction
abbrev pub changed : Design → List Row → Event → Option Transaction → Option (List Row × Transaction)
changed d db (Begin call) x = None
changed d db (Step t) x = stepped d db x
changed d db (Abort t c) x = turned d db c x
changed d db (Undo t) x = undone d db x

-- the state after an event, or none where the machine does not allow it
abbrev pub after_event : Design → World → Event → Option World
after_event d w (Begin call) = if call_fits (slice_get d.types call.ty) call then Some (with_begun d w call) else None
after_event d w (Step t) = becomes w (Step t) t (changed d w.rows (Step t) (transaction_at t w.transactions))
after_event d w (Abort t c) = becomes w (Abort t c) t (changed d w.rows (Abort t c) (transaction_at t w.transactions))
after_event d w (Undo t) = becomes w (Undo t) t (changed d w.rows (Undo t) (transaction_at t w.transactions))

-- ---- runs

abbrev pub after_events : Design → World → List Event → Option World
after_events d w [] = Some w
after_events d w (e ∷ rest) = option_and_then (λ x. after_events d x rest) (after_event d w e)

-- the state after a run, and none where the events are no run
abbrev pub world : Design → List Event → Option World
world d events = after_events d start events
