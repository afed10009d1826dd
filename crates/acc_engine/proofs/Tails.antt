-- A transaction with a turn in the tail hadn't ended before it; another has the reply that it had.
use Rattle.std.proofs.Common.{◌≡◌, ℕ, zero, suc, ◌-◌, ◌<◌, List, [], ◌∷◌, ◌++◌, length, take, Bool, true, false, Option, Some, None}
use Rattle.std.proofs.Common.{refl, sym, ap, subst, ◌∙◌, arith, set, slice_get}
use Rattle.std.specs.Prelude.{◌==◌, ◌||◌, option_and_then, if◌then◌else◌}
use Rattle.std.specs.List.{list_any}
use Rattle.std.proofs.lemmas.Bool.Decides.{nat_tests}
use Rattle.std.proofs.lemmas.Option.{none-some, same_Some}
use Rattle.std.proofs.lemmas.List.{take_at}
use Rattle.acc_base.specs.declared.tables.Row.{Row}
use Rattle.acc_base.specs.declared.designs.Design.{Design}
use Rattle.acc_base.specs.declared.machines.Event.{Event}
use Rattle.acc_base.specs.declared.machines.Event.TheVariants.{Begin, Step, Abort, Undo}
use Rattle.acc_base.specs.declared.machines.Frame.{Frame}
use Rattle.acc_base.specs.declared.machines.Transaction.{Transaction}
use Rattle.acc_base.specs.declared.machines.Transaction.TheVariants.{Forward, Undoing, Ended}
use Rattle.acc_base.specs.Machine.{World, start, world, begun, next_number, call_fits, transaction_at, reply_in, reply_at, changed, becomes}
use Rattle.acc_base.specs.Machine.{became, with_begun, after_event, after_events}
use Rattle.acc_lift.proofs.Transactions.{set_other}
use Rattle.acc_engine.specs.Acks.{is_turn_of}

-- ---- one event

-- one that begins has no reply yet
pushed : (ts : List Transaction) (f : Frame) (j : ℕ)
    → option_and_then reply_in (slice_get (ts ++ Forward f ∷ []) j) ≡ option_and_then reply_in (slice_get ts j)
pushed [] f zero = refl
pushed [] f (suc j) = refl
pushed (x ∷ ts) f zero = refl
pushed (x ∷ ts) f (suc j) = pushed ts f j

reply_pushed : (ts : List Transaction) (f : Frame) (t : ℕ)
    → option_and_then reply_in (transaction_at t (ts ++ Forward f ∷ [])) ≡ option_and_then reply_in (transaction_at t ts)
reply_pushed ts f t = by (t == 0)
  where
    by : (b : Bool) → option_and_then reply_in (if b then None else slice_get (ts ++ Forward f ∷ []) (t - 1))
        ≡ option_and_then reply_in (if b then None else slice_get ts (t - 1))
    by true = refl
    by false = pushed ts f (t - 1)

begin_keeps : (d : Design) (call_frame : Frame) (w v w2 : World) (b : Bool) (t : ℕ) →
    v.transactions ≡ w.transactions ++ Forward call_frame ∷ []
    → (if b then Some v else None) ≡ Some w2 → reply_at t w2 ≡ reply_at t w
begin_keeps d f w v w2 true t is h =
    subst (λ (z : World). reply_at t z ≡ reply_at t w) (same_Some v w2 h)
    (ap (λ (ts : List Transaction). option_and_then reply_in (transaction_at t ts)) is ∙ reply_pushed w.transactions f t)
begin_keeps d f w v w2 false t is h = absurd (none-some w2 h)

-- one other than it turns
pub set_keeps : (ts : List Transaction) (u t : ℕ) (x : Transaction) → 0 < u → (u == t) ≡ false
    → transaction_at t (set ts (u - 1) x) ≡ transaction_at t ts
set_keeps ts u t x from_one other = by (t == 0) refl
  where
    by : (b : Bool) → (t == 0) ≡ b → (if b then None else slice_get (set ts (u - 1) x) (t - 1)) ≡ (if b then None else slice_get ts (t - 1))
    by true e = refl
    by false e = set_other ts (u - 1) (t - 1) x (λ q. grind (arith, nat_tests))

nobody : (d : Design) (db : List Row) (e : Event) (x : List Row × Transaction) → changed d db e None ≡ Some x → ⊥
nobody d db (Begin call) x h = none-some x h
nobody d db (Step u) x h = none-some x h
nobody d db (Abort u c) x h = none-some x h
nobody d db (Undo u) x h = none-some x h

-- a number that is 0 is nobody's
from_one : (d : Design) (w : World) (e : Event) (u : ℕ) (x : List Row × Transaction) →
    changed d w.rows e (transaction_at u w.transactions) ≡ Some x
    → 0 < u
from_one d w e zero x h = absurd (nobody d w.rows e x h)
from_one d w e (suc u) x h = omega arith

becomes_keeps : (d : Design) (w w2 : World) (e : Event) (u t : ℕ) → (u == t) ≡ false
    → becomes w e u (changed d w.rows e (transaction_at u w.transactions)) ≡ Some w2 → reply_at t w2 ≡ reply_at t w
becomes_keeps d w w2 e u t other h = by (changed d w.rows e (transaction_at u w.transactions)) refl h
  where
    by : (o : Option (List Row × Transaction)) → changed d w.rows e (transaction_at u w.transactions) ≡ o → becomes w e u o ≡ Some w2
        → reply_at t w2 ≡ reply_at t w
    by None is k = absurd (none-some w2 k)
    by (Some x) is k =
        subst (λ (z : World). reply_at t z ≡ reply_at t w) (same_Some (became w e u x) w2 k)
        (ap (option_and_then reply_in) (set_keeps w.transactions u t x.1 (from_one d w e u x is) other))

pub event_keeps : (d : Design) (w w2 : World) (e : Event) (t : ℕ) → after_event d w e ≡ Some w2 → is_turn_of t e ≡ false
    → reply_at t w2 ≡ reply_at t w
event_keeps d w w2 (Begin call) t h other =
    begin_keeps d (begun d (next_number w) call) w (with_begun d w call) w2 (call_fits (slice_get d.types call.ty) call) t refl h
event_keeps d w w2 (Step u) t h other = becomes_keeps d w w2 (Step u) u t other h
event_keeps d w w2 (Abort u c) t h other = becomes_keeps d w w2 (Abort u c) u t other h
event_keeps d w w2 (Undo u) t h other = becomes_keeps d w w2 (Undo u) u t other h

-- who has ended has no turn
no_reply : (d : Design) (db : List Row) (e : Event) (o : Option Transaction) (x : List Row × Transaction) → changed d db e o ≡ Some x
    → option_and_then reply_in o ≡ None
no_reply d db e None x h = refl
no_reply d db e (Some (Forward f)) x h = refl
no_reply d db e (Some (Undoing f c)) x h = refl
no_reply d db (Begin call) (Some (Ended reply)) x h = absurd (none-some x h)
no_reply d db (Step u) (Some (Ended reply)) x h = absurd (none-some x h)
no_reply d db (Abort u c) (Some (Ended reply)) x h = absurd (none-some x h)
no_reply d db (Undo u) (Some (Ended reply)) x h = absurd (none-some x h)

becomes_open : (d : Design) (w w2 : World) (e : Event) (u t : ℕ) → (u == t) ≡ true
    → becomes w e u (changed d w.rows e (transaction_at u w.transactions)) ≡ Some w2 → reply_at t w ≡ None
becomes_open d w w2 e u t same h = by (changed d w.rows e (transaction_at u w.transactions)) refl h
  where
    is : u ≡ t
    is = grind (arith, nat_tests)

    by : (o : Option (List Row × Transaction)) → changed d w.rows e (transaction_at u w.transactions) ≡ o → becomes w e u o ≡ Some w2
        → reply_at t w ≡ None
    by None found k = absurd (none-some w2 k)
    by (Some x) found k = subst (λ n. reply_at n w ≡ None) is (no_reply d w.rows e (transaction_at u w.transactions) x found)

pub event_open : (d : Design) (w w2 : World) (e : Event) (t : ℕ) → after_event d w e ≡ Some w2 → is_turn_of t e ≡ true → reply_at t w ≡ None
event_open d w w2 (Begin call) t h same = absurd cc
event_open d w w2 (Step u) t h same = becomes_open d w w2 (Step u) u t same h
event_open d w w2 (Abort u c) t h same = becomes_open d w w2 (Abort u c) u t same h
event_open d w w2 (Undo u) t h same = becomes_open d w w2 (Undo u) u t same h

-- ---- lists of events

next_of : (d : Design) (rest : List Event) (o : Option World) (w : World) → option_and_then (λ x. after_events d x rest) o ≡ Some w
    → (v : World) × (o ≡ Some v) × (after_events d v rest ≡ Some w)
next_of d rest None w h = absurd (none-some w h)
next_of d rest (Some v) w h = (v, refl, h)

-- the state between two lists
pub between : (d : Design) (w w2 : World) (xs ys : List Event) → after_events d w (xs ++ ys) ≡ Some w2
    → (v : World) × (after_events d w xs ≡ Some v) × (after_events d v ys ≡ Some w2)
between d w w2 [] ys h = (w, refl, h)
between d w w2 (e ∷ xs) ys h =
    let next = next_of d (xs ++ ys) (after_event d w e) w2 h in
    let rest = between d next.0 w2 xs ys next.2 in
    (rest.0, ap (option_and_then (λ x. after_events d x xs)) next.1 ∙ rest.1, rest.2)

or_none : (a b : Bool) → (a || b) ≡ false → (a ≡ false) × (b ≡ false)
or_none true b h = absurd cc
or_none false b h = (refl, h)

pub events_keep : (d : Design) (w w2 : World) (events : List Event) (t : ℕ) → after_events d w events ≡ Some w2
    → list_any (is_turn_of t) events ≡ false → reply_at t w2 ≡ reply_at t w
events_keep d w w2 [] t h none = sym (ap (reply_at t) (same_Some w w2 h))
events_keep d w w2 (e ∷ events) t h none =
    let next = next_of d events (after_event d w e) w2 h in
    let k = or_none (is_turn_of t e) (list_any (is_turn_of t) events) none in
    events_keep d next.0 w2 events t next.2 k.1 ∙ event_keeps d w next.0 e t next.1 k.0

pub events_open : (d : Design) (w w2 : World) (events : List Event) (t : ℕ) → after_events d w events ≡ Some w2
    → list_any (is_turn_of t) events ≡ true → reply_at t w ≡ None
events_open d w w2 [] t h some = absurd cc
events_open d w w2 (e ∷ events) t h some = by (is_turn_of t e) refl some (events_open d next.0 w2 events t next.2)
  where
    next : (v : World) × (after_event d w e ≡ Some v) × (after_events d v events ≡ Some w2)
    next = next_of d events (after_event d w e) w2 h

    by : (b : Bool) → is_turn_of t e ≡ b → (b || list_any (is_turn_of t) events) ≡ true
        → (list_any (is_turn_of t) events ≡ true → reply_at t next.0 ≡ None) → reply_at t w ≡ None
    by true is k later = event_open d w next.0 e t next.1 is
    by false is k later = sym (event_keeps d w next.0 e t next.1 is) ∙ later k

-- ---- a history whose front is durable

module _ (d : Design) (w : World) (durable tail : List Event) (t : ℕ) (run : world d w.events ≡ Some w) (same : durable ++ tail ≡ w.events)
  where
    fronts : take (length durable) w.events ≡ durable
    fronts = ap (take (length durable)) (sym same) ∙ take_at durable tail (length durable) refl

    halves : (v : World) × (after_events d start durable ≡ Some v) × (after_events d v tail ≡ Some w)
    halves = between d start w durable tail (ap (after_events d start) same ∙ run)

    there : option_and_then (reply_at t) (world d (take (length durable) w.events)) ≡ reply_at t halves.0
    there = ap (λ (l : List Event). option_and_then (reply_at t) (world d l)) fronts ∙ ap (option_and_then (reply_at t)) halves.1

    pub reply_there : list_any (is_turn_of t) tail ≡ false →
        reply_at t w ≡ option_and_then (reply_at t) (world d (take (length durable) w.events))
    reply_there none = events_keep d halves.0 w tail t halves.2 none ∙ sym there

    pub none_there : list_any (is_turn_of t) tail ≡ true → None ≡ option_and_then (reply_at t) (world d (take (length durable) w.events))
    none_there some = sym (events_open d halves.0 w tail t halves.2 some) ∙ sym there
