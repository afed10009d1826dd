-- What a turn leaves: no other transaction's reply changes; its own transaction is unfinished, unless the turn was its end.
use Rattle.std.proofs.Common.{◌≡◌, ℕ, zero, suc, ◌-◌, ◌<◌, ◌≤◌, List, [], ◌∷◌, ◌++◌, length, Bool, true, false, Option, Some, None}
use Rattle.std.proofs.Common.{refl, sym, ap, subst, ◌∙◌, arith}
use Rattle.std.specs.Prelude.{◌≢◌, ◌==◌, if◌then◌else◌, option_and_then, IsSome, IsSomeAnd, slice_get}
use Rattle.std.specs.List.{list_any}
use Rattle.std.proofs.lemmas.List.{append-nil}
use Rattle.std.proofs.lemmas.Option.{none-some, same_Some}
use Rattle.std.proofs.lemmas.Bool.Decides.{nat_tests}
use Rattle.acc_base.specs.declared.tables.Row.{Row}
use Rattle.acc_base.specs.declared.designs.Design.{Design}
use Rattle.acc_base.specs.declared.designs.Side.TheVariants.{Undo as UndoSide}
use Rattle.acc_base.specs.declared.machines.Call.{Call}
use Rattle.acc_base.specs.declared.machines.Cause.{Cause}
use Rattle.acc_base.specs.declared.machines.Cause.TheVariants.{Victim}
use Rattle.acc_base.specs.declared.machines.Event.{Event}
use Rattle.acc_base.specs.declared.machines.Event.TheVariants.{Begin, Step, Abort, Undo}
use Rattle.acc_base.specs.declared.machines.Transaction.{Transaction}
use Rattle.acc_base.specs.declared.machines.Transaction.TheVariants.{Forward, Undoing, Ended}
use Rattle.acc_base.specs.declared.machines.Turn.{Turn}
use Rattle.acc_base.specs.declared.machines.Turn.TheVariants as turn
use Rattle.acc_base.specs.Machine.{World, transaction_at, frame_in, reply_in, reply_at, may_turn, changed, became, becomes, after_event}
use Rattle.acc_base.specs.Machine.{after_events, begun, next_number, with_begun, call_fits}
use Rattle.acc_base.specs.Turns.{next_event, standing, said, said_of, turn_of}
use Rattle.acc_lift.proofs.Transactions.{set_new, at_within, at_from}
use Rattle.acc_machine.specs.Turned.{IsUnfinished}
use Rattle.acc_machine.specs.Turns.{IsTurn, goes, victim, blocked, AddsBy}
use Rattle.acc_engine.specs.Acks.{is_turn_of}
use Rattle.acc_engine.proofs.Tails.{set_keeps, events_keep, events_open}

-- ---- an unfinished transaction

pub record Open (t : ℕ) (w : World) : Type 0 where
  pub x : Transaction
  pub at : transaction_at t w.transactions ≡ Some x
  pub frame : IsSome (frame_in x)

pub open_of : (t : ℕ) (w : World) → IsUnfinished t w → Open t w
open_of t w h = by (transaction_at t w.transactions) refl h
  where
    by : (o : Option Transaction) → transaction_at t w.transactions ≡ o → IsSomeAnd o (λ x. IsSome (frame_in x)) → Open t w
    by None e k = absurd k
    by (Some x) e k = record { x = x; at = e; frame = k }

pub is_open : (t : ℕ) (w : World) (x : Transaction) → transaction_at t w.transactions ≡ Some x → IsSome (frame_in x)
    → IsUnfinished t w
is_open t w x at some = subst (λ (o : Option Transaction). IsSomeAnd o (λ y. IsSome (frame_in y))) (sym at) some

framed : (x : Transaction) → reply_in x ≡ None → IsSome (frame_in x)
framed (Forward f) h = refl
framed (Undoing f c) h = refl
framed (Ended reply) h = absurd cc

unframed : (x : Transaction) → IsSome (frame_in x) → reply_in x ≡ None
unframed (Forward f) h = refl
unframed (Undoing f c) h = refl
unframed (Ended reply) h = absurd cc

pub no_reply : (t : ℕ) (w : World) → IsUnfinished t w → reply_at t w ≡ None
no_reply t w h = let o = open_of t w h in ap (option_and_then reply_in) o.at ∙ unframed o.x o.frame

-- ---- what a turn leaves

unended : (y : Transaction) (x : Turn) → standing y ≡ x → x ≢ turn.Ended → IsSome (frame_in y)
unended (Forward f) x is n = refl
unended (Undoing f c) x is n = refl
unended (Ended reply) x is n = absurd (n (sym is))

turned_open : (d : Design) (db : List Row) (t : ℕ) (c : Cause) (o : Option Transaction) (y : List Row × Transaction)
    → changed d db (Abort t c) o ≡ Some y → IsSome (frame_in y.1)
turned_open d db t c None y h = absurd (none-some y h)
turned_open d db t c (Some (Undoing f e)) y h = absurd (none-some y h)
turned_open d db t c (Some (Ended reply)) y h = absurd (none-some y h)
turned_open d db t c (Some (Forward f)) y h = by (may_turn d db f c) h
  where
    left : List Row × Transaction
    left = (db, Undoing (record f { side = UndoSide }) c)

    by : (b : Bool) → (if b then Some left else None) ≡ Some y → IsSome (frame_in y.1)
    by true k = subst (λ (z : List Row × Transaction). IsSome (frame_in z.1)) (same_Some left y k) refl
    by false k = absurd (none-some y k)

left_open : (d : Design) (db : List Row) (e : Event) (o : Option Transaction) (y : List Row × Transaction) (x : Turn)
    → changed d db e o ≡ Some y → said e y.1 ≡ x → x ≢ turn.Ended → IsSome (frame_in y.1)
left_open d db (Begin call) o y x h is n = absurd (none-some y h)
left_open d db (Step t) o y x h is n = unended y.1 x is n
left_open d db (Abort t c) o y x h is n = turned_open d db t c o y h
left_open d db (Undo t) o y x h is n = unended y.1 x is n

standing_ended : (y : Transaction) → standing y ≡ turn.Ended → IsSome (frame_in y) → ⊥
standing_ended (Forward f) is some = cc
standing_ended (Undoing f c) is some = cc
standing_ended (Ended reply) is some = cc

said_ended : (e : Event) (y : Transaction) → said e y ≡ turn.Ended → IsSome (frame_in y) → ⊥
said_ended (Begin call) y is some = standing_ended y is some
said_ended (Step t) y is some = standing_ended y is some
said_ended (Abort t c) y is some = cc
said_ended (Undo t) y is some = standing_ended y is some

-- the transaction has become another by an event, which says so of the turn
record Becomes (d : Design) (old new : World) (t : ℕ) (x : Turn) : Type 0 where
  event : Event
  after : List Row × Transaction
  changes : changed d old.rows event (transaction_at t old.transactions) ≡ Some after
  says : said event after.1 ≡ x
  is : became old event t after ≡ new

by_turn : (d : Design) (old new : World) (t : ℕ) (x : Turn) → turn_of d old t ≡ Some (x, new) → Becomes d old new t x
by_turn d old new t x h = by_event (next_event d old.rows (transaction_at t old.transactions)) h
  where
    by_change : (e : Event) (o : Option (List Row × Transaction)) → changed d old.rows e (transaction_at t old.transactions) ≡ o
        → said_of old e t o ≡ Some (x, new) → Becomes d old new t x
    by_change e None c k = absurd (none-some (x, new) k)
    by_change e (Some y) c k =
        let pair : ◌≡◌ {A = Turn × World} (said e y.1, became old e t y) (x, new) = same_Some (said e y.1, became old e t y) (x, new) k in
        record {
          event = e;
          after = y;
          changes = c;
          says = ap (λ (z : Turn × World). z.0) pair;
          is = ap (λ (z : Turn × World). z.1) pair;
        }

    by_event : (o : Option Event)
        → option_and_then (λ e. said_of old e t (changed d old.rows e (transaction_at t old.transactions))) o ≡ Some (x, new)
        → Becomes d old new t x
    by_event None k = absurd (none-some (x, new) k)
    by_event (Some e) k = by_change e (changed d old.rows e (transaction_at t old.transactions)) refl k

by_victim : (d : Design) (old new : World) (t : ℕ) → after_event d old (Abort t Victim) ≡ Some new
    → Becomes d old new t (turn.Turned Victim)
by_victim d old new t h = by (changed d old.rows (Abort t Victim) (transaction_at t old.transactions)) refl h
  where
    by : (o : Option (List Row × Transaction)) → changed d old.rows (Abort t Victim) (transaction_at t old.transactions) ≡ o
        → becomes old (Abort t Victim) t o ≡ Some new → Becomes d old new t (turn.Turned Victim)
    by None c k = absurd (none-some new k)
    by (Some y) c k = record {
      event = Abort t Victim;
      after = y;
      changes = c;
      says = refl;
      is = same_Some (became old (Abort t Victim) t y) new k;
    }

module _ (d : Design) (old new : World) (t : ℕ) (x : Turn) (unfinished : IsUnfinished t old) (b : Becomes d old new t x) where
  there : transaction_at t new.transactions ≡ Some b.after.1
  there =
      let o = open_of t old unfinished in
      subst (λ (z : World). transaction_at t z.transactions ≡ Some b.after.1) b.is (set_new t old.transactions o.x b.after.1 o.at)

  goes_open : x ≢ turn.Ended → IsUnfinished t new
  goes_open n =
      is_open t new b.after.1 there (left_open d old.rows b.event (transaction_at t old.transactions) b.after x b.changes b.says n)

  goes_over : x ≡ turn.Ended → IsUnfinished t new → ⊥
  goes_over e k =
      let o = open_of t new k in
      said_ended b.event b.after.1 (b.says ∙ e)
      (subst (λ (y : Transaction). IsSome (frame_in y)) (same_Some o.x b.after.1 (sym o.at ∙ there)) o.frame)

-- a turn that isn't its end leaves the transaction unfinished
pub turn_leaves : (d : Design) (old new : World) (t : ℕ) (x : Turn) → IsUnfinished t old → IsTurn d old new t x → x ≢ turn.Ended
    → IsUnfinished t new
turn_leaves d old new t x k (goes y is free) n = goes_open d old new t y k (by_turn d old new t y is) n
turn_leaves d old new t x k (victim f at stuck is) n = goes_open d old new t (turn.Turned Victim) k (by_victim d old new t is) n
turn_leaves d old new t x k (blocked f h e at stop low loose same) n = subst (IsUnfinished t) (sym same) k

-- and one that is its end doesn't
pub turn_ends : (d : Design) (old new : World) (t : ℕ) (x : Turn) → IsUnfinished t old → IsTurn d old new t x → x ≡ turn.Ended
    → IsUnfinished t new → ⊥
turn_ends d old new t x k (goes y is free) e = goes_over d old new t y k (by_turn d old new t y is) e
turn_ends d old new t x k (victim f at stuck is) e = absurd cc
turn_ends d old new t x k (blocked f h n at stop low loose same) e = absurd cc

-- ---- replies

unequal : (t u : ℕ) → u ≢ t → (t == u) ≡ false
unequal t u other = by (t == u) refl
  where
    by : (b : Bool) → (t == u) ≡ b → b ≡ false
    by true e = absurd (other (grind (arith, nat_tests)))
    by false e = refl

others_by : (d : Design) (old new : World) (t : ℕ) (x : Turn) → IsUnfinished t old → Becomes d old new t x → (u : ℕ) → u ≢ t
    → reply_at u new ≡ reply_at u old
others_by d old new t x unfinished b u other =
    let o = open_of t old unfinished in
    let within = at_within t old.transactions o.x o.at in
    subst (λ (z : World). reply_at u z ≡ reply_at u old) b.is
    (ap (option_and_then reply_in) (set_keeps old.transactions t u b.after.1 within.0 (unequal t u other)))

-- the others' replies stay
pub turn_keeps : (d : Design) (old new : World) (t : ℕ) (x : Turn) → IsUnfinished t old → IsTurn d old new t x → (u : ℕ) → u ≢ t
    → reply_at u new ≡ reply_at u old
turn_keeps d old new t x k (goes y is free) u n = others_by d old new t y k (by_turn d old new t y is) u n
turn_keeps d old new t x k (victim f at stuck is) u n = others_by d old new t (turn.Turned Victim) k (by_victim d old new t is) u n
turn_keeps d old new t x k (blocked f h e at stop low loose same) u n = ap (reply_at u) same

-- and so does its own, where the turn isn't its end
pub turn_stays : (d : Design) (old new : World) (t : ℕ) (x : Turn) → IsUnfinished t old → IsTurn d old new t x → x ≢ turn.Ended
    → reply_at t new ≡ reply_at t old
turn_stays d old new t x k turned n = no_reply t new (turn_leaves d old new t x k turned n) ∙ sym (no_reply t old k)

-- a turn adds one event or none
pub turn_adds : (old new : World) (t : ℕ) (x : Turn) → AddsBy old new t x → (more : List Event) × (new.events ≡ old.events ++ more)
turn_adds old new t (turn.Stepped at) a = (a.event ∷ [], a.added)
turn_adds old new t (turn.Blocked h n) a = ([], ap (λ (w : World). w.events) a ∙ sym (append-nil old.events))
turn_adds old new t (turn.Turned c) a = (a.event ∷ [], a.added)
turn_adds old new t (turn.Back at) a = (a.event ∷ [], a.added)
turn_adds old new t turn.Ended a = (a.event ∷ [], a.added)

-- ---- blocks

-- the plain machine blocks nobody
said_unblocked : (e : Event) (y : Transaction) (h n : ℕ) → said e y ≡ turn.Blocked h n → ⊥
said_unblocked (Begin call) (Forward f) h n is = cc
said_unblocked (Begin call) (Undoing f c) h n is = cc
said_unblocked (Begin call) (Ended reply) h n is = cc
said_unblocked (Step t) (Forward f) h n is = cc
said_unblocked (Step t) (Undoing f c) h n is = cc
said_unblocked (Step t) (Ended reply) h n is = cc
said_unblocked (Abort t c) y h n is = cc
said_unblocked (Undo t) (Forward f) h n is = cc
said_unblocked (Undo t) (Undoing f c) h n is = cc
said_unblocked (Undo t) (Ended reply) h n is = cc

pub turn_unblocked : (d : Design) (old new : World) (t h n : ℕ) → turn_of d old t ≡ Some (turn.Blocked h n, new) → ⊥
turn_unblocked d old new t h n k =
    let b = by_turn d old new t (turn.Blocked h n) k in
    said_unblocked b.event b.after.1 h n b.says

-- ---- a transaction begins

pub begun_open : (d : Design) (w v : World) (call : Call) → after_event d w (Begin call) ≡ Some v → IsUnfinished (next_number w) v
begun_open d w v call h = by (call_fits (slice_get d.types call.ty) call) h
  where
    new : Transaction
    new = Forward (begun d (next_number w) call)

    at_end : (ts : List Transaction) (x : Transaction) → slice_get (ts ++ x ∷ []) (length ts) ≡ Some x
    at_end [] x = refl
    at_end (y ∷ ts) x = at_end ts x

    at : transaction_at (next_number w) (w.transactions ++ new ∷ []) ≡ Some new
    at =
        let from : next_number w - 1 ≡ length w.transactions = omega arith in
        at_from (next_number w) (w.transactions ++ new ∷ []) (omega arith) ∙ ap (slice_get (w.transactions ++ new ∷ [])) from
        ∙ at_end w.transactions new

    by : (b : Bool) → (if b then Some (with_begun d w call) else None) ≡ Some v → IsUnfinished (next_number w) v
    by true k =
        is_open (next_number w) v new
        (subst (λ (z : World). transaction_at (next_number w) z.transactions ≡ Some new) (same_Some (with_begun d w call) v k) at) refl
    by false k = absurd (none-some v k)

-- ---- what was unfinished later was unfinished before, where it had begun

pub was_open : (d : Design) (w v : World) (events : List Event) (t : ℕ) → after_events d w events ≡ Some v → 0 < t
    → t ≤ length w.transactions → IsUnfinished t v → IsUnfinished t w
was_open d w v events t run from_one within k =
    let x = found w.transactions (t - 1) (omega arith) in
    let at : transaction_at t w.transactions ≡ Some x.0 = at_from t w.transactions from_one ∙ x.1 in
    is_open t w x.0 at (framed x.0 (sym (ap (option_and_then reply_in) at) ∙ none))
  where
    found : (ts : List Transaction) (i : ℕ) → i < length ts → (x : Transaction) × (slice_get ts i ≡ Some x)
    found [] i lt = absurd (omega arith)
    found (y ∷ ts) zero lt = (y, refl)
    found (y ∷ ts) (suc i) lt = found ts i (omega arith)

    none : reply_at t w ≡ None
    none = by (list_any (is_turn_of t) events) refl
      where
        by : (b : Bool) → list_any (is_turn_of t) events ≡ b → reply_at t w ≡ None
        by true e = events_open d w v events t run e
        by false e = sym (events_keep d w v events t run e) ∙ no_reply t v k
