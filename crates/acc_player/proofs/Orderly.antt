-- The plain machine goes on in one way, and takes no event or reply back.
use Rattle.std.proofs.Common.{◌≡◌, ℕ, ◌-◌, zero, suc, Bool, true, false, List, [], ◌∷◌, ◌++◌, Option, Some, None, refl}
use Rattle.std.proofs.Common.{sym, ap, subst, ◌∙◌, arith, length-append, length-set}
use Rattle.std.specs.Prelude.{◌==◌, if◌then◌else◌, option_and_then, IsSome, IsSomeAnd, slice_get, slice_set}
use Rattle.std.proofs.lemmas.Option.{none-some, same_Some}
use Rattle.acc_base.specs.declared.tables.Row.{Row}
use Rattle.acc_base.specs.declared.designs.Design.{Design}
use Rattle.acc_base.specs.declared.machines.Call.{Call}
use Rattle.acc_base.specs.declared.machines.Event.{Event}
use Rattle.acc_base.specs.declared.machines.Event.TheVariants.{Begin}
use Rattle.acc_base.specs.declared.machines.Reply.{Reply}
use Rattle.acc_base.specs.declared.machines.Transaction.{Transaction}
use Rattle.acc_base.specs.declared.machines.Transaction.TheVariants.{Forward, Undoing, Ended}
use Rattle.acc_base.specs.declared.machines.Turn.{Turn}
use Rattle.acc_base.specs.Machine.{World, begun, next_number, call_fits, with_begun, became, changed, transaction_at, frame_in, reply_in}
use Rattle.acc_base.specs.Machine.{after_event}
use Rattle.acc_base.specs.Turns.{next_event, said, said_of, turn_of}
use Rattle.acc_base.specs.Plays.{plain}
use Rattle.acc_plain.specs.Turned.{IsUnfinished}
use Rattle.acc_player.specs.Ways.{Precedes, AreOrderly}
use Rattle.acc_player.proofs.Mentioning.{unreplied}

-- ---- a transaction becomes another

set_replies : (ts : List Transaction) (i j : ℕ) (y : Transaction) (reply : Reply) → option_and_then reply_in (slice_get ts i) ≡ None
    → option_and_then reply_in (slice_get ts j) ≡ Some reply
    → option_and_then reply_in (slice_get (slice_set ts i y) j) ≡ Some reply
set_replies [] i j y reply free h = h
set_replies (x ∷ ts) zero zero y reply free h = absurd (none-some reply (sym free ∙ h))
set_replies (x ∷ ts) zero (suc j) y reply free h = h
set_replies (x ∷ ts) (suc i) zero y reply free h = h
set_replies (x ∷ ts) (suc i) (suc j) y reply free h = set_replies ts i j y reply free h

-- where an unfinished transaction becomes another after an event, none takes its reply back
pub became_precedes : (w : World) (e : Event) (t : ℕ) (y : List Row × Transaction) → IsUnfinished t w → Precedes w (became w e t y)
became_precedes w e t y unfinished = record {
  more = e ∷ [];
  history = refl;
  count = let same = length-set w.transactions (t - 1) y.1 in omega (arith, same);
  replies = λ u reply there. by (t == 0) (u == 0) u reply (unreplied t w unfinished) unfinished there;
}
  where
    by : (a b : Bool) (u : ℕ) (reply : Reply)
        → option_and_then reply_in (if a then None else slice_get w.transactions (t - 1)) ≡ None
        → IsSomeAnd (if a then None else slice_get w.transactions (t - 1)) (λ x. IsSome (frame_in x))
        → option_and_then reply_in (if b then None else slice_get w.transactions (u - 1)) ≡ Some reply
        → option_and_then reply_in (if b then None else slice_get (slice_set w.transactions (t - 1) y.1) (u - 1)) ≡ Some reply
    by true b u reply free some h = absurd some
    by false true u reply free some h = h
    by false false u reply free some h = set_replies w.transactions (t - 1) (u - 1) y.1 reply free h

-- ---- a turn

turned_so : (d : Design) (w v : World) (t : ℕ) (x : Turn) → turn_of d w t ≡ Some (x, v)
    → IsUnfinished t w × ((e : Event) × (y : List Row × Transaction) × (became w e t y ≡ v))
turned_so d w v t x h = by_transaction (transaction_at t w.transactions) h
  where
    by_change : (e : Event) (o : Option (List Row × Transaction)) → said_of w e t o ≡ Some (x, v)
        → (e : Event) × (y : List Row × Transaction) × (became w e t y ≡ v)
    by_change e None k = absurd (none-some (x, v) k)
    by_change e (Some y) k = (e, y, ap (λ (z : Turn × World). z.1) (same_Some (said e y.1, became w e t y) (x, v) k))

    by_event : (o : Option Event)
        → option_and_then (λ e. said_of w e t (changed d w.rows e (transaction_at t w.transactions))) o ≡ Some (x, v)
        → (e : Event) × (y : List Row × Transaction) × (became w e t y ≡ v)
    by_event None k = absurd (none-some (x, v) k)
    by_event (Some e) k = by_change e (changed d w.rows e (transaction_at t w.transactions)) k

    by_transaction : (o : Option Transaction)
        → option_and_then (λ e. said_of w e t (changed d w.rows e (transaction_at t w.transactions))) (next_event d w.rows o) ≡ Some (x, v)
        → IsSomeAnd o (λ z. IsSome (frame_in z)) × ((e : Event) × (y : List Row × Transaction) × (became w e t y ≡ v))
    by_transaction None k = absurd (none-some (x, v) k)
    by_transaction (Some (Forward f)) k = (refl, by_event (next_event d w.rows (Some (Forward f))) k)
    by_transaction (Some (Undoing f c)) k = (refl, by_event (next_event d w.rows (Some (Undoing f c))) k)
    by_transaction (Some (Ended reply)) k = absurd (none-some (x, v) k)

pub turn_precedes : (d : Design) (w v : World) (t : ℕ) (x : Turn) → turn_of d w t ≡ Some (x, v) → Precedes w v
turn_precedes d w v t x h =
    let so = turned_so d w v t x h in
    subst (Precedes w) so.1.2 (became_precedes w so.1.0 t so.1.1 so.0)

-- ---- a begin

got_more : (ts : List Transaction) (y : Transaction) (i : ℕ) (reply : Reply) → option_and_then reply_in (slice_get ts i) ≡ Some reply
    → option_and_then reply_in (slice_get (ts ++ y ∷ []) i) ≡ Some reply
got_more [] y i reply h = absurd (none-some reply h)
got_more (x ∷ ts) y zero reply h = h
got_more (x ∷ ts) y (suc i) reply h = got_more ts y i reply h

begun_precedes : (d : Design) (w : World) (call : Call) → Precedes w (with_begun d w call)
begun_precedes d w call = record {
  more = Begin call ∷ [];
  history = refl;
  count = let more = length-append w.transactions (Forward (begun d (next_number w) call) ∷ []) in omega (arith, more);
  replies = λ t reply there. by (t == 0) t reply there;
}
  where
    by : (b : Bool) (t : ℕ) (reply : Reply)
        → option_and_then reply_in (if b then None else slice_get w.transactions (t - 1)) ≡ Some reply
        → option_and_then reply_in (if b then None
        else slice_get (w.transactions ++ Forward (begun d (next_number w) call) ∷ []) (t - 1)) ≡ Some reply
    by true t reply h = h
    by false t reply h = got_more w.transactions (Forward (begun d (next_number w) call)) (t - 1) reply h

pub begin_precedes : (d : Design) (w v : World) (call : Call) → after_event d w (Begin call) ≡ Some v → Precedes w v
begin_precedes d w v call h = by (call_fits (slice_get d.types call.ty) call) h
  where
    by : (b : Bool) → (if b then Some (with_begun d w call) else None) ≡ Some v → Precedes w v
    by true k = subst (Precedes w) (same_Some (with_begun d w call) v k) (begun_precedes d w call)
    by false k = absurd (none-some v k)

-- ---- the machine

no_turn : (d : Design) (w : World) (t : ℕ) → ¬ IsUnfinished t w → turn_of d w t ≡ None
no_turn d w t closed = by (transaction_at t w.transactions) closed
  where
    by : (o : Option Transaction) → ¬ IsSomeAnd o (λ z. IsSome (frame_in z))
        → option_and_then (λ e. said_of w e t (changed d w.rows e (transaction_at t w.transactions))) (next_event d w.rows o) ≡ None
    by None k = refl
    by (Some (Forward f)) k = absurd (k refl)
    by (Some (Undoing f c)) k = absurd (k refl)
    by (Some (Ended reply)) k = refl

pub plain_is_orderly : (d : Design) → AreOrderly (plain d)
plain_is_orderly d = record {
  determined = record { begins = λ w call x y h k. sym h.0 ∙ k.0; turns = λ w t x y h k. sym h ∙ k };
  begins = λ w v call h. begin_precedes d w v call h.0;
  turns = λ w v t x h. turn_precedes d w v t x h;
  absent = λ w t closed. no_turn d w t closed;
}
