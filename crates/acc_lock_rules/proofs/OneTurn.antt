-- In each state the rules of locks give a transaction one turn.
use Rattle.std.proofs.Common.{◌≡◌, ℕ, ◌<◌, Option, Some, None, refl, sym, ap, subst, ◌∙◌, arith}
use Rattle.std.specs.Prelude.{IsSome, IsSomeAnd, option_and_then}
use Rattle.std.proofs.lemmas.Option.{same_Some, none-some}
use Rattle.acc_base.specs.declared.designs.Design.{Design}
use Rattle.acc_base.specs.declared.machines.Call.{Call}
use Rattle.acc_base.specs.declared.machines.Cause.TheVariants.{Victim}
use Rattle.acc_base.specs.declared.machines.Event.TheVariants.{Abort}
use Rattle.acc_base.specs.declared.machines.Frame.{Frame}
use Rattle.acc_base.specs.declared.machines.Transaction.{Transaction}
use Rattle.acc_base.specs.declared.machines.Transaction.TheVariants.{Forward, Undoing, Ended}
use Rattle.acc_base.specs.declared.machines.Turn.{Turn}
use Rattle.acc_base.specs.declared.machines.Turn.TheVariants as turn
use Rattle.acc_base.specs.Locks.{IsStuck, IsHeldUp}
use Rattle.acc_base.specs.Machine.{World, transaction_at, frame_in, stop_of, changed, after_event}
use Rattle.acc_base.specs.Plays.{IsDetermined}
use Rattle.acc_base.specs.Turns.{next_event, said_of, turn_of}
use Rattle.acc_plain.specs.Turned.{IsUnfinished}
use Rattle.acc_machine.specs.Lowest.{IsLowestBlocker}
use Rattle.acc_machine.specs.Turns.{IsFree, IsTurn, goes, victim, blocked}
use Rattle.acc_lock_rules.specs.LockRules.{BeginsWithRoom, TurnsByLocks, with_locks}

-- ---- begins

one_begin : (d : Design) (w : World) (call : Call) (x y : Option World) → BeginsWithRoom d w call x → BeginsWithRoom d w call y → x ≡ y
one_begin d w call None None h k = refl
one_begin d w call None (Some v) h k = absurd (h k.0)
one_begin d w call (Some v) None h k = absurd (k h.0)
one_begin d w call (Some v) (Some u) h k = sym h.1 ∙ k.1

-- ---- turns

-- the transaction is forward and nothing stops its step, and this one blocks it before all others
record Waits (d : Design) (w : World) (t h n : ℕ) : Type 0 where
  frame : Frame
  forward : transaction_at t w.transactions ≡ Some (Forward frame)
  free : stop_of d w.rows frame ≡ None
  lowest : IsLowestBlocker d w frame h n

-- the three ways of a turn
data Way (d : Design) (old new : World) (t : ℕ) (x : Turn) : Type 0 where
  on : turn_of d old t ≡ Some (x, new) → IsFree d old t → Way d old new t x
  fallen :
      (f : Frame) → transaction_at t old.transactions ≡ Some (Forward f) → IsStuck d old → after_event d old (Abort t Victim) ≡ Some new
      → x ≡ turn.Turned Victim → Way d old new t x
  held : (h n : ℕ) → Waits d old t h n → ¬ IsStuck d old → new ≡ old → x ≡ turn.Blocked h n → Way d old new t x

way : (d : Design) (old new : World) (t : ℕ) (x : Turn) → IsTurn d old new t x → Way d old new t x
way d old new t x (goes y is free) = on is free
way d old new t x (victim f at stuck is) = fallen f at stuck is refl
way d old new t x (blocked f h n at stop low loose same) =
    held h n (record { frame = f; forward = at; free = stop; lowest = low }) loose same refl

same_forward : (f g : Frame) → Some (Forward f) ≡ Some (Forward g) → f ≡ g
same_forward f g e = cc

-- where all are stuck a forward transaction isn't free
not_free : (d : Design) (w : World) (t : ℕ) (f : Frame) → transaction_at t w.transactions ≡ Some (Forward f) → IsStuck d w →
    ¬ IsFree d w t
not_free d w t f at stuck free =
    let up : IsHeldUp d w (Forward f) = stuck.each t (Forward f) at in
    free f at up.0 up.1.0 up.1.1 up.1.2

-- nor is one that waits
waits_not_free : (d : Design) (w : World) (t h n : ℕ) → Waits d w t h n → ¬ IsFree d w t
waits_not_free d w t h n waits free = free waits.frame waits.forward waits.free h n waits.lowest.blocked

-- the lowest holder is one, and so is its lowest entry
one_blocker : (d : Design) (w : World) (f : Frame) (h n u m : ℕ) → IsLowestBlocker d w f h n → IsLowestBlocker d w f u m → (h ≡ u) ×
    (n ≡ m)
one_blocker d w f h n u m a b =
    let not_lower : ¬ (h < u) = λ lt. b.holder h n lt a.blocked in
    let not_higher : ¬ (u < h) = λ lt. a.holder u m lt b.blocked in
    let holder : h ≡ u = omega (arith, not_lower, not_higher) in
    let c : IsLowestBlocker d w f u n = subst (λ k. IsLowestBlocker d w f k n) holder a in
    let not_before : ¬ (n < m) = λ lt. b.entry n lt c.blocked in
    let not_behind : ¬ (m < n) = λ lt. c.entry m lt b.blocked in
    (holder, omega (arith, not_before, not_behind))

one_wait : (d : Design) (w : World) (t h n u m : ℕ) → Waits d w t h n → Waits d w t u m → (h ≡ u) × (n ≡ m)
one_wait d w t h n u m a b =
    let same : a.frame ≡ b.frame = same_forward a.frame b.frame (sym a.forward ∙ b.forward) in
    one_blocker d w b.frame h n u m (subst (λ f. IsLowestBlocker d w f h n) same a.lowest) b.lowest

abbrev Same : Turn → World → Turn → World → Type 0
Same x v y u = ◌≡◌ {A = Turn × World} (x, v) (y, u)

one_way : (d : Design) (w v u : World) (t : ℕ) (x y : Turn) → Way d w v t x → Way d w u t y → Same x v y u
one_way d w v u t x y (on is free) (on is' free') = same_Some (x, v) (y, u) (sym is ∙ is')
one_way d w v u t x y (on is free) (fallen f at stuck is' y_is) = absurd (not_free d w t f at stuck free)
one_way d w v u t x y (on is free) (held h n waits loose same y_is) = absurd (waits_not_free d w t h n waits free)
one_way d w v u t x y (fallen f at stuck is x_is) (on is' free') = absurd (not_free d w t f at stuck free')
one_way d w v u t x y (fallen f at stuck is x_is) (fallen g at' stuck' is' y_is) =
    λ i. ((x_is ∙ sym y_is) i, same_Some v u (sym is ∙ is') i)
one_way d w v u t x y (fallen f at stuck is x_is) (held h n waits loose same y_is) = absurd (loose stuck)
one_way d w v u t x y (held h n waits loose same x_is) (on is' free') = absurd (waits_not_free d w t h n waits free')
one_way d w v u t x y (held h n waits loose same x_is) (fallen f at stuck is' y_is) = absurd (loose stuck)
one_way d w v u t x y (held h n waits loose same x_is) (held k m waits' loose' same' y_is) =
    let one = one_wait d w t h n k m waits waits' in
    λ i. ((x_is ∙ (λ j. turn.Blocked (one.0 j) (one.1 j)) ∙ sym y_is) i, (same ∙ sym same') i)

-- only an unfinished transaction has a turn
pub forward_unfinished : (w : World) (t : ℕ) (f : Frame) → transaction_at t w.transactions ≡ Some (Forward f) → IsUnfinished t w
forward_unfinished w t f at = subst (λ o. IsSomeAnd o (λ x. IsSome (frame_in x))) (sym at) refl

turning_unfinished : (d : Design) (w : World) (t : ℕ) (x : Turn × World) → turn_of d w t ≡ Some x → IsUnfinished t w
turning_unfinished d w t x is = by (transaction_at t w.transactions) is
  where
    by : (o : Option Transaction)
        → option_and_then (λ e. said_of w e t (changed d w.rows e (transaction_at t w.transactions))) (next_event d w.rows o) ≡ Some x
        → IsSomeAnd o (λ z. IsSome (frame_in z))
    by None e = absurd (none-some x e)
    by (Some (Forward f)) e = refl
    by (Some (Undoing f c)) e = refl
    by (Some (Ended reply)) e = absurd (none-some x e)

way_unfinished : (d : Design) (w v : World) (t : ℕ) (x : Turn) → Way d w v t x → IsUnfinished t w
way_unfinished d w v t x (on is free) = turning_unfinished d w t (x, v) is
way_unfinished d w v t x (fallen f at stuck is x_is) = forward_unfinished w t f at
way_unfinished d w v t x (held h n waits loose same x_is) = forward_unfinished w t waits.frame waits.forward

one_turn : (d : Design) (w : World) (t : ℕ) (x y : Option (Turn × World)) → TurnsByLocks d w t x → TurnsByLocks d w t y → x ≡ y
one_turn d w t None None h k = refl
one_turn d w t None (Some y) h k = absurd (h (way_unfinished d w y.1 t y.0 (way d w y.1 t y.0 k)))
one_turn d w t (Some x) None h k = absurd (k (way_unfinished d w x.1 t x.0 (way d w x.1 t x.0 h)))
one_turn d w t (Some x) (Some y) h k =
    ap Some (one_way d w x.1 y.1 t x.0 y.0 (way d w x.1 t x.0 h) (way d w y.1 t y.0 k))

-- ---- the machine

-- in each state the machine with locks may do one thing only
pub locks_are_determined : (d : Design) → IsDetermined (with_locks d)
locks_are_determined d = record { begins = one_begin d; turns = one_turn d }
