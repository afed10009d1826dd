-- Runs of the plain machine: an event of another transaction leaves a transaction as it is; numbers are those that have begun.
use Rattle.std.proofs.Common.{◌≡◌, ◌≢◌, ℕ, zero, suc, ◌+◌, ◌-◌, ◌<◌, ◌≤◌, List, [], ◌∷◌, ◌++◌, length, Bool, true, false, Option, Some}
use Rattle.std.proofs.Common.{None}
use Rattle.std.proofs.Common.{refl, sym, ap, subst, ◌∙◌, arith, set, slice_get, length-append, length-set}
use Rattle.std.specs.Prelude.{◌==◌, option_and_then, if◌then◌else◌}
use Rattle.std.proofs.lemmas.Bool.Decides.{nat_tests}
use Rattle.std.proofs.lemmas.Option.{none-some, same_Some, slice_get_within}
use mathlib.Core.List.{IsPrefix}
use Rattle.acc_base.specs.declared.tables.Row.{Row}
use Rattle.acc_base.specs.declared.designs.Design.{Design}
use Rattle.acc_base.specs.declared.machines.Call.{Call}
use Rattle.acc_base.specs.declared.machines.Event.{Event}
use Rattle.acc_base.specs.declared.machines.Event.TheVariants.{Begin, Step, Abort, Undo}
use Rattle.acc_base.specs.declared.machines.Transaction.{Transaction}
use Rattle.acc_base.specs.declared.machines.Transaction.TheVariants.{Forward}
use Rattle.acc_base.specs.Machine.{World, start, world, begun, next_number, call_fits, transaction_at, changed, becomes, became, with_begun}
use Rattle.acc_base.specs.Machine.{after_event, after_events}
use Rattle.acc_plain.specs.Taken.{number_in}
use Rattle.acc_plain.proofs.Turning.{at_place}
use Rattle.acc_pass.specs.Histories.{begins, Owns, Closed, Placed}
use Rattle.acc_pass.proofs.Lists.{prefix_get, prefix_snoc, get_behind}
use Rattle.acc_pass.proofs.Owning.{owns_up}

-- ---- transactions by number

pub at_within : (t : ℕ) (ts : List Transaction) (x : Transaction) → transaction_at t ts ≡ Some x → (0 < t) × (t ≤ length ts)
at_within t ts x h = let p = at_place t ts x h in let l = slice_get_within ts (t - 1) x p.1 in (p.0, omega arith)

at_pushed : (t : ℕ) (ts : List Transaction) (x y : Transaction) → transaction_at t ts ≡ Some x → transaction_at t (ts ++ y ∷ []) ≡ Some x
at_pushed t ts x y h = by (t == 0) h
  where
    by : (b : Bool) → (if b then None else slice_get ts (t - 1)) ≡ Some x → (if b then None else slice_get (ts ++ y ∷ []) (t - 1)) ≡ Some x
    by true k = absurd (none-some x k)
    by false k = prefix_get ts (ts ++ y ∷ []) (t - 1) x (prefix_snoc ts y) k

set_apart : (ts : List Transaction) (i j : ℕ) (y : Transaction) → j ≢ i → slice_get (set ts i y) j ≡ slice_get ts j
set_apart [] i j y n = refl
set_apart (z ∷ ts) zero zero y n = absurd (n refl)
set_apart (z ∷ ts) zero (suc j) y n = refl
set_apart (z ∷ ts) (suc i) zero y n = refl
set_apart (z ∷ ts) (suc i) (suc j) y n = set_apart ts i j y (λ e. n (ap suc e))

at_other : (t u : ℕ) (ts : List Transaction) (y : Transaction) → 0 < u → t ≢ u → transaction_at t (set ts (u - 1) y) ≡ transaction_at t ts
at_other t u ts y from_one other = by (t == 0) refl
  where
    by : (b : Bool) → (t == 0) ≡ b → (if b then None else slice_get (set ts (u - 1) y) (t - 1)) ≡ (if b then None else slice_get ts (t - 1))
    by true e = refl
    by false e = set_apart ts (u - 1) (t - 1) y (λ q. other (grind (arith, nat_tests)))

-- ---- one event

nobody : (d : Design) (db : List Row) (e : Event) (x : List Row × Transaction) → changed d db e None ≡ Some x → ⊥
nobody d db (Begin call) x h = none-some x h
nobody d db (Step u) x h = none-some x h
nobody d db (Abort u c) x h = none-some x h
nobody d db (Undo u) x h = none-some x h

-- who is moved on is there
moved_there :
    (d : Design) (w : World) (e : Event) (u : ℕ) (x : List Row × Transaction)
    → changed d w.rows e (transaction_at u w.transactions) ≡ Some x → (0 < u) × (u ≤ length w.transactions)
moved_there d w e u x h = by (transaction_at u w.transactions) refl h
  where
    by : (o : Option Transaction) → transaction_at u w.transactions ≡ o → changed d w.rows e o ≡ Some x
        → (0 < u) × (u ≤ length w.transactions)
    by None is k = absurd (nobody d w.rows e x k)
    by (Some y) is k = at_within u w.transactions y is

-- what an event of this number leaves
record Moves (w v : World) (u : ℕ) : Type 0 where
  event : Event
  after : List Row × Transaction
  there : (0 < u) × (u ≤ length w.transactions)
  is : became w event u after ≡ v

moves : (d : Design) (w v : World) (e : Event) (u : ℕ) → becomes w e u (changed d w.rows e (transaction_at u w.transactions)) ≡ Some v
    → Moves w v u
moves d w v e u h = by (changed d w.rows e (transaction_at u w.transactions)) refl h
  where
    by : (o : Option (List Row × Transaction)) → changed d w.rows e (transaction_at u w.transactions) ≡ o → becomes w e u o ≡ Some v
        → Moves w v u
    by None is k = absurd (none-some v k)
    by (Some x) is k = record { event = e; after = x; there = moved_there d w e u x is; is = same_Some (became w e u x) v k }

-- what an event leaves: a transaction more, or one other than before
data Leaves (d : Design) (w v : World) (e : Event) : Type 0 where
  begins_one : number_in e ≡ None → (call : Call) → with_begun d w call ≡ v → Leaves d w v e
  moves_one : (u : ℕ) → number_in e ≡ Some u → Moves w v u → Leaves d w v e

leaves : (d : Design) (w v : World) (e : Event) → after_event d w e ≡ Some v → Leaves d w v e
leaves d w v (Begin call) h = by (call_fits (slice_get d.types call.ty) call) h
  where
    by : (b : Bool) → (if b then Some (with_begun d w call) else None) ≡ Some v → Leaves d w v (Begin call)
    by true k = begins_one refl call (same_Some (with_begun d w call) v k)
    by false k = absurd (none-some v k)
leaves d w v (Step u) h = moves_one u refl (moves d w v (Step u) u h)
leaves d w v (Abort u c) h = moves_one u refl (moves d w v (Abort u c) u h)
leaves d w v (Undo u) h = moves_one u refl (moves d w v (Undo u) u h)

keeps_by :
    (d : Design) (w v : World) (e : Event) (t : ℕ) (x : Transaction) → Leaves d w v e → number_in e ≢ Some t
    → transaction_at t w.transactions ≡ Some x → transaction_at t v.transactions ≡ Some x
keeps_by d w v e t x (begins_one none call is) other at =
    subst (λ (z : World). transaction_at t z.transactions ≡ Some x) is
    (at_pushed t w.transactions x (Forward (begun d (next_number w) call)) at)
keeps_by d w v e t x (moves_one u by m) other at =
    subst (λ (z : World). transaction_at t z.transactions ≡ Some x) m.is
    (at_other t u w.transactions m.after.1 m.there.0 (λ q. other (by ∙ ap Some (sym q))) ∙ at)

more_by :
    (d : Design) (w v : World) (e : Event) (rest : List Event) → Leaves d w v e
    → length v.transactions + begins rest ≡ length w.transactions + begins (e ∷ rest)
more_by d w v e rest (begins_one none call is) =
    let l = length-append w.transactions (Forward (begun d (next_number w) call) ∷ []) in
    let s = ap (λ (z : World). length z.transactions) is in
    rw none (omega arith)
more_by d w v e rest (moves_one u by m) =
    let l = length-set w.transactions (u - 1) m.after.1 in
    let s = ap (λ (z : World). length z.transactions) m.is in
    rw by (omega arith)

there_by : (d : Design) (w v : World) (e : Event) (u : ℕ) → Leaves d w v e → number_in e ≡ Some u → (0 < u) × (u ≤ length w.transactions)
there_by d w v e u (begins_one none call is) at = absurd (none-some u (sym none ∙ at))
there_by d w v e u (moves_one n by m) at =
    let same : n ≡ u = same_Some n u (sym by ∙ at) in
    subst (λ (k : ℕ). (0 < k) × (k ≤ length w.transactions)) same m.there

-- ---- lists of events

next_of :
    (d : Design) (rest : List Event) (o : Option World) (w : World) → option_and_then (λ x. after_events d x rest) o ≡ Some w
    → (v : World) × (o ≡ Some v) × (after_events d v rest ≡ Some w)
next_of d rest None w h = absurd (none-some w h)
next_of d rest (Some v) w h = (v, refl, h)

-- the state between two lists
pub between :
    (d : Design) (w w2 : World) (xs ys : List Event) → after_events d w (xs ++ ys) ≡ Some w2
    → (v : World) × (after_events d w xs ≡ Some v) × (after_events d v ys ≡ Some w2)
between d w w2 [] ys h = (w, refl, h)
between d w w2 (e ∷ xs) ys h =
    let next = next_of d (xs ++ ys) (after_event d w e) w2 h in
    let rest = between d next.0 w2 xs ys next.2 in
    (rest.0, ap (option_and_then (λ x. after_events d x xs)) next.1 ∙ rest.1, rest.2)

-- events of others leave a transaction as it is
pub others_leave :
    (d : Design) (w v : World) (events : List Event) (t : ℕ) (x : Transaction) → after_events d w events ≡ Some v
    → ((j : ℕ) (e : Event) → slice_get events j ≡ Some e → number_in e ≢ Some t)
    → transaction_at t w.transactions ≡ Some x → transaction_at t v.transactions ≡ Some x
others_leave d w v [] t x h none at = subst (λ (z : World). transaction_at t z.transactions ≡ Some x) (same_Some w v h) at
others_leave d w v (e ∷ events) t x h none at =
    let next = next_of d events (after_event d w e) v h in
    others_leave d next.0 v events t x next.2 (λ j f here. none (suc j) f here)
    (keeps_by d w next.0 e t x (leaves d w next.0 e next.1) (none 0 e refl) at)

-- there are as many transactions as begins
pub begins_more :
    (d : Design) (w v : World) (events : List Event) → after_events d w events ≡ Some v
    → length v.transactions ≡ length w.transactions + begins events
begins_more d w v [] h = let s = ap (λ (z : World). length z.transactions) (same_Some w v h) in omega arith
begins_more d w v (e ∷ events) h =
    let next = next_of d events (after_event d w e) v h in
    let more = begins_more d next.0 v events next.2 in
    more ∙ more_by d w next.0 e events (leaves d w next.0 e next.1)

pub begins_are : (d : Design) (events : List Event) (w : World) → world d events ≡ Some w → begins events ≡ length w.transactions
begins_are d events w run = let e = begins_more d start w events run in omega arith

-- each number in a run is that of a transaction that has begun
pub numbers_within :
    (d : Design) (w v : World) (events : List Event) (j u : ℕ) (e : Event) → after_events d w events ≡ Some v → slice_get events j ≡ Some e
    → number_in e ≡ Some u → u ≤ length v.transactions
numbers_within d w v [] j u e h at m = absurd (none-some e at)
numbers_within d w v (f ∷ events) zero u e h at m =
    let next = next_of d events (after_event d w f) v h in
    let is : number_in f ≡ Some u = ap number_in (same_Some f e at) ∙ m in
    let l = leaves d w next.0 f next.1 in
    let first = (there_by d w next.0 f u l is).1 in
    let more = more_by d w next.0 f events l in
    let rest = begins_more d next.0 v events next.2 in
    omega arith
numbers_within d w v (f ∷ events) (suc j) u e h at m =
    let next = next_of d events (after_event d w f) v h in
    numbers_within d next.0 v events j u e next.2 at m

-- so no event of a run is of the number that comes next
pub next_is_fresh :
    (d : Design) (events : List Event) (w : World) → world d events ≡ Some w → (j : ℕ) (e : Event) → slice_get events j ≡ Some e
    → number_in e ≢ Some (begins events + 1)
next_is_fresh d events w run j e at m =
    let within = numbers_within d start w events j (begins events + 1) e run at m in
    let are = begins_are d events w run in absurd (omega arith)

-- ---- a pass's own transactions

-- All events of an owned transaction lie within what the pass has seen, so it is now what it was there.
pub stays :
    (d : Design) (seen log : List Event) (mine : List (ℕ × Event)) (t : ℕ) (v w : World) (x : Transaction) → IsPrefix seen log
    → Placed seen mine → Closed log mine → Owns seen mine t → world d seen ≡ Some v → world d log ≡ Some w
    → transaction_at t v.transactions ≡ Some x → transaction_at t w.transactions ≡ Some x
stays d seen log mine t v w x p placed closed own before after at =
    let halves = between d start w seen p.0 (ap (world d) p.1 ∙ after) in
    let same : halves.0 ≡ v = same_Some halves.0 v (sym halves.1 ∙ before) in
    others_leave d halves.0 w p.0 t x halves.2
    (λ j e here is.
    let at_it : ℕ = length seen + j in
    let there : slice_get log at_it ≡ Some e = ap (λ (l : List Event). slice_get l at_it) (sym p.1) ∙ (get_behind seen p.0 j ∙ here) in
    let within = slice_get_within seen at_it e (placed at_it e (closed t at_it e (owns_up seen log mine t p placed own) there is)) in
    absurd (omega arith))
    (subst (λ (z : World). transaction_at t z.transactions ≡ Some x) (sym same) at)
