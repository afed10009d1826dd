-- There are as many transactions as begins.
use Rattle.std.proofs.Common.{◌≡◌, ℕ, ◌+◌, ◌-◌, List, [], ◌∷◌, length, Bool, true, false, Option, Some, None, refl, ap, subst, arith, cond}
use Rattle.std.proofs.Common.{length-append, length-set}
use Rattle.std.specs.Prelude.{option_and_then, if◌then◌else◌, slice_get}
use Rattle.std.specs.List.{count_by}
use Rattle.std.proofs.lemmas.List.Sums.{sum_by-cons}
use Rattle.std.proofs.lemmas.Option.{none-some, same_Some}
use Rattle.acc_base.specs.declared.tables.Row.{Row}
use Rattle.acc_base.specs.declared.designs.Design.{Design}
use Rattle.acc_base.specs.declared.machines.Call.{Call}
use Rattle.acc_base.specs.declared.machines.Event.{Event}
use Rattle.acc_base.specs.declared.machines.Event.TheVariants.{Begin, Step, Abort, Undo}
use Rattle.acc_base.specs.declared.machines.Transaction.{Transaction}
use Rattle.acc_base.specs.declared.machines.Transaction.TheVariants.{Forward}
use Rattle.acc_base.specs.Machine.{World, start, world, begun, next_number, call_fits, with_begun, became, becomes, changed, transaction_at}
use Rattle.acc_base.specs.Machine.{after_event, after_events}
use Rattle.acc_settling.specs.Openings.{is_begin}

begun_more : (d : Design) (w v : World) (call : Call) (b : Bool) → (if b then Some (with_begun d w call) else None) ≡ Some v
    → length v.transactions ≡ length w.transactions + 1
begun_more d w v call true h =
    subst (λ (z : World). length z.transactions ≡ length w.transactions + 1) (same_Some (with_begun d w call) v h)
    (length-append w.transactions (Forward (begun d (next_number w) call) ∷ []))
begun_more d w v call false h = absurd (none-some v h)

became_same : (w v : World) (e : Event) (t : ℕ) (o : Option (List Row × Transaction)) → becomes w e t o ≡ Some v
    → length v.transactions ≡ length w.transactions + 0
became_same w v e t None h = absurd (none-some v h)
became_same w v e t (Some y) h =
    subst (λ (z : World). length z.transactions ≡ length w.transactions + 0) (same_Some (became w e t y) v h)
    (let same = length-set w.transactions (t - 1) y.1 in omega (arith, same))

pub event_more : (d : Design) (w v : World) (e : Event) → after_event d w e ≡ Some v
    → length v.transactions ≡ length w.transactions + cond (is_begin e) 1 0
event_more d w v (Begin call) h = begun_more d w v call (call_fits (slice_get d.types call.ty) call) h
event_more d w v (Step t) h = became_same w v (Step t) t (changed d w.rows (Step t) (transaction_at t w.transactions)) h
event_more d w v (Abort t c) h = became_same w v (Abort t c) t (changed d w.rows (Abort t c) (transaction_at t w.transactions)) h
event_more d w v (Undo t) h = became_same w v (Undo t) t (changed d w.rows (Undo t) (transaction_at t w.transactions)) h

pub events_more : (d : Design) (w v : World) (events : List Event) → after_events d w events ≡ Some v
    → length v.transactions ≡ length w.transactions + count_by is_begin events
events_more d w v [] h = let same = ap (λ (z : World). length z.transactions) (same_Some w v h) in omega (arith, same)
events_more d w v (e ∷ events) h = by (after_event d w e) refl h (λ u k. events_more d u v events k)
  where
    by : (o : Option World) → after_event d w e ≡ o → option_and_then (λ x. after_events d x events) o ≡ Some v
        → ((u : World) → after_events d u events ≡ Some v → length v.transactions ≡ length u.transactions + count_by is_begin events)
        → length v.transactions ≡ length w.transactions + count_by is_begin (e ∷ events)
    by None is k rest = absurd (none-some v k)
    by (Some u) is k rest =
        let first = event_more d w u e is in
        let more = rest u k in
        let sum = sum_by-cons (λ (x : Event). cond (is_begin x) 1 0) e events in
        omega (arith, first, more, sum)

pub begins_are : (d : Design) (w : World) → world d w.events ≡ Some w → count_by is_begin w.events ≡ length w.transactions
begins_are d w run = let e = events_more d start w w.events run in omega (arith, e)
