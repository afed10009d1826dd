-- Runs: an event more.
use Rattle.std.proofs.Common.{◌≡◌, ℕ, List, [], ◌∷◌, ◌++◌, Bool, true, false, Option, Some, None, refl, sym, ap, ◌∙◌}
use Rattle.std.specs.Prelude.{option_and_then, slice_get, if◌then◌else◌}
use Rattle.acc_base.specs.declared.tables.Row.{Row}
use Rattle.acc_base.specs.declared.designs.Design.{Design}
use Rattle.acc_base.specs.declared.machines.Call.{Call}
use Rattle.acc_base.specs.declared.machines.Event.{Event}
use Rattle.acc_base.specs.declared.machines.Event.TheVariants.{Begin, Step, Abort, Undo}
use Rattle.acc_base.specs.declared.machines.Transaction.{Transaction}
use Rattle.acc_base.specs.declared.machines.Transaction.TheVariants.{Forward}
use Rattle.acc_base.specs.Machine.{World, begun, next_number, after_event, after_events, world, start, becomes, became, with_begun, changed}
use Rattle.acc_base.specs.Machine.{call_fits, transaction_at}
use Rattle.acc_plain.specs.Reached.{IsReached}

-- the state after events and one more
pub after_events-one : (d : Design) (w : World) (events : List Event) (e : Event) →
    after_events d w (events ++ e ∷ []) ≡ option_and_then (λ x. after_event d x e) (after_events d w events)
after_events-one d w [] e = by (after_event d w e)
  where
    by : (o : Option World) → option_and_then (λ x. Some x) o ≡ o
    by None = refl
    by (Some x) = refl
after_events-one d w (f ∷ rest) e = by (after_event d w f) (λ x. after_events-one d x rest e)
  where
    by : (o : Option World) → ((x : World) → after_events d x (rest ++ e ∷ []) ≡ option_and_then (λ y. after_event d y e)
        (after_events d x rest)) → option_and_then (λ x. after_events d x (rest ++ e ∷ [])) o ≡ option_and_then (λ y. after_event d y e)
        (option_and_then (λ x. after_events d x rest) o)
    by None ih = refl
    by (Some x) ih = ih x

becomes_logs : (w : World) (e : Event) (t : ℕ) (x : Option (List Row × Transaction)) (w2 : World) → becomes w e t x ≡ Some w2 →
    w2.events ≡ w.events ++ e ∷ []
becomes_logs w e t None w2 h = absurd cc
becomes_logs w e t (Some x) w2 h = let k : became w e t x ≡ w2 = cc in sym (ap (λ (z : World). z.events) k)

begun_logs : (d : Design) (w : World) (call : Call) (b : Bool) (w2 : World) → (if b then Some (with_begun d w call) else None) ≡ Some w2 →
    w2.events ≡ w.events ++ Begin call ∷ []
begun_logs d w call true w2 h = let k : with_begun d w call ≡ w2 = cc in sym (ap (λ (z : World). z.events) k)
begun_logs d w call false w2 h = absurd cc

-- an event is the last of the state after it
pub event_logged : (d : Design) (w : World) (e : Event) (w2 : World) → after_event d w e ≡ Some w2 → w2.events ≡ w.events ++ e ∷ []
event_logged d w (Begin call) w2 h = begun_logs d w call (call_fits (slice_get d.types call.ty) call) w2 h
event_logged d w (Step t) w2 h = becomes_logs w (Step t) t (changed d w.rows (Step t) (transaction_at t w.transactions)) w2 h
event_logged d w (Abort t c) w2 h = becomes_logs w (Abort t c) t (changed d w.rows (Abort t c) (transaction_at t w.transactions)) w2 h
event_logged d w (Undo t) w2 h = becomes_logs w (Undo t) t (changed d w.rows (Undo t) (transaction_at t w.transactions)) w2 h

-- a state that is reached, and an event more
pub reached_next : (d : Design) (w : World) (e : Event) (w2 : World) → IsReached d w → after_event d w e ≡ Some w2 → IsReached d w2
reached_next d w e w2 r h = record {
  runnable = r.runnable;
  run = ap (world d) (event_logged d w e w2 h) ∙ after_events-one d start w.events e ∙ ap (option_and_then (λ x. after_event d x e)) r.run ∙
      h;
}

-- a transaction begins
pub begin_reached : (d : Design) (w : World) (call : Call) (transactions : List Transaction) (events : List Event) → IsReached d w →
    call_fits (slice_get d.types call.ty) call ≡ true → transactions ≡ w.transactions ++ Forward (begun d (next_number w) call) ∷ [] →
    events ≡ w.events ++ Begin call ∷ [] → IsReached d (record { rows = w.rows; transactions = transactions; events = events })
begin_reached d w call transactions events r fits more logged =
    reached_next d w (Begin call) (record { rows = w.rows; transactions = transactions; events = events }) r
    (rw fits (λ i. Some (record { rows = w.rows; transactions = sym more i; events = sym logged i })))
