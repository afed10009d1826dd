-- The keys of the rows that a run leaves are in range.
use Rattle.std.proofs.Common.{◌≡◌, List, [], ◌∷◌, Option, Some, None, All, refl, subst}
use Rattle.std.specs.Prelude.{option_and_then}
use Rattle.std.proofs.lemmas.Option.{none-some, same_Some}
use Rattle.std.proofs.lemmas.List.Elements.{All-nil}
use Rattle.acc_base.specs.declared.tables.Row.{Row}
use Rattle.acc_base.specs.declared.designs.Design.{Design}
use Rattle.acc_base.specs.declared.designs.Side.{Side}
use Rattle.acc_base.specs.declared.designs.Side.TheVariants.{Next, Undo as UndoSide}
use Rattle.acc_base.specs.declared.machines.Event.{Event}
use Rattle.acc_base.specs.declared.machines.Event.TheVariants.{Begin, Step, Abort, Undo}
use Rattle.acc_base.specs.declared.machines.Frame.{Frame}
use Rattle.acc_base.specs.Linear.{variables}
use Rattle.acc_base.specs.Numbers.{IsSmall}
use Rattle.acc_base.specs.Machine.{World, start, after_event, after_events, world}
use Rattle.acc_base.proofs.EffectParts.{GoesBy, parts}
use Rattle.acc_lift.proofs.Kept.{rows_keyed}
use Rattle.acc_audit_trial.specs.Trials.{AreKeyed}
use Rattle.acc_audit.proofs.EventRows.{EffectHas, begin_has, step_has, abort_has, undo_has}

goes : (d : Design) (db : List Row) → AreKeyed db → (f : Frame) (side : Side) → EffectHas d db AreKeyed f side
goes d db keyed f side after s i to e =
    let by : GoesBy d db f side after s i to = parts after s i to d db f side e in
    rows_keyed side (variables f.t s.locals) by.path.actions db after by.actions keyed

one_keyed : (d : Design) (w : World) (e : Event) (w2 : World) → AreKeyed w.rows → after_event d w e ≡ Some w2 → AreKeyed w2.rows
one_keyed d w (Begin call) w2 keyed h = begin_has AreKeyed d w w2 call keyed h
one_keyed d w (Step t) w2 keyed h = step_has AreKeyed d w w2 t (λ f at. goes d w.rows keyed f Next) h
one_keyed d w (Abort t c) w2 keyed h = abort_has AreKeyed d w w2 t c keyed h
one_keyed d w (Undo t) w2 keyed h = undo_has AreKeyed d w w2 t (λ f c at. goes d w.rows keyed f UndoSide) h

all_keyed : (d : Design) (events : List Event) (w w2 : World) → AreKeyed w.rows → after_events d w events ≡ Some w2 → AreKeyed w2.rows
all_keyed d [] w w2 keyed h = subst (λ (z : World). AreKeyed z.rows) (same_Some w w2 h) keyed
all_keyed d (e ∷ rest) w w2 keyed h = by (after_event d w e) refl h (λ x k. all_keyed d rest x w2 k)
  where
    by : (o : Option World) → after_event d w e ≡ o → option_and_then (λ x. after_events d x rest) o ≡ Some w2 →
        ((x : World) → AreKeyed x.rows → after_events d x rest ≡ Some w2 → AreKeyed w2.rows) → AreKeyed w2.rows
    by None is g ih = absurd (none-some w2 g)
    by (Some x) is g ih = ih x (one_keyed d w e x keyed is) g

pub run_keyed : (d : Design) (events : List Event) (w : World) → world d events ≡ Some w → AreKeyed w.rows
run_keyed d events w h = all_keyed d events start w (All-nil (λ (r : Row). All IsSmall r.key.parts)) h
