-- An undo turn is never forbidden, refused or out of range, and makes the variant fall.
use Rattle.std.proofs.Common.{◌≡◌, ℕ, ◌⊎◌, inl, inr, List, subst, refl, ap, ◌∙◌, Option, Some, None, ◌<ℤ◌}
use Rattle.std.specs.Prelude.{slice_get}
use Rattle.acc_base.specs.declared.tables.Row.{Row}
use Rattle.acc_base.specs.declared.steps.Target.{Target}
use Rattle.acc_base.specs.declared.steps.Target.TheVariants.{Point as ToPoint, Commit, Undone, Refuse}
use Rattle.acc_base.specs.declared.steps.Path.{Path}
use Rattle.acc_base.specs.declared.steps.Step.{Step as StepOf}
use Rattle.acc_base.specs.declared.designs.Design.{Design}
use Rattle.acc_base.specs.declared.designs.Side.{Side}
use Rattle.acc_base.specs.declared.designs.Side.TheVariants.{Undo as UndoSide}
use Rattle.acc_base.specs.declared.machines.Frame.{Frame}
use Rattle.acc_base.specs.declared.machines.Cause.{Cause}
use Rattle.acc_base.specs.declared.machines.Event.TheVariants.{Undo}
use Rattle.acc_base.specs.declared.machines.Outcome.TheVariants.{Compensated}
use Rattle.acc_base.specs.declared.machines.Transaction.{Transaction}
use Rattle.acc_base.specs.declared.machines.Transaction.TheVariants.{Undoing, Ended}
use Rattle.acc_base.specs.Linear.{variables}
use Rattle.acc_base.specs.Reads.{Reading, unread, after_reads}
use Rattle.acc_base.specs.Actions.{after_actions}
use Rattle.acc_base.specs.Effects.{step_of, Effect, Goes, Refuses, OutOfRange, taken_path, leads, path_end, path_effect, choice, reads_end}
use Rattle.acc_base.specs.Effects.{step_effect, effect_of}
use Rattle.acc_base.specs.Machine.{World, transaction_at, became, becomes, moved, back_to, back_by, with_rows, undone, after_event}
use Rattle.acc_base.specs.Runnable.{CanEnd}
use Rattle.acc_base.proofs.EffectParts.{parts}
use Rattle.acc_base.specs.Soundness.{variant_of, IsSound}
use Rattle.acc_lift.specs.RunRules.{HasRunRules, IsPathOf}
use Rattle.acc_base.specs.Invariant.{Stands, IsSteady}
use Rattle.acc_base.specs.Compensation.{UndoGoes}
use Rattle.acc_lift.proofs.Transactions.{set_new}
use Rattle.acc_lift.proofs.Stepping.{HasType, typed, ready}
use Rattle.acc_lift.proofs.Turning.{undo_unforbidden, variant_falls}

-- ---- a refusal is that of a path

record RefusedBy (d : Design) (f : Frame) (side : Side) (n : ℕ) : Type 0 where
  step : StepOf
  is_step : step_of d f.ty f.point side ≡ Some step
  i : ℕ
  path : Path
  is_path : slice_get step.paths i ≡ Some path
  target : path.target ≡ Refuse n

module _ (d : Design) (db : List Row) (f : Frame) (side : Side) (s : Reading) (n : ℕ) where
  lead_refuses : (t : Target) (rows : List Row) (z : Reading) (j : ℕ) → leads t rows z j ≡ Refuses s n → t ≡ Refuse n
  lead_refuses (ToPoint p) rows z j e = cc
  lead_refuses Commit rows z j e = cc
  lead_refuses Undone rows z j e = cc
  lead_refuses (Refuse m) rows z j e = cc

  end_refuses : (t : Target) (z : Reading) (j : ℕ) (o : Option (List Row)) → path_end t z j o ≡ Refuses s n → t ≡ Refuse n
  end_refuses t z j None e = cc
  end_refuses t z j (Some rows) e = lead_refuses t rows z j e

  module _ (step : StepOf) (is_step : step_of d f.ty f.point side ≡ Some step) where
    path_refuses :
        (z : Reading) (j : ℕ) (o : Option Path) → slice_get step.paths j ≡ o → path_effect db side f.t z j o ≡ Refuses s n
        → RefusedBy d f side n
    path_refuses z j None q e = cc
    path_refuses z j (Some p) q e =
        record {
          step = step;
          is_step = is_step;
          i = j;
          path = p;
          is_path = q;
          target = end_refuses p.target z j (after_actions side (variables f.t z.locals) p.actions db) e;
        }

    choice_refuses : (z : Reading) (o : Option ℕ) → choice db side f.t step.paths z o ≡ Refuses s n → RefusedBy d f side n
    choice_refuses z None e = cc
    choice_refuses z (Some j) e = path_refuses z j (slice_get step.paths j) refl e

    read_refuses : (o : Option Reading) → reads_end db side f.t step.paths o ≡ Refuses s n → RefusedBy d f side n
    read_refuses None e = cc
    read_refuses (Some z) e = choice_refuses z (taken_path (variables f.t z.locals) step.paths) e

  step_refuses : (o : Option StepOf) → step_of d f.ty f.point side ≡ o → step_effect db f side o ≡ Refuses s n → RefusedBy d f side n
  step_refuses None q e = cc
  step_refuses (Some step) q e = read_refuses step q (after_reads db f step.reads (unread f)) e

-- ---- an undo turn

-- where an undo step leads
record Back (d : Design) (w : World) (f : Frame) : Type 0 where
  rows : List Row
  reading : Reading
  path : ℕ
  to : Target
  effect : effect_of d w.rows f UndoSide ≡ Goes rows reading path to
  ends : (to ≡ Undone) ⊎ ((p : ℕ) × (to ≡ ToPoint p) × (variant_of d (moved UndoSide f reading p) <ℤ variant_of d f))

module _ (d : Design) (sound : IsSound d) (well : HasRunRules d) (w : World) (steady : IsSteady d w) (t : ℕ) (f : Frame) (c : Cause)
    (at : transaction_at t w.transactions ≡ Some (Undoing f c)) where
  stands : Stands d w.rows t UndoSide f
  stands = steady.each t (Undoing f c) at

  own : HasType d f
  own = typed d f stands.frame

  by_effect : (E : Effect) → effect_of d w.rows f UndoSide ≡ E → Back d w f
  by_effect OutOfRange e = absurd (sound.in_range w.rows f (ready d w steady t UndoSide f stands) e)
  by_effect (Refuses s n) e =
      let r = step_refuses d w.rows f UndoSide s n (step_of d f.ty f.point UndoSide) refl e in
      let p : IsPathOf d own.type UndoSide r.path =
      well.paths f.ty f.point UndoSide own.type r.step r.i r.path own.is_type r.is_step r.is_path in
      absurd (subst (CanEnd UndoSide) r.target p.ends)
  by_effect (Goes after s i to) e =
      let r = parts after s i to d w.rows f UndoSide e in
      let p : IsPathOf d own.type UndoSide r.path =
      well.paths f.ty f.point UndoSide own.type r.step i r.path own.is_type r.is_step r.is_path in
      record {
        rows = after;
        reading = s;
        path = i;
        to = to;
        effect = e;
        ends = by to (subst (CanEnd UndoSide) r.target p.ends) (variant_falls d sound well w steady (Undo t) t f c at after s i to e);
      }
    where
      by :
          (z : Target) → CanEnd UndoSide z → ((p : ℕ) → z ≡ ToPoint p → variant_of d (moved UndoSide f s p) <ℤ variant_of d f)
          → (z ≡ Undone) ⊎ ((p : ℕ) × (z ≡ ToPoint p) × (variant_of d (moved UndoSide f s p) <ℤ variant_of d f))
      by (ToPoint p) k v = inr (p, refl, v p refl)
      by Commit k v = absurd k
      by Undone k v = inl refl
      by (Refuse n) k v = absurd k

  after_is : (b : Back d w f) → after_event d w (Undo t) ≡ becomes w (Undo t) t (with_rows b.rows (back_to f c b.reading b.to))
  after_is b =
      ap (λ o. becomes w (Undo t) t (undone d w.rows o)) at ∙ ap (λ E. becomes w (Undo t) t (back_by f c E)) b.effect

  pub undo_goes : UndoGoes d w t f c
  undo_goes = by (by_effect (effect_of d w.rows f UndoSide) refl)
    where
      go :
          (b : Back d w f) → (b.to ≡ Undone) ⊎ ((p : ℕ) × (b.to ≡ ToPoint p)
          × (variant_of d (moved UndoSide f b.reading p) <ℤ variant_of d f)) → UndoGoes d w t f c
      go b (inl e) =
          let y : Transaction = Ended (record { t = f.t; outcome = Compensated c }) in
          record {
            after = became w (Undo t) t (b.rows, y);
            event = after_is b ∙ ap (λ z. becomes w (Undo t) t (with_rows b.rows (back_to f c b.reading z))) e;
            free = λ u n g m k. undo_unforbidden d sound well w steady (Undo t) t f c at b.reading u g m k n;
            falls =
                inl (set_new t w.transactions (Undoing f c) y at
                ∙ ap (λ n. Some (Ended (record { t = n; outcome = Compensated c }))) stands.number);
          }
      go b (inr p) =
          let y : Transaction = Undoing (moved UndoSide f b.reading p.0) c in
          record {
            after = became w (Undo t) t (b.rows, y);
            event = after_is b ∙ ap (λ z. becomes w (Undo t) t (with_rows b.rows (back_to f c b.reading z))) p.1;
            free = λ u n g m k. undo_unforbidden d sound well w steady (Undo t) t f c at b.reading u g m k n;
            falls = inr (moved UndoSide f b.reading p.0, set_new t w.transactions (Undoing f c) y at, p.2);
          }

      by : Back d w f → UndoGoes d w t f c
      by b = go b b.ends
