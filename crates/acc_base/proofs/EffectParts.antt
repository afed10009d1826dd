-- What an effect that goes on or ends is made of: the step's reads, the choice of its path, the path and its actions.
use Rattle.std.proofs.Common.{◌≡◌, ℕ, List, sym, refl, ap, ◌∙◌, Option, Some, None}
use Rattle.std.specs.Prelude.{slice_get}
use Rattle.acc_base.specs.declared.tables.Row.{Row}
use Rattle.acc_base.specs.declared.steps.Target.{Target}
use Rattle.acc_base.specs.declared.steps.Target.TheVariants.{Point as ToPoint, Commit, Undone, Refuse}
use Rattle.acc_base.specs.declared.steps.Path.{Path}
use Rattle.acc_base.specs.declared.steps.Step.{Step}
use Rattle.acc_base.specs.declared.designs.Design.{Design}
use Rattle.acc_base.specs.declared.designs.Side.{Side}
use Rattle.acc_base.specs.declared.machines.Frame.{Frame}
use Rattle.acc_base.specs.Linear.{variables}
use Rattle.acc_base.specs.Reads.{Reading, unread, after_reads}
use Rattle.acc_base.specs.Actions.{after_actions}
use Rattle.acc_base.specs.Effects.{Goes, step_of, taken_path, leads, path_end, path_effect, choice, reads_end, step_effect, effect_of}

pub record GoesBy (d : Design) (db : List Row) (f : Frame) (side : Side) (after : List Row) (s : Reading) (i : ℕ) (to : Target)
    : Type 0 where
  pub step : Step
  pub is_step : step_of d f.ty f.point side ≡ Some step
  pub reads : after_reads db f step.reads (unread f) ≡ Some s
  pub choice : taken_path (variables f.t s.locals) step.paths ≡ Some i
  pub path : Path
  pub is_path : slice_get step.paths i ≡ Some path
  pub actions : after_actions side (variables f.t s.locals) path.actions db ≡ Some after
  pub target : path.target ≡ to

module _ (after : List Row) (s : Reading) (i : ℕ) (to : Target) where
  lead_parts :
      (t : Target) (db : List Row) (z : Reading) (j : ℕ) → leads t db z j ≡ Goes after s i to → (db ≡ after) × (z ≡ s) × (j ≡ i) × (t ≡ to)
  lead_parts (ToPoint p) db z j e = (cc, cc, cc, cc)
  lead_parts Commit db z j e = (cc, cc, cc, cc)
  lead_parts Undone db z j e = (cc, cc, cc, cc)
  lead_parts (Refuse n) db z j e = cc

  end_parts :
      (t : Target) (z : Reading) (j : ℕ) (o : Option (List Row)) → path_end t z j o ≡ Goes after s i to
      → (o ≡ Some after) × (z ≡ s) × (j ≡ i) × (t ≡ to)
  end_parts t z j None e = cc
  end_parts t z j (Some db) e = let k = lead_parts t db z j e in (ap Some k.0, k.1, k.2, k.3)

  module _ (d : Design) (db : List Row) (f : Frame) (side : Side) (step : Step) (is_step : step_of d f.ty f.point side ≡ Some step) where
    path_parts :
        (z : Reading) (j : ℕ) (o : Option Path) → after_reads db f step.reads (unread f) ≡ Some z
        → taken_path (variables f.t z.locals) step.paths ≡ Some j → slice_get step.paths j ≡ o
        → path_effect db side f.t z j o ≡ Goes after s i to → GoesBy d db f side after s i to
    path_parts z j None r c o e = cc
    path_parts z j (Some p) r c o e =
        let k = end_parts p.target z j (after_actions side (variables f.t z.locals) p.actions db) e in
        record {
          step = step;
          is_step = is_step;
          reads = r ∙ ap Some k.1;
          choice = ap (λ x. taken_path (variables f.t x.locals) step.paths) (sym k.1) ∙ (c ∙ ap Some k.2);
          path = p;
          is_path = ap (slice_get step.paths) (sym k.2) ∙ o;
          actions = ap (λ x. after_actions side (variables f.t x.locals) p.actions db) (sym k.1) ∙ k.0;
          target = k.3;
        }

    choice_parts :
        (z : Reading) (o : Option ℕ) → after_reads db f step.reads (unread f) ≡ Some z
        → taken_path (variables f.t z.locals) step.paths ≡ o
        → choice db side f.t step.paths z o ≡ Goes after s i to → GoesBy d db f side after s i to
    choice_parts z None r c e = cc
    choice_parts z (Some j) r c e = path_parts z j (slice_get step.paths j) r c refl e

    read_parts :
        (o : Option Reading) → after_reads db f step.reads (unread f) ≡ o
        → reads_end db side f.t step.paths o ≡ Goes after s i to → GoesBy d db f side after s i to
    read_parts None r e = cc
    read_parts (Some z) r e =
        let c = taken_path (variables f.t z.locals) step.paths in
        choice_parts z c r refl e

  step_parts :
      (d : Design) (db : List Row) (f : Frame) (side : Side) (o : Option Step) → step_of d f.ty f.point side ≡ o
      → step_effect db f side o ≡ Goes after s i to → GoesBy d db f side after s i to
  step_parts d db f side None h e = cc
  step_parts d db f side (Some step) h e =
      read_parts d db f side step h (after_reads db f step.reads (unread f)) refl e

  pub parts :
      (d : Design) (db : List Row) (f : Frame) (side : Side) → effect_of d db f side ≡ Goes after s i to → GoesBy d db f side after s i to
  parts d db f side e = step_parts d db f side (step_of d f.ty f.point side) refl e
