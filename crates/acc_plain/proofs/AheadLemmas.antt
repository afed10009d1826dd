-- What lies ahead of a frame, by its step's effect.
use Rattle.std.proofs.Common.{◌≡◌, ℕ, ◌<◌, ◌+◌, ◌^◌, false, List, Option, Some, None, refl, sym, ap, subst, ◌∙◌}
use Rattle.std.specs.Prelude.{All, IsSome, slice_get, option_and_then}
use Rattle.std.proofs.lemmas.Bool.{lt-ltb}
use Rattle.acc_base.specs.declared.tables.Row.{Row}
use Rattle.acc_base.specs.declared.designs.Design.{Design}
use Rattle.acc_base.specs.declared.designs.TxType.{TxType}
use Rattle.acc_base.specs.declared.designs.Point.{Point}
use Rattle.acc_base.specs.declared.designs.Side.{Side}
use Rattle.acc_base.specs.declared.designs.Side.TheVariants.{Next, Undo as UndoSide}
use Rattle.acc_base.specs.declared.machines.Frame.{Frame}
use Rattle.acc_base.specs.declared.machines.Cause.{Cause}
use Rattle.acc_base.specs.declared.steps.Target.{Target}
use Rattle.acc_base.specs.declared.steps.Target.TheVariants.{Point as ToPoint, Commit, Undone, Refuse}
use Rattle.acc_base.specs.declared.steps.Path.{Path}
use Rattle.acc_base.specs.Linear.{variables}
use Rattle.acc_base.specs.Reads.{Reading, unread, after_reads}
use Rattle.acc_base.specs.Actions.{after_actions}
use Rattle.acc_base.specs.Effects.{OutOfRange, step_at, leads, path_end, path_effect, taken_path, choice, reads_end, step_effect, effect_of}
use Rattle.acc_base.specs.Machine.{stop_of, stop_by, is_asked, limit_of, forward_to, back_to}
use Rattle.acc_base.specs.Runnable.{IsRunnable, IsRunnableType, IsRunnablePoint, CanStep, CanGo, CanEnd}
use Rattle.acc_base.proofs.Items.{at_slice_get}
use Rattle.acc_store.specs.Rows.{written, IsNarrow}
use Rattle.acc_step.specs.Seen.{seen}
use Rattle.acc_step.specs.declared.effects.StepEffect.{StepEffect}
use Rattle.acc_plain.specs.Ahead.{ahead_of, reading_of, IsAhead, IsStepAhead}

-- nothing but the step's effect stops a frame that wasn't asked to turn and has steps left
pub stop_by_effect : (d : Design) (db : List Row) (f : Frame) → is_asked f.ask f.steps ≡ false →
    f.steps < limit_of (slice_get d.types f.ty) → stop_of d db f ≡ stop_by (effect_of d db f Next)
stop_by_effect d db f unasked left =
    let lt = lt-ltb f.steps (limit_of (slice_get d.types f.ty)) left in rw (unasked, lt) refl

-- ---- a step of a runnable design ends as its side may

same_target : (a b : Target) (x y : List Row) (s r : Reading) (i j : ℕ) → leads a x s i ≡ leads b y r j → a ≡ b
same_target (ToPoint p) (ToPoint q) x y s r i j e = cc
same_target Commit Commit x y s r i j e = refl
same_target Undone Undone x y s r i j e = refl
same_target (Refuse n) (Refuse m) x y s r i j e = cc
same_target (ToPoint p) Commit x y s r i j e = absurd cc
same_target (ToPoint p) Undone x y s r i j e = absurd cc
same_target (ToPoint p) (Refuse m) x y s r i j e = absurd cc
same_target Commit (ToPoint q) x y s r i j e = absurd cc
same_target Commit Undone x y s r i j e = absurd cc
same_target Commit (Refuse m) x y s r i j e = absurd cc
same_target Undone (ToPoint q) x y s r i j e = absurd cc
same_target Undone Commit x y s r i j e = absurd cc
same_target Undone (Refuse m) x y s r i j e = absurd cc
same_target (Refuse n) (ToPoint q) x y s r i j e = absurd cc
same_target (Refuse n) Commit x y s r i j e = absurd cc
same_target (Refuse n) Undone x y s r i j e = absurd cc

in_range : (b : Target) (y : List Row) (r : Reading) (j : ℕ) → OutOfRange ≡ leads b y r j → ⊥
in_range (ToPoint q) y r j e = cc
in_range Commit y r j e = cc
in_range Undone y r j e = cc
in_range (Refuse m) y r j e = cc

module _ (side : Side) (to : Target) (left : List Row) (seen_by : Reading) (place : ℕ) where
  by_path : (a : Target) (s : Reading) (i : ℕ) (rows : Option (List Row)) → path_end a s i rows ≡ leads to left seen_by place →
      CanEnd side a → CanEnd side to
  by_path a s i None e can = absurd (in_range to left seen_by place e)
  by_path a s i (Some db) e can = subst (CanEnd side) (same_target a to db left s seen_by i place e) can

  by_item : (db : List Row) (t : ℕ) (s : Reading) (i : ℕ) (paths : List Path) (p : Option Path) → All (CanGo side) paths →
      slice_get paths i ≡ p → path_effect db side t s i p ≡ leads to left seen_by place → CanEnd side to
  by_item db t s i paths None can at e = absurd (in_range to left seen_by place e)
  by_item db t s i paths (Some p) can at e =
      let go : CanGo side p = at_slice_get (CanGo side) paths i p can at in
      by_path p.target s i (after_actions side (variables t s.locals) p.actions db) e go.target

  by_choice : (db : List Row) (t : ℕ) (s : Reading) (paths : List Path) (i : Option ℕ) → All (CanGo side) paths →
      choice db side t paths s i ≡ leads to left seen_by place → CanEnd side to
  by_choice db t s paths None can e = absurd (in_range to left seen_by place e)
  by_choice db t s paths (Some i) can e = by_item db t s i paths (slice_get paths i) can refl e

  by_reads : (db : List Row) (t : ℕ) (paths : List Path) (s : Option Reading) → All (CanGo side) paths →
      reads_end db side t paths s ≡ leads to left seen_by place → CanEnd side to
  by_reads db t paths None can e = absurd (in_range to left seen_by place e)
  by_reads db t paths (Some s) can e = by_choice db t s paths (taken_path (variables t s.locals) paths) can e

step_can : (side : Side) (p : Point) → IsRunnablePoint p → CanStep side (step_at side p)
step_can Next p can = can.next
step_can UndoSide p can = can.undo

module _ (d : Design) (db : List Row) (f : Frame) (side : Side) (to : Target) (left : List Row) (s : Reading) (place : ℕ)
    (can : IsRunnable d) where
  at_point : (x : TxType) (p : Option Point) → slice_get d.types f.ty ≡ Some x → slice_get x.points f.point ≡ p →
      step_effect db f side (option_and_then (λ y. Some (step_at side y)) p) ≡ leads to left s place → CanEnd side to
  at_point x None tx px e = absurd (in_range to left s place e)
  at_point x (Some p) tx px e =
      let type_can : IsRunnableType x = at_slice_get IsRunnableType d.types f.ty x can tx in
      let point_can : IsRunnablePoint p = at_slice_get IsRunnablePoint x.points f.point p type_can.points px in
      let go : CanStep side (step_at side p) = step_can side p point_can in
      by_reads side to left s place db f.t (step_at side p).paths (after_reads db f (step_at side p).reads (unread f)) go.paths e

  at_type : (x : Option TxType) → slice_get d.types f.ty ≡ x →
      step_effect db f side (option_and_then (λ y. Some (step_at side y)) (option_and_then (λ z. slice_get z.points f.point) x)) ≡ leads to
      left s place → CanEnd side to
  at_type None tx e = absurd (in_range to left s place e)
  at_type (Some x) tx e = at_point x (slice_get x.points f.point) tx refl e

  -- where a step leads, its side may end
  pub can_end : effect_of d db f side ≡ leads to left s place → CanEnd side to
  can_end e = at_type (slice_get d.types f.ty) refl e

-- ---- what lies ahead

pub goes_back : (f : Frame) (c : Cause) (s : Reading) (a : Target) → CanEnd UndoSide a → IsSome (back_to f c s a)
goes_back f c s (ToPoint p) can = refl
goes_back f c s Commit can = absurd can
goes_back f c s Undone can = refl
goes_back f c s (Refuse n) can = absurd can

-- an undo step's effect goes on or ends
pub back_ends : (d : Design) (db : List Row) (f : Frame) (c : Cause) (e : StepEffect) → IsRunnable d →
    seen db e ≡ effect_of d db f UndoSide → IsSome (back_to f c (reading_of e) e.target)
back_ends d db f c e can is =
    goes_back f c (reading_of e) e.target (can_end d db f UndoSide e.target (written e.writes db) (reading_of e) e.path can (sym is))

-- a forward step lies ahead, or its refusal
pub ahead_is : (d : Design) (db : List Row) (f : Frame) (e : StepEffect) → IsRunnable d → is_asked f.ask f.steps ≡ false →
    f.steps < limit_of (slice_get d.types f.ty) → f.steps + 1 < 2 ^ 32 → seen db e ≡ effect_of d db f Next → All IsNarrow e.writes →
    IsAhead d db f (ahead_of e e.target)
ahead_is d db f e can unasked left room is narrow = by e.target refl
  where
    stop : stop_of d db f ≡ stop_by (seen db e)
    stop = stop_by_effect d db f unasked left ∙ ap stop_by (sym is)

    may : CanEnd Next e.target
    may = can_end d db f Next e.target (written e.writes db) (reading_of e) e.path can (sym is)

    step : (a : Target) → e.target ≡ a → stop_by (leads a (written e.writes db) (reading_of e) e.path) ≡ None →
        IsSome (forward_to d f (reading_of e) a) → IsStepAhead d db f e
    step a at free ends = record {
      free = stop ∙ ap (λ (z : Target). stop_by (leads z (written e.writes db) (reading_of e) e.path)) at ∙ free;
      effect = is;
      narrow = narrow;
      ends = subst (λ (z : Target). IsSome (forward_to d f (reading_of e) z)) (sym at) ends;
      room = room;
    }

    by : (a : Target) → e.target ≡ a → IsAhead d db f (ahead_of e a)
    by (ToPoint p) at = step (ToPoint p) at refl refl
    by Commit at = step Commit at refl refl
    by Undone at = absurd (subst (CanEnd Next) at may)
    by (Refuse n) at = stop ∙ ap (λ (z : Target). stop_by (leads z (written e.writes db) (reading_of e) e.path)) at
