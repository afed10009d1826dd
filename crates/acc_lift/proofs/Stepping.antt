-- What a step that goes on or ends leaves, whichever side it is on.
use Rattle.std.proofs.Common.{◌≡◌, ℕ, ◌+◌, ◌*◌, ◌<◌, ◌≤◌, ◌^◌, ◌⊎◌, inl, inr, List, [], length, sym, subst, refl, ap, ◌∙◌, arith, Option}
use Rattle.std.proofs.Common.{Some, None, pos}
use Rattle.std.specs.Prelude.{All, Contains, ◌≢◌, IsTrue, slice_get, slice_index_or}
use Rattle.std.specs.List.{AllByRecursion}
use Rattle.std.proofs.lemmas.Option.{same_Some}
use Rattle.std.proofs.Math.Seq.{get_or-append_seam}
use Rattle.std.proofs.lemmas.List.Elements.{All-contains, recursion_from_All}
use Rattle.acc_base.specs.declared.tables.Row.{Row}
use Rattle.acc_base.specs.declared.steps.Target.{Target}
use Rattle.acc_base.specs.declared.steps.Target.TheVariants.{Point as ToPoint, Commit, Undone}
use Rattle.acc_base.specs.declared.designs.Design.{Design}
use Rattle.acc_base.specs.declared.designs.TxType.{TxType}
use Rattle.acc_base.specs.declared.designs.Side.{Side}
use Rattle.acc_base.specs.declared.designs.Side.TheVariants.{Next, Undo as UndoSide}
use Rattle.acc_base.specs.declared.machines.Frame.{Frame}
use Rattle.acc_base.specs.Assertions.{Holds, Always}
use Rattle.acc_base.specs.Linear.{var, variables}
use Rattle.acc_base.specs.Reads.{Reading, unread}
use Rattle.acc_base.specs.Actions.{after_actions}
use Rattle.acc_base.specs.Effects.{step_of, Goes, effect_of}
use Rattle.acc_base.specs.Machine.{World, moved, limit_of}
use Rattle.acc_base.proofs.ActionRuns.{actions_in_order, length-actions}
use Rattle.acc_base.proofs.EffectParts.{GoesBy, parts}
use Rattle.acc_base.proofs.ReadRuns.{ReadsLeave, reads_leave}
use Rattle.acc_base.specs.Fits.{RowsFit, IsFrameOf, IsFrameOfSome, IsFrame, IsReady}
use Rattle.acc_base.specs.PrivateRows.{IsPrivateOf, type_puts, HasNoneOf}
use Rattle.acc_base.specs.Soundness.{MeetsAt, WhereGoes, actions_of_path, actions_of, IsShared, AreShared, ClearsAt, IsSound}
use Rattle.acc_base.specs.Entries.{IsFree}
use Rattle.acc_lift.specs.RunRules.{HasRunRules, IsTargetOf, IsPathOf}
use Rattle.acc_base.specs.Locks.{frame_at}
use Rattle.acc_base.specs.Invariant.{Stands, IsOwned, IsWithin, IsSteady}
use Rattle.acc_lift.proofs.Kept.{rows_shaped, rows_keyed, rows_within, rows_shared}
use Rattle.acc_lift.proofs.Owners.{path_puts, all_listed, rows_owned}
use Rattle.acc_lift.proofs.Becoming.{stands_at, weaker_bound}

-- ---- the type of a frame

pub record HasType (d : Design) (f : Frame) : Type 0 where
  pub type : TxType
  pub is_type : slice_get d.types f.ty ≡ Some type
  pub frame : IsFrameOf type f

pub typed : (d : Design) (f : Frame) → IsFrame d f → HasType d f
typed d f h = by (slice_get d.types f.ty) refl h
  where
    by : (o : Option TxType) → slice_get d.types f.ty ≡ o → IsFrameOfSome o f → HasType d f
    by None e k = absurd k
    by (Some x) e k = record { type = x; is_type = e; frame = k }

pub frame_to : (d : Design) (f : Frame) (x : TxType) → slice_get d.types f.ty ≡ Some x → IsFrameOf x f → IsFrame d f
frame_to d f x e h = subst (λ o. IsFrameOfSome o f) (sym e) h

pub ready : (d : Design) (w : World) → IsSteady d w → (t : ℕ) (side : Side) (f : Frame) → Stands d w.rows t side f → IsReady d w.rows f
ready d w steady t side f k = record { rows = steady.rows; always = steady.always; frame = k.frame; holds = k.holds }

-- what a step on a side leaves that leads to a target, or ends there
pub record Left (d : Design) (w : World) (t : ℕ) (f : Frame) (side : Side) (after : List Row) (s : Reading) (to : Target) : Type 0 where
  pub rows : RowsFit d after
  pub few : length after ≤ 16 * length w.events + 16
  pub always : Always d after
  pub met : MeetsAt d f side after s to
  pub spared : (u : ℕ) (g : Frame) → frame_at u w ≡ Some g → u ≢ t → IsFree d g f side s → Holds d after g
  pub owned : All (IsOwned d w) after
  pub cleared :
      (to ≡ Commit) ⊎ (to ≡ Undone) → (r : Row) → Contains after r → IsPrivateOf d (pos t) r
      → IsTrue (type_puts r.table (slice_get d.types f.ty)) → ⊥
  pub bounded : AllByRecursion (IsWithin (2 ^ 45 * (1 + length w.events) + 2 ^ 45)) after
  pub reading : ReadsLeave f s
  pub in_type : (p : ℕ) → to ≡ ToPoint p → (x : TxType) → slice_get d.types f.ty ≡ Some x → p < length x.points

module _ (d : Design) (sound : IsSound d) (well : HasRunRules d) (w : World) (steady : IsSteady d w) (t : ℕ) (f : Frame)
    (is : frame_at t w ≡ Some f) (stood : Side) (stands : Stands d w.rows t stood f) (side : Side) (after : List Row) (s : Reading) (i : ℕ)
    (to : Target) (effect : effect_of d w.rows f side ≡ Goes after s i to) where
  now : IsReady d w.rows f
  now = ready d w steady t stood f stands

  own : HasType d f
  own = typed d f stands.frame

  by : GoesBy d w.rows f side after s i to
  by = parts after s i to d w.rows f side effect

  path : IsPathOf d own.type side by.path
  path = well.paths f.ty f.point side own.type by.step i by.path own.is_type by.is_step by.is_path

  reading : ReadsLeave f s
  reading = reads_leave w.rows f by.step.reads (unread f) s by.reads (record { kept = refl; small = own.frame.locals; at = λ q. q })

  -- ---- the rows

  few_after : length after ≤ 16 * length w.events + 16
  few_after =
      let a = length-actions side (variables f.t s.locals) by.path.actions w.rows after by.actions in
      let b = path.few in
      let c = steady.few in
      omega arith

  rows_after : RowsFit d after
  rows_after = record {
    shapes = rows_shaped d.tables side (variables f.t s.locals) by.path.actions w.rows after by.actions path.shapes steady.rows.shapes;
    order = actions_in_order side (variables f.t s.locals) by.path.actions w.rows after by.actions steady.rows.order;
    keys = rows_keyed side (variables f.t s.locals) by.path.actions w.rows after by.actions steady.rows.keys;
    few = let a = few_after in let b = steady.ends in omega arith;
  }

  always_after : Always d after
  always_after = subst (WhereGoes (λ rows z j target. Always d rows)) effect (sound.keeps w.rows f side now)

  met : MeetsAt d f side after s to
  met = subst (WhereGoes (λ rows z j target. MeetsAt d f side rows z target)) effect (sound.meets w.rows f side now)

  cleared : ClearsAt d f after to
  cleared = subst (WhereGoes (λ rows z j target. ClearsAt d f rows target)) effect (sound.clears w.rows f side now)

  -- another transaction that doesn't forbid the step keeps its assertion
  spared : (u : ℕ) (g : Frame) → frame_at u w ≡ Some g → u ≢ t → IsFree d g f side s → Holds d after g
  spared u g m n free =
      let k = stands_at d w steady u g m in
      let other : g.t ≢ f.t = (λ e. n (sym k.stands.number ∙ (e ∙ stands.number))) in
      let h = subst (WhereGoes (λ rows z j target. IsFree d g f side z → Holds d rows g)) effect
      (sound.spares w.rows f side g now k.stands.frame other k.stands.holds) in
      h free

  self_is : var (variables f.t s.locals) (length own.type.locals) ≡ pos t
  self_is =
      ap (λ n. slice_index_or (variables f.t s.locals) n (pos 0)) (sym own.frame.each ∙ sym reading.kept)
      ∙ (get_or-append_seam s.locals (pos f.t) [] (pos 0) ∙ ap pos stands.number)

  owned_after : All (IsOwned d w) after
  owned_after =
      rows_owned d side (variables f.t s.locals) (length own.type.locals) w t f is self_is by.path.actions w.rows after by.actions
      (all_listed d f.ty by.path.actions (path_puts d f.ty f.point side by.step by.is_step i by.path by.is_path)) path.own steady.owned

  actions_are : actions_of (step_of d f.ty f.point side) i ≡ by.path.actions
  actions_are = ap (λ o. actions_of o i) by.is_step ∙ ap actions_of_path by.is_path

  shared_if : side ≡ UndoSide → All (IsShared (variables f.t s.locals) by.path.actions) by.path.actions
  shared_if u =
      let g : effect_of d w.rows f UndoSide ≡ Goes after s i to = ap (effect_of d w.rows f) (sym u) ∙ effect in
      let k : AreShared (variables f.t s.locals) (actions_of (step_of d f.ty f.point UndoSide) i) =
      subst (WhereGoes (λ rows z j target. AreShared (variables f.t z.locals) (actions_of (step_of d f.ty f.point UndoSide) j))) g
      (sound.shared w.rows f now) in
      subst (AreShared (variables f.t s.locals)) (ap (λ z. actions_of (step_of d f.ty f.point z) i) (sym u) ∙ actions_are) k

  bounded_by : (z : Side) → side ≡ z → AllByRecursion (IsWithin (2 ^ 45 * (1 + length w.events) + 2 ^ 45)) after
  bounded_by Next u =
      weaker_bound (2 ^ 45 * (1 + length w.events)) (2 ^ 45 * (1 + length w.events) + 2 ^ 45) after (omega arith)
      (rows_within (variables f.t s.locals) (2 ^ 45 * (1 + length w.events)) (omega arith) by.path.actions w.rows after
      (ap (λ q. after_actions q (variables f.t s.locals) by.path.actions w.rows) (sym u) ∙ by.actions)
      (recursion_from_All (IsWithin (2 ^ 45 * (1 + length w.events))) w.rows steady.bounded))
  bounded_by UndoSide u =
      rows_shared (variables f.t s.locals) (2 ^ 45 * (1 + length w.events)) (omega arith) by.path.actions w.rows after
      (ap (λ q. after_actions q (variables f.t s.locals) by.path.actions w.rows) (sym u) ∙ by.actions) (shared_if u)
      (recursion_from_All (IsWithin (2 ^ 45 * (1 + length w.events))) w.rows steady.bounded)

  bounded_after : AllByRecursion (IsWithin (2 ^ 45 * (1 + length w.events) + 2 ^ 45)) after
  bounded_after = bounded_by side refl

  -- ---- an end leaves no private row of a table that the type puts into

  none_left :
      HasNoneOf d f.ty (pos f.t) after → (r : Row) → Contains after r → IsPrivateOf d (pos t) r
      → IsTrue (type_puts r.table (slice_get d.types f.ty)) → ⊥
  none_left none r m p puts =
      All-contains (λ z. IsTrue (type_puts z.table (slice_get d.types f.ty)) → ¬ IsPrivateOf d (pos f.t) z) after r none m puts
      (subst (λ n. IsPrivateOf d (pos n) r) (sym stands.number) p)

  in_type : (p : ℕ) → to ≡ ToPoint p → (x : TxType) → slice_get d.types f.ty ≡ Some x → p < length x.points
  in_type p is_point x is_type =
      let k : IsTargetOf own.type (ToPoint p) = subst (IsTargetOf own.type) (by.target ∙ is_point) path.target in
      subst (λ z. p < length z.points) (same_Some own.type x (sym own.is_type ∙ is_type)) k

  end_clears : (to ≡ Commit) ⊎ (to ≡ Undone) → HasNoneOf d f.ty (pos f.t) after
  end_clears (inl e) = subst (ClearsAt d f after) e cleared
  end_clears (inr e) = subst (ClearsAt d f after) e cleared

  pub left : Left d w t f side after s to
  left = record {
    rows = rows_after;
    few = few_after;
    always = always_after;
    met = met;
    spared = spared;
    owned = owned_after;
    cleared = λ e r m p puts. none_left (end_clears e) r m p puts;
    bounded = bounded_after;
    reading = reading;
    in_type = in_type;
  }

-- ---- the new frame

module _ (d : Design) (w : World) (t : ℕ) (f : Frame) (after : List Row) (s : Reading) (to : Target) (p : ℕ)
    (is_point : to ≡ ToPoint p) where
  pub forward_stands :
      Stands d w.rows t Next f → Left d w t f Next after s to → f.steps < limit_of (slice_get d.types f.ty)
      → Stands d after t Next (moved Next f s p)
  forward_stands k l below =
      let own = typed d f k.frame in
      let limit : limit_of (slice_get d.types f.ty) ≡ own.type.limit = ap limit_of own.is_type in
      record {
        number = k.number;
        side_is = k.side_is;
        frame =
            frame_to d (moved Next f s p) own.type own.is_type
            (record {
              point = l.in_type p is_point own.type own.is_type;
              each = l.reading.kept ∙ own.frame.each;
              locals = l.reading.small;
              tape = own.frame.tape;
              first = own.frame.first;
              number = own.frame.number;
              steps = omega arith;
              at = l.reading.at own.frame.at;
            });
        holds = subst (MeetsAt d f Next after s) is_point l.met;
      }

  pub undo_stands : Stands d w.rows t UndoSide f → Left d w t f UndoSide after s to → Stands d after t UndoSide (moved UndoSide f s p)
  undo_stands k l =
      let own = typed d f k.frame in
      record {
        number = k.number;
        side_is = k.side_is;
        frame =
            frame_to d (moved UndoSide f s p) own.type own.is_type
            (record {
              point = l.in_type p is_point own.type own.is_type;
              each = l.reading.kept ∙ own.frame.each;
              locals = l.reading.small;
              tape = own.frame.tape;
              first = own.frame.first;
              number = own.frame.number;
              steps = own.frame.steps;
              at = l.reading.at own.frame.at;
            });
        holds = subst (MeetsAt d f UndoSide after s) is_point l.met;
      }
