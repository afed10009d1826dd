-- A well-formed design keeps the form rules that the invariant of its states rests on.
use Rattle.std.proofs.Common.{◌≡◌, ℕ, zero, suc, ◌+◌, ◌<◌, Bool, true, false, List, [], ◌∷◌, length, get_or, ap, sym, ◌∙◌, subst, arith}
use Rattle.std.proofs.Common.{Option, Some, None, ◌==◌}
use Rattle.std.specs.Prelude.{◌≢◌, ◌&&◌, not, nat_le, slice_get, IsTrue, All}
use Rattle.std.proofs.lemmas.Option.{same_Some, none-some}
use Rattle.std.proofs.lemmas.Bool.{false≢true, and_parts, leb-true, ltb-true, eqb-true}
use Rattle.std.proofs.lemmas.Bool.Decides.{nat_tests}
use Rattle.std.proofs.lemmas.List.Sums.{AllPass-from_list_all}
use Rattle.acc_base.specs.declared.forms.Lin.{Lin}
use Rattle.acc_base.specs.declared.tables.Table.{Table}
use Rattle.acc_base.specs.declared.steps.Read.{Read}
use Rattle.acc_base.specs.declared.steps.Action.{Action}
use Rattle.acc_base.specs.declared.steps.Action.TheVariants.{Put, Del, Set, Add}
use Rattle.acc_base.specs.declared.steps.Target.{Target}
use Rattle.acc_base.specs.declared.steps.Target.TheVariants.{Point as ToPoint, Commit, Undone, Refuse}
use Rattle.acc_base.specs.declared.steps.Path.{Path}
use Rattle.acc_base.specs.declared.steps.Step.{Step}
use Rattle.acc_base.specs.declared.designs.Point.{Point}
use Rattle.acc_base.specs.declared.designs.TxType.{TxType}
use Rattle.acc_base.specs.declared.designs.Entry.{Entry}
use Rattle.acc_base.specs.declared.designs.Design.{Design}
use Rattle.acc_base.specs.declared.designs.Side.{Side}
use Rattle.acc_base.specs.declared.designs.Side.TheVariants.{Next, Undo}
use Rattle.acc_base.specs.Reads.{assigned}
use Rattle.acc_base.specs.Runnable.{CanEnd}
use Rattle.acc_base.specs.Effects.{step_at, step_of}
use Rattle.acc_base.proofs.Items.{at_slice_get}
use Rattle.acc_base.specs.Shapes.{IsFullKey, IsColumn, AreColumns, ActionFits}
use Rattle.acc_formed.specs.Ranges.{has_column, cell_in, row_in, lin_in, action_in, target_in}
use Rattle.acc_formed.specs.Widths.{is_key, fills, action_fits, may_write, action_is_own}
use Rattle.acc_formed.specs.Ends.{may_end}
use Rattle.acc_formed.specs.Entries.{is_undo, read_keeps, undo_keeps, undos_keep, pair_stays}
use Rattle.acc_formed.specs.WellFormed.{EachNumbered, IsPathFormed, IsStepFormed, IsPointFormed, IsTypeFormed, IsEntryFormed, IsWellFormed}
use Rattle.acc_formed.proofs.InRange.{PathInRange, StepInRange, PointInRange, TypeInRange, design_range}
use Rattle.acc_formed.proofs.Uses.{private_key, bare_path}
use Rattle.acc_base.specs.PrivateRows.{is_own_table}
use Rattle.acc_lift.specs.RunRules.{EndsInSelf, PutsOwn, IsTargetOf, IsPathOf, IsTypeOf, IsUnassigned, IsEntryOf, HasRunRules}
use Rattle.acc_lift.proofs.Owners.{step_is_at}

-- ---- items by their number

within : {X : Type 0} (xs : List X) (k : ℕ) (x : X) → slice_get xs k ≡ Some x → (k < length xs) × (get_or xs k x ≡ x)
within [] k x e = absurd (none-some x e)
within (y ∷ ys) zero x e = (omega arith, same_Some y x e)
within (y ∷ ys) (suc k) x e = let h = within ys k x e in (let l = h.0 in omega (arith, l), h.1)

pub numbered_at : {X : Type 0} (P : ℕ → X → Type 0) (xs : List X) (k : ℕ) (x : X) → EachNumbered P xs → slice_get xs k ≡ Some x → P k x
numbered_at P xs k x h e = let w = within xs k x e in subst (P k) w.1 (h k x w.0)

-- ---- what is formed and in range

record FormedStep (d : Design) (x : TxType) (side : Side) (s : Step) : Type 0 where
  bare : Bool
  formed : IsStepFormed d.tables x side bare s
  range : StepInRange d.tables (length x.locals + 1) (length x.points) s

formed_step :
    (d : Design) → IsWellFormed d → (ty p : ℕ) (side : Side) (x : TxType) (point : Point) → slice_get d.types ty ≡ Some x
    → slice_get x.points p ≡ Some point → FormedStep d x side (step_at side point)
formed_step d f ty p side x point a b = by side
  where
    t : IsTypeFormed d.tables d.types ty x
    t = numbered_at (IsTypeFormed d.tables d.types) d.types ty x f.types a

    r : TypeInRange d.tables x
    r = at_slice_get (TypeInRange d.tables) d.types ty x (design_range d f.in_range).types a

    q : IsPointFormed d.tables x p point
    q = numbered_at (IsPointFormed d.tables x) x.points p point t.points b

    g : PointInRange d.tables (length x.locals + 1) (length x.points) point
    g = at_slice_get (PointInRange d.tables (length x.locals + 1) (length x.points)) x.points p point r.points b

    by : (z : Side) → FormedStep d x z (step_at z point)
    by Next = record { bare = false; formed = q.next; range = g.next }
    by Undo = record { bare = p == 0; formed = q.undo; range = g.undo }

-- ---- actions

key : (o : Option Table) (k : List Lin) → is_key o k ≡ true → IsFullKey o (length k)
key None k h = absurd (false≢true h)
key (Some t) k h = eqb-true (length k) t.width h

column : (o : Option Table) (c : ℕ) → has_column o c ≡ true → IsColumn o c
column None c h = absurd (false≢true h)
column (Some t) c h = ltb-true c (length t.cols) h

columns : (o : Option Table) (vs : List Lin) → fills o vs ≡ true → AreColumns o (length vs)
columns None vs h = absurd (false≢true h)
columns (Some t) vs h = eqb-true (length vs) (length t.cols) h

module _ (tables : List Table) (vars : ℕ) where
  cell : (t : ℕ) (k : List Lin) (c : ℕ) → cell_in tables vars t k c ≡ true → IsColumn (slice_get tables t) c
  cell t k c h = column (slice_get tables t) c (and_parts (row_in tables vars t k) (has_column (slice_get tables t) c) h).1

  action_shaped : (a : Action) → action_in tables vars a ≡ true → action_fits tables a ≡ true → ActionFits tables a
  action_shaped (Put t k vs) h g =
      let p = and_parts (is_key (slice_get tables t) k) (fills (slice_get tables t) vs) g in
      (key (slice_get tables t) k p.0, columns (slice_get tables t) vs p.1)
  action_shaped (Del t k) h g = key (slice_get tables t) k g
  action_shaped (Set t k c v) h g = (key (slice_get tables t) k g, cell t k c (and_parts (cell_in tables vars t k c) (lin_in vars v) h).0)
  action_shaped (Add t k c v) h g = (key (slice_get tables t) k g, cell t k c (and_parts (cell_in tables vars t k c) (lin_in vars v) h).0)

own_put : (o : Option Table) (me : ℕ) (k : List Lin) → may_write o me k ≡ true → IsTrue (is_own_table o) → EndsInSelf me k
own_put None me k h p = absurd (false≢true h)
own_put (Some t) me k h p = private_key t me k p h

puts_own : (d : Design) (me : ℕ) (a : Action) → action_is_own d.tables me a ≡ true → PutsOwn d me a
puts_own d me (Put t k vs) h = own_put (slice_get d.tables t) me k h
puts_own d me (Del t k) h = tt
puts_own d me (Set t k c v) h = tt
puts_own d me (Add t k c v) h = tt

-- ---- where paths lead

target_is : (x : TxType) (z : Target) → target_in (length x.points) z ≡ true → IsTargetOf x z
target_is x (ToPoint p) h = ltb-true p (length x.points) h
target_is x Commit h = tt
target_is x Undone h = tt
target_is x (Refuse n) h = tt

can_end : (side : Side) (z : Target) → may_end side z ≡ true → CanEnd side z
can_end Next (ToPoint p) h = tt
can_end Undo (ToPoint p) h = tt
can_end Next Commit h = tt
can_end Undo Commit h = absurd (false≢true h)
can_end Next Undone h = absurd (false≢true h)
can_end Undo Undone h = tt
can_end Next (Refuse n) h = tt
can_end Undo (Refuse n) h = absurd (false≢true h)

not_zero : (n : ℕ) → not (n == 0) ≡ true → n ≢ 0
not_zero n h e = grind (arith, nat_tests)

module _ (d : Design) (f : IsWellFormed d) where
  type_of : (ty : ℕ) (x : TxType) → slice_get d.types ty ≡ Some x → IsTypeOf x
  type_of ty x e =
      let t = numbered_at (IsTypeFormed d.tables d.types) d.types ty x f.types e in
      let r = at_slice_get (TypeInRange d.tables) d.types ty x (design_range d f.in_range).types e in
      record {
        start = r.some;
        params = r.params;
        limit = leb-true x.limit 65536 (and_parts (nat_le 1 x.limit) (nat_le x.limit 65536) t.limit).1;
      }

  path_in :
      (side : Side) (x : TxType) (step : Step) (i : ℕ) (path : Path) → FormedStep d x side step → slice_get step.paths i ≡ Some path
      → IsPathOf d x side path
  path_in side x step i path s e =
      let a = at_slice_get (IsPathFormed d.tables x side s.bare) step.paths i path s.formed.paths e in
      let b = at_slice_get (PathInRange d.tables (length x.locals + 1) (length x.points)) step.paths i path s.range.paths e in
      record {
        target = target_is x path.target b.target;
        ends = can_end side path.target a.ends;
        few = a.few;
        shapes = λ k r l. action_shaped d.tables (length x.locals + 1) _ (b.actions k r l) (a.actions k r l).widths;
        own = λ k r l. puts_own d (length x.locals) _ (a.actions k r l).own;
      }

  path_of :
      (ty p : ℕ) (side : Side) (x : TxType) (step : Step) (i : ℕ) (path : Path) → slice_get d.types ty ≡ Some x
      → step_of d ty p side ≡ Some step → slice_get step.paths i ≡ Some path → IsPathOf d x side path
  path_of ty p side x step i path e is_step is_path =
      let a = step_is_at d ty p side step is_step in
      let s : FormedStep d a.type side step = subst (FormedStep d a.type side) a.is_step
      (formed_step d f ty p side a.type a.p a.is_type a.is_point) in
      subst (λ z. IsPathOf d z side path) (same_Some a.type x (sym a.is_type ∙ e)) (path_in side a.type step i path s is_path)

  start_of :
      (ty : ℕ) (step : Step) → step_of d ty 0 Undo ≡ Some step → (i : ℕ) (path : Path) → slice_get step.paths i ≡ Some path
      → path.target ≡ Undone
  start_of ty step e i path is_path =
      let a = step_is_at d ty 0 Undo step e in
      let t = numbered_at (IsTypeFormed d.tables d.types) d.types ty a.type f.types a.is_type in
      let q : IsPointFormed d.tables a.type 0 a.p = numbered_at (IsPointFormed d.tables a.type) a.type.points 0 a.p t.points a.is_point in
      let here : slice_get a.p.undo.paths i ≡ Some path = subst (λ s. slice_get s.paths i ≡ Some path) (sym a.is_step) is_path in
      (bare_path d.tables a.type Undo path (at_slice_get (IsPathFormed d.tables a.type Undo true) a.p.undo.paths i path q.undo.paths
      here)).1

  keeps : (x : ℕ) (r : Read) → read_keeps x r ≡ true → assigned r ≢ x
  keeps x r h e = grind (arith, nat_tests)

  unassigned : (ty x : ℕ) → undos_keep (slice_get d.types ty) x ≡ true → IsUnassigned d ty x
  unassigned ty x h p step e =
      let a = step_is_at d ty p Undo step e in
      let g : undos_keep (Some a.type) x ≡ true = sym (ap (λ o. undos_keep o x) a.is_type) ∙ h in
      let q : undo_keeps x a.p ≡ true = at_slice_get (λ z. IsTrue (undo_keeps x z)) a.type.points p a.p
      (AllPass-from_list_all (undo_keeps x) a.type.points g) a.is_point in
      let all = AllPass-from_list_all (read_keeps x) a.p.undo.reads q in
      subst (λ s. All (λ r. assigned r ≢ x) s.reads) a.is_step (λ k r l. keeps x (get_or a.p.undo.reads k r) (all k r l))

  no_start : (n : ℕ) (side : Side) → side ≡ Undo → not ((n == 0) && is_undo side) ≡ true → n ≢ 0
  no_start n side e h z =
      let a : (n == 0) ≡ true = ap (λ m. m == 0) z in
      let b : is_undo side ≡ true = ap is_undo e in
      let c : not ((n == 0) && is_undo side) ≡ false = (λ i. not (a i && b i)) in
      false≢true (sym c ∙ h)

  entry_of : (n : ℕ) (e : Entry) → slice_get d.entries n ≡ Some e → IsEntryOf d e
  entry_of n e h =
      let t = numbered_at (IsEntryFormed d.types d.entries) d.entries n e f.entries h in
      let a = and_parts (not (e.held.point == 0)) (not ((e.step.point == 0) && is_undo e.side)) t.starts in
      let pairs = AllPass-from_list_all (pair_stays d.types e) e.pairs t.pairs in
      record {
        held = not_zero e.held.point a.0;
        step = λ q. no_start e.step.point e.side q a.1;
        held_kept =
            λ k q l. unassigned e.held.ty _ (and_parts (undos_keep (slice_get d.types e.held.ty) _)
            (undos_keep (slice_get d.types e.step.ty) _) (pairs k q l)).0;
        step_kept =
            λ k q l. unassigned e.step.ty _ (and_parts (undos_keep (slice_get d.types e.held.ty) _)
            (undos_keep (slice_get d.types e.step.ty) _) (pairs k q l)).1;
      }

  pub run_rules : HasRunRules d
  run_rules = record { types = type_of; paths = path_of; starts = start_of; entries = entry_of }
