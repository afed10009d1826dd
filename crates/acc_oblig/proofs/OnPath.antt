-- An effect that goes on or ends, in a well-formed design: its path, and what stands there.
use Rattle.std.proofs.Common.{◌≡◌, ℕ, zero, suc, ◌+◌, ◌≤◌, ◌<◌, Bool, false, List, [], ◌∷◌, length, get_or, ap, sym, ◌∙◌, subst, arith}
use Rattle.std.proofs.Common.{Some, ◌==◌}
use Rattle.std.specs.Prelude.{slice_get, IsTrue, All, option_and_then}
use Rattle.std.specs.List.{AllByRecursion}
use Rattle.std.proofs.lemmas.Option.{same_Some, none-some}
use Rattle.std.proofs.lemmas.List.Elements.{recursion_from_All}
use Rattle.acc_base.specs.declared.tables.Row.{Row}
use Rattle.acc_base.specs.declared.forms.Clause.{Clause}
use Rattle.acc_base.specs.declared.steps.Target.{Target}
use Rattle.acc_base.specs.declared.steps.Path.{Path}
use Rattle.acc_base.specs.declared.steps.Step.{Step}
use Rattle.acc_base.specs.declared.designs.Point.{Point}
use Rattle.acc_base.specs.declared.designs.TxType.{TxType}
use Rattle.acc_base.specs.declared.designs.Design.{Design}
use Rattle.acc_base.specs.declared.designs.Side.{Side}
use Rattle.acc_base.specs.declared.designs.Side.TheVariants.{Next, Undo}
use Rattle.acc_base.specs.declared.machines.Frame.{Frame}
use Rattle.acc_base.specs.Numbers.{IsSmall}
use Rattle.acc_base.specs.Linear.{variables}
use Rattle.acc_base.specs.Reads.{Reading, unread, after_reads}
use Rattle.acc_base.specs.Actions.{after_actions}
use Rattle.acc_base.specs.Truth.{ClauseTrue}
use Rattle.acc_base.specs.Assertions.{AllTrue, clauses_of}
use Rattle.acc_base.specs.Effects.{Goes, point_of, step_at, effect_of, taken_path}
use Rattle.acc_base.proofs.EffectParts.{parts}
use Rattle.acc_base.specs.Shapes.{ActionFits, RowFits}
use Rattle.acc_formed.specs.Ranges.{clause_in}
use Rattle.acc_formed.specs.WellFormed.{EachNumbered, IsClauseFormed, AreClausesFormed, IsPathFormed, IsStepFormed, IsPointFormed}
use Rattle.acc_formed.specs.WellFormed.{IsTypeFormed, IsWellFormed}
use Rattle.acc_formed.proofs.InRange.{PathInRange, StepInRange, PointInRange, TypeInRange, design_range}
use Rattle.acc_base.specs.Fits.{IsFrameOf, IsFrameOfSome, IsReady}
use Rattle.acc_oblig.proofs.Guards.{taken_is}
use Rattle.acc_oblig.proofs.Judged.{ClauseFits}
use Rattle.acc_oblig.proofs.ReadRels.{HasDivisor}
use Rattle.acc_oblig.proofs.Walks.{LooksBelow}
use Rattle.acc_oblig.proofs.Taken.{IsOn}
use Rattle.acc_oblig.proofs.StepPlaces.{step_is_at}
use Rattle.acc_oblig.proofs.Formed.{clause_fit, action_fit, divisor, looks}

-- ---- items by their number

pub at_some : {X : Type 0} (P : X → Type 0) (xs : List X) (k : ℕ) (x : X) → AllByRecursion P xs → slice_get xs k ≡ Some x → P x
at_some P [] k x h e = absurd (none-some x e)
at_some P (y ∷ ys) zero x h e = subst P (same_Some y x e) h.0
at_some P (y ∷ ys) (suc k) x h e = at_some P ys k x h.1 e

pub all_at : {X : Type 0} (P : X → Type 0) (xs : List X) (k : ℕ) (x : X) → All P xs → slice_get xs k ≡ Some x → P x
all_at P xs k x h e = at_some P xs k x (recursion_from_All P xs h) e

within : {X : Type 0} (xs : List X) (k : ℕ) (x : X) → slice_get xs k ≡ Some x → (k < length xs) × (get_or xs k x ≡ x)
within [] k x e = absurd (none-some x e)
within (y ∷ ys) zero x e = (omega arith, same_Some y x e)
within (y ∷ ys) (suc k) x e = let h = within ys k x e in (let l = h.0 in omega (arith, l), h.1)

pub numbered_at : {X : Type 0} (P : ℕ → X → Type 0) (xs : List X) (k : ℕ) (x : X) → EachNumbered P xs → slice_get xs k ≡ Some x → P k x
numbered_at P xs k x h e = let w = within xs k x e in subst (P k) w.1 (h k x w.0)

-- ---- what is formed and in range

pub record FormedPoint (d : Design) (ty point : ℕ) (x : TxType) (p : Point) : Type 0 where
  pub type : IsTypeFormed d.tables d.types ty x
  pub formed : IsPointFormed d.tables x point p
  pub type_range : TypeInRange d.tables x
  pub range : PointInRange d.tables (length x.locals + 1) (length x.points) p

pub formed_point :
    (d : Design) → IsWellFormed d → (ty point : ℕ) (x : TxType) (p : Point) → slice_get d.types ty ≡ Some x
    → slice_get x.points point ≡ Some p → FormedPoint d ty point x p
formed_point d f ty point x p a b =
    let t = numbered_at (IsTypeFormed d.tables d.types) d.types ty x f.types a in
    let r = all_at (TypeInRange d.tables) d.types ty x (design_range d f.in_range).types a in
    record {
      type = t;
      formed = numbered_at (IsPointFormed d.tables x) x.points point p t.points b;
      type_range = r;
      range = all_at (PointInRange d.tables (length x.locals + 1) (length x.points)) x.points point p r.points b;
    }

-- clauses of a list keep the tables' shapes
pub clauses_fit :
    (d : Design) (names : List (List ℕ)) (most vars : ℕ) (cs : List Clause) → AreClausesFormed d.tables names most cs
    → All (λ c. IsTrue (clause_in d.tables vars c)) cs → (k : ℕ) (c : Clause) → slice_get cs k ≡ Some c → ClauseFits d.tables c
clauses_fit d names most vars cs f r k c e =
    let a = all_at (IsClauseFormed d.tables names) cs k c f.each e in
    clause_fit d.tables vars c (all_at (λ (z : Clause). IsTrue (clause_in d.tables vars z)) cs k c r e) a.widths

pub record FormedStep (d : Design) (x : TxType) (side : Side) (s : Step) : Type 0 where
  pub bare : Bool
  pub formed : IsStepFormed d.tables x side bare s
  pub range : StepInRange d.tables (length x.locals + 1) (length x.points) s

pub formed_step :
    (d : Design) (ty point : ℕ) (x : TxType) (p : Point) → FormedPoint d ty point x p → (side : Side) → FormedStep d x side (step_at side p)
formed_step d ty point x p f Next = record { bare = false; formed = f.formed.next; range = f.range.next }
formed_step d ty point x p f Undo = record { bare = point == 0; formed = f.formed.undo; range = f.range.undo }

module _ (d : Design) (x : TxType) (side : Side) (s : Step) (f : FormedStep d x side s) where
  pub divisors : AllByRecursion HasDivisor s.reads
  divisors = recursion_from_All HasDivisor s.reads (λ k r l. divisor _ (f.formed.reads k r l).divisor)

  pub looks_below : (db : List Row) → AllByRecursion (RowFits d.tables) db → AllByRecursion (LooksBelow db) s.reads
  looks_below db shapes =
      recursion_from_All (LooksBelow db) s.reads (λ k r l. looks d.tables db shapes _ (f.formed.reads k r l).short_prefix)

  pub actions_shaped : (j : ℕ) (path : Path) → slice_get s.paths j ≡ Some path → AllByRecursion (ActionFits d.tables) path.actions
  actions_shaped j path e =
      let a = all_at (IsPathFormed d.tables x side f.bare) s.paths j path f.formed.paths e in
      let b = all_at (PathInRange d.tables (length x.locals + 1) (length x.points)) s.paths j path f.range.paths e in
      recursion_from_All (ActionFits d.tables) path.actions
      (λ k r l. action_fit d.tables (length x.locals + 1) _ (b.actions k r l) (a.actions k r l).widths)

-- ---- the path of an effect

pub record OnPath (d : Design) (db : List Row) (f : Frame) (side : Side) (after : List Row) (last : Reading) (j : ℕ) (to : Target)
    : Type 0 where
  pub x : TxType
  pub is_type : slice_get d.types f.ty ≡ Some x
  pub p : Point
  pub is_point : slice_get x.points f.point ≡ Some p
  pub path : Path
  pub is_path : slice_get (step_at side p).paths j ≡ Some path
  pub actions : after_actions side (variables f.t last.locals) path.actions db ≡ Some after
  pub target : path.target ≡ to
  pub each : length f.locals ≡ length x.locals
  pub formed : FormedPoint d f.ty f.point x p
  pub on : IsOn d db f p (step_at side p) last j path
  pub acts_fit : AllByRecursion (ActionFits d.tables) path.actions
  pub few : length path.actions ≤ 16
  pub range : PathInRange d.tables (length x.locals + 1) (length x.points) path

module _ (d : Design) (wf : IsWellFormed d) (db : List Row) (f : Frame) (ready : IsReady d db f) (side : Side) (after : List Row)
    (last : Reading) (j : ℕ) (to : Target) where
  pub on_path : effect_of d db f side ≡ Goes after last j to → OnPath d db f side after last j to
  on_path e =
      let g = parts after last j to d db f side e in
      let at = step_is_at d f.ty f.point side g.step g.is_step in
      let formed = formed_point d wf f.ty f.point at.type at.p at.is_type at.is_point in
      let step = formed_step d f.ty f.point at.type at.p formed side in
      let is_path = subst (λ (s : Step). slice_get s.paths j ≡ Some g.path) (sym at.is_step) g.is_path in
      let reads = subst (λ (s : Step). after_reads db f s.reads (unread f) ≡ Some last) (sym at.is_step) g.reads in
      let chosen = subst (λ (s : Step). taken_path (variables f.t last.locals) s.paths ≡ Some j) (sym at.is_step) g.choice in
      let frame : IsFrameOf at.type f = subst (λ o. IsFrameOfSome o f) at.is_type ready.frame in
      let holds = subst (λ o. AllTrue (clauses_of o) db f.t f.locals) (point_is at.type at.p at.is_type at.is_point) ready.holds in
      record {
        x = at.type;
        is_type = at.is_type;
        p = at.p;
        is_point = at.is_point;
        path = g.path;
        is_path = is_path;
        actions = g.actions;
        target = g.target;
        each = frame.each;
        formed = formed;
        on = record {
          always = recursion_from_All (ClauseTrue db []) d.always ready.always;
          holds = recursion_from_All (ClauseTrue db (variables f.t f.locals)) at.p.clauses holds;
          small = recursion_from_All IsSmall f.locals frame.locals;
          first = frame.first;
          number = frame.number;
          divisors = divisors d at.type side (step_at side at.p) step;
          looks = looks_below d at.type side (step_at side at.p) step db (recursion_from_All (RowFits d.tables) db ready.rows.shapes);
          reads = reads;
          taken = taken_is (variables f.t last.locals) (step_at side at.p).paths j g.path chosen is_path;
        };
        acts_fit = actions_shaped d at.type side (step_at side at.p) step j g.path is_path;
        few = (all_at (IsPathFormed d.tables at.type side step.bare) (step_at side at.p).paths j g.path step.formed.paths is_path).few;
        range =
            all_at (PathInRange d.tables (length at.type.locals + 1) (length at.type.points)) (step_at side at.p).paths j g.path
            step.range.paths is_path;
      }
    where
      point_is :
          (x : TxType) (p : Point) → slice_get d.types f.ty ≡ Some x → slice_get x.points f.point ≡ Some p
          → point_of d f.ty f.point ≡ Some p
      point_is x p a b = ap (λ o. option_and_then (λ (y : TxType). slice_get y.points f.point) o) a ∙ b
