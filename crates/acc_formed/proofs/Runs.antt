-- A well-formed design can be run.
use Rattle.std.proofs.Common.{◌≡◌, ℕ, ◌≤◌, ◌==◌, zero, suc, Bool, true, false, ◌&&◌, nat_le, List, [], ◌∷◌, length, get_or, Option, None}
use Rattle.std.proofs.Common.{Some, slice_get, All, arith}
use Rattle.std.specs.List.{list_all}
use Rattle.std.proofs.lemmas.Bool.{false≢true, and_parts, leb-true, ltb-true, eqb-true}
use Rattle.std.proofs.lemmas.Bool.Decides.{nat_tests}
use Rattle.std.proofs.lemmas.List.Elements.{All-head, All-tail}
use Rattle.acc_base.specs.declared.forms.Lin.{Lin}
use Rattle.acc_base.specs.declared.tables.Table.{Table}
use Rattle.acc_base.specs.declared.steps.Read.{Read}
use Rattle.acc_base.specs.declared.steps.Read.TheVariants as read
use Rattle.acc_base.specs.declared.steps.Action.{Action}
use Rattle.acc_base.specs.declared.steps.Action.TheVariants as action
use Rattle.acc_base.specs.declared.steps.Target.{Target}
use Rattle.acc_base.specs.declared.steps.Target.TheVariants as target
use Rattle.acc_base.specs.declared.steps.Path.{Path}
use Rattle.acc_base.specs.declared.steps.Step.{Step}
use Rattle.acc_base.specs.declared.designs.Side.{Side}
use Rattle.acc_base.specs.declared.designs.Side.TheVariants.{Next, Undo}
use Rattle.acc_base.specs.declared.designs.Point.{Point}
use Rattle.acc_base.specs.declared.designs.TxType.{TxType}
use Rattle.acc_base.specs.declared.designs.Design.{Design}
use Rattle.acc_base.specs.Runnable.{CanRead, CanAct, CanEnd, CanGo, CanStep, IsRunnablePoint, IsRunnable}
use Rattle.acc_formed.specs.Widths.{is_key, is_prefix, fills, is_short_prefix, read_fits, read_leaves_a_component, action_fits}
use Rattle.acc_formed.specs.Sizes.{is_short, table_small}
use Rattle.acc_formed.specs.Ends.{divides, may_end}
use Rattle.acc_formed.specs.WellFormed.{IsPathFormed, IsStepFormed, IsPointFormed, IsWellFormed}
use Rattle.acc_formed.proofs.InRange.{design_range}

-- ---- tables: keys of at most 6 components, and at most 12 columns

pub record IsTableSmall (t : Table) : Type 0 where
  pub width : t.width ≤ 6
  pub columns : length t.cols ≤ 12

pub table_is_small : (t : Table) → table_small t ≡ true → IsTableSmall t
table_is_small t h =
    let a = and_parts (is_short t.name && nat_le 1 t.width && nat_le t.width 6 && nat_le (length t.cols) 12) (list_all is_short t.cols) h in
    let b = and_parts (is_short t.name && nat_le 1 t.width && nat_le t.width 6) (nat_le (length t.cols) 12) a.0 in
    let e = and_parts (is_short t.name && nat_le 1 t.width) (nat_le t.width 6) b.0 in
    record { width = leb-true t.width 6 e.1; columns = leb-true (length t.cols) 12 b.1 }

-- what is said of no table and of each small table is said of the table of any number
at_table : (Q : Option Table → Type 0) → Q None → ((t : Table) → IsTableSmall t → Q (Some t)) →
    (tables : List Table) → All IsTableSmall tables → (t : ℕ) → Q (slice_get tables t)
at_table Q none some [] all t = none
at_table Q none some (x ∷ xs) all zero = some x (All-head IsTableSmall x xs all)
at_table Q none some (x ∷ xs) all (suc t) = at_table Q none some xs (All-tail IsTableSmall x xs all) t

few_of_key : (tables : List Table) → All IsTableSmall tables → (t : ℕ) (k : List Lin) → is_key (slice_get tables t) k ≡ true → length k ≤ 6
few_of_key tables all t k =
    at_table (λ o. is_key o k ≡ true → length k ≤ 6) (λ h. absurd (false≢true h))
    (λ x small h. let e = eqb-true (length k) x.width h in omega (arith, small.width)) tables all t

few_of_prefix : (tables : List Table) → All IsTableSmall tables → (t : ℕ) (p : List Lin) → is_prefix (slice_get tables t) p ≡ true →
    length p ≤ 6
few_of_prefix tables all t p =
    at_table (λ o. is_prefix o p ≡ true → length p ≤ 6) (λ h. absurd (false≢true h))
    (λ x small h. let e = leb-true (length p) x.width (and_parts (nat_le 1 (length p)) (nat_le (length p) x.width) h).1 in
    omega (arith, small.width)) tables all t

few_of_short : (tables : List Table) → All IsTableSmall tables → (t : ℕ) (p : List Lin) → is_short_prefix (slice_get tables t) p ≡ true →
    length p ≤ 6
few_of_short tables all t p =
    at_table (λ o. is_short_prefix o p ≡ true → length p ≤ 6) (λ h. absurd (false≢true h))
    (λ x small h. let e = ltb-true (length p) x.width h in omega (arith, small.width)) tables all t

few_values : (tables : List Table) → All IsTableSmall tables → (t : ℕ) (vs : List Lin) → fills (slice_get tables t) vs ≡ true →
    length vs ≤ 12
few_values tables all t vs =
    at_table (λ o. fills o vs ≡ true → length vs ≤ 12) (λ h. absurd (false≢true h))
    (λ x small h. let e = eqb-true (length vs) (length x.cols) h in omega (arith, small.columns)) tables all t

-- ---- reads, actions, targets

read_runs : (tables : List Table) → All IsTableSmall tables → (r : Read) →
    read_fits tables r ≡ true → read_leaves_a_component tables r ≡ true → divides r ≡ true → CanRead r
read_runs tables all (read.Let x l) h g e = tt
read_runs tables all (read.Col x t k c) h g e = few_of_key tables all t k h
read_runs tables all (read.Has x t k) h g e = few_of_key tables all t k h
read_runs tables all (read.Count x t p) h g e = few_of_prefix tables all t p h
read_runs tables all (read.Sum x t p c) h g e = few_of_prefix tables all t p h
read_runs tables all (read.Least x t p) h g e = few_of_short tables all t p g
read_runs tables all (read.Greatest x t p) h g e = few_of_short tables all t p g
read_runs tables all (read.Take x) h g e = tt
read_runs tables all (read.Mul x y z) h g e = tt
read_runs tables all (read.Div x y c) h g e = grind (arith, nat_tests)

action_runs : (tables : List Table) → All IsTableSmall tables → (a : Action) → action_fits tables a ≡ true → CanAct a
action_runs tables all (action.Put t k vs) h =
    let p = and_parts (is_key (slice_get tables t) k) (fills (slice_get tables t) vs) h in
    (few_of_key tables all t k p.0, few_values tables all t vs p.1)
action_runs tables all (action.Del t k) h = few_of_key tables all t k h
action_runs tables all (action.Set t k c v) h = few_of_key tables all t k h
action_runs tables all (action.Add t k c v) h = few_of_key tables all t k h

end_runs : (side : Side) (to : Target) → may_end side to ≡ true → CanEnd side to
end_runs Next (target.Point p) h = tt
end_runs Next target.Commit h = tt
end_runs Next target.Undone h = absurd (false≢true h)
end_runs Next (target.Refuse n) h = tt
end_runs Undo (target.Point p) h = tt
end_runs Undo target.Commit h = absurd (false≢true h)
end_runs Undo target.Undone h = tt
end_runs Undo (target.Refuse n) h = absurd (false≢true h)

-- ---- steps, points, types

path_runs : (tables : List Table) → All IsTableSmall tables → (t : TxType) (side : Side) (is_bare : Bool) (p : Path) →
    IsPathFormed tables t side is_bare p → CanGo side p
path_runs tables all t side is_bare p f = record {
  actions = λ k d l. action_runs tables all _ (f.actions k d l).widths;
  few = f.few;
  target = end_runs side p.target f.ends;
}

step_runs : (tables : List Table) → All IsTableSmall tables → (t : TxType) (side : Side) (is_bare : Bool) (s : Step) →
    IsStepFormed tables t side is_bare s → CanStep side s
step_runs tables all t side is_bare s f = record {
  reads = λ k d l. read_runs tables all _ (f.reads k d l).widths (f.reads k d l).short_prefix (f.reads k d l).divisor;
  paths = λ k d l. path_runs tables all t side is_bare _ (f.paths k d l);
  few = omega (arith, f.few_paths);
}

point_runs : (tables : List Table) → All IsTableSmall tables → (t : TxType) (i : ℕ) (p : Point) → IsPointFormed tables t i p →
    IsRunnablePoint p
point_runs tables all t i p f = record {
  next = step_runs tables all t Next false p.next f.next;
  undo = step_runs tables all t Undo (i == 0) p.undo f.undo;
}

pub well_formed_runs : (d : Design) → IsWellFormed d → IsRunnable d
well_formed_runs d f k x l =
    let small : All IsTableSmall d.tables = λ i t m. table_is_small _ (f.tables i t m).limits in
    let formed = f.types k x l in
    record {
      points = λ i p m. point_runs d.tables small (get_or d.types k x) i _ (formed.points i p m);
      few = formed.few_locals;
      params = ((design_range d f.in_range).types k x l).params;
    }
