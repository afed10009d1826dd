-- Points that are reached and done, one after the other.
use Rattle.std.proofs.Common.{◌≡◌, ℕ, zero, suc, ◌+◌, ◌<◌, ◌⊎◌, inl, inr, Bool, true, false, ◌||◌, List}
use Rattle.std.proofs.Common.{[], ◌∷◌, length, set, length-set, sym, ap, subst, refl, ◌∙◌, arith, Some, None}
use Rattle.std.specs.Prelude.{slice_get, option_and_then, replicate}
use Rattle.std.proofs.lemmas.Option.{same_Some, none-some}
use Rattle.std.proofs.lemmas.Bool.Decides.{nat_tests}
use Rattle.acc_base.specs.declared.steps.Target.{Target}
use Rattle.acc_base.specs.declared.steps.Target.TheVariants.{Point as ToPoint, Commit, Undone, Refuse}
use Rattle.acc_base.specs.declared.steps.Path.{Path}
use Rattle.acc_base.specs.declared.designs.Point.{Point}
use Rattle.acc_base.specs.declared.designs.Design.{Design}
use Rattle.acc_base.specs.declared.designs.Side.TheVariants.{Undo as UndoSide}
use Rattle.acc_base.specs.Effects.{point_of, step_at, step_of}
use Rattle.acc_base.specs.Locks.{LeadsBack, Reaches, here, on}
use Rattle.acc_table.specs.Closures.{is_set, leads_to, some_leads, IsMarked, LeadsWithin, IsClosure}

-- ---- flags

true_false : (b : Bool) → b ≡ true → b ≡ false → ⊥
true_false true e f = cc
true_false false e f = cc

set_inside : (flags : List Bool) (q : ℕ) → is_set flags q ≡ true → q < length flags
set_inside [] q h = absurd (true_false false h refl)
set_inside (b ∷ flags) zero h = omega arith
set_inside (b ∷ flags) (suc q) h = let k = set_inside flags q h in omega arith

set_cases : (flags : List Bool) (i j : ℕ) → is_set (set flags i true) j ≡ true → (j ≡ i) ⊎ (is_set flags j ≡ true)
set_cases [] i j h = inr h
set_cases (b ∷ flags) zero zero h = inl refl
set_cases (b ∷ flags) zero (suc j) h = inr h
set_cases (b ∷ flags) (suc i) zero h = inr h
set_cases (b ∷ flags) (suc i) (suc j) h = by (set_cases flags i j h)
  where
    by : (j ≡ i) ⊎ (is_set flags j ≡ true) → (suc j ≡ suc i) ⊎ (is_set flags j ≡ true)
    by (inl e) = inl (ap suc e)
    by (inr e) = inr e

set_there : (flags : List Bool) (i : ℕ) → i < length flags → is_set (set flags i true) i ≡ true
set_there [] i h = absurd (omega arith)
set_there (b ∷ flags) zero h = refl
set_there (b ∷ flags) (suc i) h = set_there flags i (omega arith)

none_set : (n q : ℕ) → is_set (replicate n false) q ≡ false
none_set zero q = refl
none_set (suc n) zero = refl
none_set (suc n) (suc q) = none_set n q

-- ---- where paths lead

same_point : (q : ℕ) (z : Target) → leads_to q z ≡ true → z ≡ ToPoint q
same_point q (ToPoint p) h = let e : p ≡ q = grind (arith, nat_tests) in ap ToPoint e
same_point q Commit h = absurd (true_false false h refl)
same_point q Undone h = absurd (true_false false h refl)
same_point q (Refuse n) h = absurd (true_false false h refl)

leads_itself : (q : ℕ) → leads_to q (ToPoint q) ≡ true
leads_itself q = grind (arith, nat_tests)

some_of : (paths : List Path) (i q : ℕ) (path : Path) → slice_get paths i ≡ Some path → path.target ≡ ToPoint q → some_leads q paths ≡ true
some_of [] i q path h e = absurd (none-some path h)
some_of (x ∷ paths) zero q path h e =
    let k : leads_to q x.target ≡ true =
    ap (λ (z : Path). leads_to q z.target) (same_Some x path h) ∙ (ap (leads_to q) e ∙ leads_itself q) in
    ap (λ b. b || some_leads q paths) k
some_of (x ∷ paths) (suc i) q path h e = by (leads_to q x.target) (some_of paths i q path h e)
  where
    by : (b : Bool) → some_leads q paths ≡ true → (b || some_leads q paths) ≡ true
    by true k = refl
    by false k = k

record Leading (paths : List Path) (q : ℕ) : Type 0 where
  i : ℕ
  path : Path
  is : slice_get paths i ≡ Some path
  target : path.target ≡ ToPoint q

leading : (paths : List Path) (q : ℕ) → some_leads q paths ≡ true → Leading paths q
leading [] q h = absurd (true_false false h refl)
leading (x ∷ paths) q h = by (leads_to q x.target) refl h (leading paths q)
  where
    by : (b : Bool) → leads_to q x.target ≡ b → (b || some_leads q paths) ≡ true → (some_leads q paths ≡ true → Leading paths q)
        → Leading (x ∷ paths) q
    by true e k ih = record { i = 0; path = x; is = refl; target = same_point q x.target e }
    by false e k ih = let m = ih k in record {
      i = m.i + 1;
      path = m.path;
      is = (let e : m.i + 1 ≡ suc m.i = omega arith in ap (slice_get (x ∷ paths)) e ∙ m.is);
      target = m.target;
    }

module _ (d : Design) (ty i : ℕ) where
  step_is : (point : Point) → point_of d ty i ≡ Some point → step_of d ty i UndoSide ≡ Some point.undo
  step_is point h = ap (option_and_then (λ x. Some (step_at UndoSide x))) h

  back_from : (point : Point) (q : ℕ) → point_of d ty i ≡ Some point → some_leads q point.undo.paths ≡ true → LeadsBack d ty i q
  back_from point q h e =
      let m = leading point.undo.paths q e in record {
        step = point.undo;
        is_step = step_is point h;
        place = m.i;
        path = m.path;
        is_path = m.is;
        target = m.target;
      }

  back_to_some : (point : Point) (q : ℕ) → point_of d ty i ≡ Some point → LeadsBack d ty i q → some_leads q point.undo.paths ≡ true
  back_to_some point q h l =
      let s : l.step ≡ point.undo = same_Some l.step point.undo (sym l.is_step ∙ step_is point h) in
      some_of point.undo.paths l.place q l.path (subst (λ z. slice_get z.paths l.place ≡ Some l.path) s l.is_path) l.target

  no_back : (q : ℕ) → point_of d ty i ≡ None → LeadsBack d ty i q → ⊥
  no_back q h l = none-some l.step (sym (ap (option_and_then (λ x. Some (step_at UndoSide x))) h) ∙ l.is_step)

-- ---- as far as the points are done

pub record IsPart (d : Design) (ty p : ℕ) (reached done : List Bool) : Type 0 where
  pub long : length reached ≡ 32
  pub done_long : length done ≡ 32
  pub start : is_set reached p ≡ true
  pub only : (q : ℕ) → is_set reached q ≡ true → Reaches d ty p q
  pub closed : (i q : ℕ) → is_set done i ≡ true → LeadsBack d ty i q → is_set reached q ≡ true

module _ (d : Design) (ty p : ℕ) where
  one_more : (a i q : ℕ) → Reaches d ty a i → LeadsBack d ty i q → Reaches d ty a q
  one_more a i q here l = on l here
  one_more a i q (on {q = m} k r) l = on k (one_more m i q r l)

  pub begun : p < 32 → IsPart d ty p (set (replicate 32 false) p true) (replicate 32 false)
  begun h = record {
    long = length-set (replicate 32 false) p true;
    done_long = refl;
    start = set_there (replicate 32 false) p h;
    only = λ q e. by q (set_cases (replicate 32 false) p q e);
    closed = λ i q e l. absurd (true_false (is_set (replicate 32 false) i) e (none_set 32 i));
  }
    where
      by : (q : ℕ) → (q ≡ p) ⊎ (is_set (replicate 32 false) q ≡ true) → Reaches d ty p q
      by q (inl e) = subst (Reaches d ty p) (sym e) here
      by q (inr e) = absurd (true_false (is_set (replicate 32 false) q) e (none_set 32 q))

  module _ (reached done : List Bool) (part : IsPart d ty p reached done) (within : LeadsWithin d ty) (i : ℕ)
      (got : is_set reached i ≡ true) where
    pub done_none : point_of d ty i ≡ None → IsPart d ty p reached (set done i true)
    done_none h = record {
      long = part.long;
      done_long = length-set done i true ∙ part.done_long;
      start = part.start;
      only = part.only;
      closed = λ j q e l. by j q (set_cases done i j e) l;
    }
      where
        by : (j q : ℕ) → (j ≡ i) ⊎ (is_set done j ≡ true) → LeadsBack d ty j q → is_set reached q ≡ true
        by j q (inl e) l = absurd (no_back d ty i q h (subst (λ z. LeadsBack d ty z q) e l))
        by j q (inr e) l = part.closed j q e l

    pub done_some : (point : Point) (after : List Bool) → point_of d ty i ≡ Some point → length after ≡ 32
        → IsMarked point.undo.paths reached after → IsPart d ty p after (set done i true)
    done_some point after h long marked = record {
      long = long;
      done_long = length-set done i true ∙ part.done_long;
      start = stays p part.start;
      only = λ q e. let w = set_inside after q e in by q (is_set reached q) refl (sym (marked q (omega arith)) ∙ e);
      closed = λ j q e l. leads j q (set_cases done i j e) l;
    }
      where
        either : (a b : Bool) → a ≡ true → (a || b) ≡ true
        either true b e = refl
        either false b e = absurd (true_false false e refl)

        or_else : (a b : Bool) → b ≡ true → (a || b) ≡ true
        or_else true b e = refl
        or_else false b e = e

        stays : (q : ℕ) → is_set reached q ≡ true → is_set after q ≡ true
        stays q e = let w = set_inside reached q e in let l =
            part.long in marked q (omega arith) ∙ either (is_set reached q) (some_leads q point.undo.paths) e

        by : (q : ℕ) (b : Bool) → is_set reached q ≡ b → (b || some_leads q point.undo.paths) ≡ true → Reaches d ty p q
        by q true e k = part.only q e
        by q false e k = one_more p i q (part.only i got) (back_from d ty i point q h k)

        leads : (j q : ℕ) → (j ≡ i) ⊎ (is_set done j ≡ true) → LeadsBack d ty j q → is_set after q ≡ true
        leads j q (inl e) l =
            let m = subst (λ z. LeadsBack d ty z q) e l in
            marked q (within i q m) ∙ or_else (is_set reached q) (some_leads q point.undo.paths) (back_to_some d ty i point q h m)
        leads j q (inr e) l = stays q (part.closed j q e l)

  pub all_done : (reached done : List Bool) → IsPart d ty p reached done → ((q : ℕ) → is_set reached q ≡ true → is_set done q ≡ true)
      → IsClosure d ty p reached
  all_done reached done part all q = (part.only q, λ r. from p q r part.start)
    where
      from : (a b : ℕ) → Reaches d ty a b → is_set reached a ≡ true → is_set reached b ≡ true
      from a b here e = e
      from a b (on {q = m} l r) e = from m b r (part.closed a m (all a e) l)
