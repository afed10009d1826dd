-- Whose the private rows are: a key that ends in the own number, tables that a type puts into, and rows after actions.
use Rattle.std.proofs.Common.{◌≡◌, ℕ, zero, suc, ◌-◌, List, [], ◌∷◌, length, Bool, true, false, sym, subst, refl, ap, ◌∙◌, arith, Option}
use Rattle.std.proofs.Common.{Some, None, ℤ, pos, ◌+ℤ◌, ◌*ℤ◌}
use Rattle.std.specs.Prelude.{All, ◌||◌, ⊤, IsTrue, slice_get, option_and_then}
use Rattle.std.specs.List.{list_all, list_any, AllByRecursion}
use Rattle.std.proofs.lemmas.Int.{ints}
use Rattle.std.proofs.lemmas.List.{length-map}
use Rattle.std.proofs.lemmas.Option.{same_Some, none-some}
use Rattle.std.proofs.lemmas.Bool.Decides.{nat_tests}
use Rattle.std.proofs.lemmas.List.Elements.{All-from_recursion, recursion_from_All}
use Rattle.acc_base.specs.declared.forms.Lin.{Lin}
use Rattle.acc_base.specs.declared.tables.Row.{Row}
use Rattle.acc_base.specs.declared.steps.Action.{Action}
use Rattle.acc_base.specs.declared.steps.Action.TheVariants.{Put, Del, Set, Add}
use Rattle.acc_base.specs.declared.steps.Path.{Path}
use Rattle.acc_base.specs.declared.steps.Step.{Step}
use Rattle.acc_base.specs.declared.designs.Point.{Point}
use Rattle.acc_base.specs.declared.designs.TxType.{TxType}
use Rattle.acc_base.specs.declared.designs.Design.{Design}
use Rattle.acc_base.specs.declared.designs.Side.{Side}
use Rattle.acc_base.specs.declared.designs.Side.TheVariants.{Next, Undo as UndoSide}
use Rattle.acc_base.specs.declared.machines.Frame.{Frame}
use Rattle.acc_base.specs.Numbers.{is_small}
use Rattle.acc_base.specs.Tables.{set_cell, cell}
use Rattle.acc_base.specs.Linear.{var, lin_value, lin_values}
use Rattle.acc_base.specs.Effects.{step_at, step_of}
use Rattle.acc_base.specs.Actions.{action_numbers, after_action, stores_small, after_actions}
use Rattle.acc_base.specs.Machine.{World}
use Rattle.acc_base.proofs.ActionRuns.{along}
use Rattle.acc_base.proofs.RowChanges.{put_all, drop_all, change_all}
use Rattle.acc_base.specs.PrivateRows.{last_is, puts_into, step_puts, type_puts}
use Rattle.acc_lift.specs.RunRules.{EndsInSelf, PutsOwn}
use Rattle.acc_base.specs.Locks.{frame_at}
use Rattle.acc_base.specs.Invariant.{IsOwned}
use Rattle.acc_lift.proofs.Kept.{row_of}

-- ---- the last part of a key

pub last_unique : (a b : ℤ) (o : Option ℤ) → last_is a o → last_is b o → a ≡ b
last_unique a b None h g = absurd h
last_unique a b (Some k) h g = sym h ∙ g

module _ (env : List ℤ) where
  mapped : (k : List Lin) (i : ℕ) (l : Lin) → slice_get k i ≡ Some l → slice_get (lin_values env k) i ≡ Some (lin_value env l)
  mapped [] i l h = cc
  mapped (x ∷ k) zero l h = ap (λ z. Some (lin_value env z)) (same_Some x l h)
  mapped (x ∷ k) (suc i) l h = mapped k i l h

module _ (env : List ℤ) (self : ℕ) (t : ℤ) (own : var env self ≡ t) where
  self_value : lin_value env (record { coeffs = (self, pos 1) ∷ []; constant = pos 0 }) ≡ t
  self_value =
      let b : (pos 1 *ℤ var env self) ≡ var env self = omega (arith, ints) in
      let c : lin_value env (record { coeffs = (self, pos 1) ∷ []; constant = pos 0 }) ≡ var env self = omega (arith, ints) in
      c ∙ own

  pub ends_in_self : (k : List Lin) → EndsInSelf self k → last_is t (slice_get (lin_values env k) (length (lin_values env k) - 1))
  ends_in_self k h =
      let last : slice_get (lin_values env k) (length (lin_values env k) - 1) ≡ Some
      (lin_value env (record { coeffs = (self, pos 1) ∷ []; constant = pos 0 })) =
      ap (λ n. slice_get (lin_values env k) (n - 1)) (length-map k (lin_value env))
      ∙ mapped env k (length k - 1) (record { coeffs = (self, pos 1) ∷ []; constant = pos 0 }) h in
      subst (last_is t) (sym last) self_value

-- ---- tables that a type puts into

any_at : {X : Type 0} (p : X → Bool) (xs : List X) (i : ℕ) (x : X) → slice_get xs i ≡ Some x → p x ≡ true → list_any p xs ≡ true
any_at p [] i x h e = cc
any_at p (y ∷ xs) zero x h e = ap (λ b. b || list_any p xs) (ap p (same_Some y x h) ∙ e)
any_at p (y ∷ xs) (suc i) x h e = by (p y) (any_at p xs i x h e)
  where
    by : (b : Bool) → list_any p xs ≡ true → (b || list_any p xs) ≡ true
    by true ih = refl
    by false ih = ih

-- where a step is
pub record StepAt (d : Design) (ty point : ℕ) (side : Side) (step : Step) : Type 0 where
  pub type : TxType
  pub is_type : slice_get d.types ty ≡ Some type
  pub p : Point
  pub is_point : slice_get type.points point ≡ Some p
  pub is_step : step_at side p ≡ step

pub step_is_at : (d : Design) (ty point : ℕ) (side : Side) (step : Step) → step_of d ty point side ≡ Some step → StepAt d ty point side step
step_is_at d ty point side step h = by (slice_get d.types ty) refl h
  where
    at_point :
        (x : TxType) → slice_get d.types ty ≡ Some x → (o : Option Point) → slice_get x.points point ≡ o
        → option_and_then (λ y. Some (step_at side y)) o ≡ Some step → StepAt d ty point side step
    at_point x a None b e = absurd (none-some step e)
    at_point x a (Some y) b e = record { type = x; is_type = a; p = y; is_point = b; is_step = same_Some (step_at side y) step e }

    by :
        (o : Option TxType) → slice_get d.types ty ≡ o
        → option_and_then (λ y. Some (step_at side y)) (option_and_then (λ x. slice_get x.points point) o) ≡ Some step
        → StepAt d ty point side step
    by None a e = absurd (none-some step e)
    by (Some x) a e = at_point x a (slice_get x.points point) refl e

module _ (d : Design) (ty point : ℕ) (side : Side) (step : Step) (is_step : step_of d ty point side ≡ Some step) (i : ℕ) (path : Path)
    (is_path : slice_get step.paths i ≡ Some path) where
  pub path_puts : (t : ℕ) → list_any (puts_into t) path.actions ≡ true → type_puts t (slice_get d.types ty) ≡ true
  path_puts t h =
      let a = step_is_at d ty point side step is_step in
      let s : step_puts t step ≡ true = any_at (λ (p : Path). list_any (puts_into t) p.actions) step.paths i path is_path h in
      let p : (step_puts t a.p.next || step_puts t a.p.undo) ≡ true = by side a.p (ap (step_puts t) a.is_step ∙ s) in
      ap (type_puts t) a.is_type ∙ any_at (λ (q : Point). step_puts t q.next || step_puts t q.undo) a.type.points point a.p a.is_point p
    where
      or_right : (b c : Bool) → c ≡ true → (b || c) ≡ true
      or_right true c e = refl
      or_right false c e = e

      by : (z : Side) (p : Point) → step_puts t (step_at z p) ≡ true → (step_puts t p.next || step_puts t p.undo) ≡ true
      by Next p e = ap (λ b. b || step_puts t p.undo) e
      by UndoSide p e = or_right (step_puts t p.next) (step_puts t p.undo) e

-- ---- rows after actions

module _ (d : Design) (ty : ℕ) where
  -- a row that it puts is in a table that the type puts into
  abbrev pub PutsListed : Action → Type 0
  PutsListed (Put t k vs) = IsTrue (type_puts t (slice_get d.types ty))
  PutsListed (Del t k) = ⊤
  PutsListed (Set t k c v) = ⊤
  PutsListed (Add t k c v) = ⊤

  one_listed : (a : Action) → ((t : ℕ) → puts_into t a ≡ true → type_puts t (slice_get d.types ty) ≡ true) → PutsListed a
  one_listed (Put t k vs) h = h t (grind (arith, nat_tests))
  one_listed (Del t k) h = tt
  one_listed (Set t k c v) h = tt
  one_listed (Add t k c v) h = tt

  pub all_listed :
      (acts : List Action) → ((t : ℕ) → list_any (puts_into t) acts ≡ true → type_puts t (slice_get d.types ty) ≡ true)
      → AllByRecursion PutsListed acts
  all_listed [] h = tt
  all_listed (a ∷ acts) h = (
    one_listed a (λ t e. h t (ap (λ b. b || list_any (puts_into t) acts) e)),
    all_listed acts (λ t e. h t (later (puts_into t a) (list_any (puts_into t) acts) e)),
  )
    where
      later : (b c : Bool) → c ≡ true → (b || c) ≡ true
      later true c e = refl
      later false c e = e

module _ (d : Design) (side : Side) (env : List ℤ) (self : ℕ) (w : World) (t : ℕ) (f : Frame) (is : frame_at t w ≡ Some f)
    (own : var env self ≡ pos t) where
  abbrev Owned : List Action → List Row → Type 0
  Owned rest db = AllByRecursion (PutsListed d f.ty) rest × AllByRecursion (PutsOwn d self) rest × AllByRecursion (IsOwned d w) db

  changed_owned : (c : ℕ) (v : ℤ) (r : Row) → IsOwned d w r → IsOwned d w (set_cell c v r)
  changed_owned c v r h p =
      let o = h p in
      record { t = o.t; owner = o.owner; is_owner = o.is_owner; ends = record { own = o.ends.own; ends = o.ends.ends }; puts = o.puts }

  one_owned :
      (a : Action) (rest : List Action) (db : List Row) → list_all is_small (action_numbers env a) ≡ true
      → stores_small side env a db ≡ true → Owned (a ∷ rest) db → Owned rest (after_action env a db)
  one_owned (Put u k vs) rest db s g h = (
    h.0.1,
    h.1.1,
    put_all (IsOwned d w) (row_of u (lin_values env k) (lin_values env vs)) db
        (λ p. record {
          t = t;
          owner = f;
          is_owner = is;
          ends = record { own = p; ends = ends_in_self env self (pos t) own k (h.1.0 p) };
          puts = h.0.0;
        }) h.2,
  )
  one_owned (Del u k) rest db s g h = (h.0.1, h.1.1, drop_all (IsOwned d w) u (lin_values env k) db h.2)
  one_owned (Set u k c v) rest db s g h = (
    h.0.1,
    h.1.1,
    change_all (IsOwned d w) (IsOwned d w) u (lin_values env k) (set_cell c (lin_value env v)) (λ r x. x) db
        (λ r e a x. changed_owned c (lin_value env v) r x) h.2,
  )
  one_owned (Add u k c v) rest db s g h = (
    h.0.1,
    h.1.1,
    change_all (IsOwned d w) (IsOwned d w) u (lin_values env k) (λ r. set_cell c (cell c r +ℤ lin_value env v) r)
        (λ r x. x) db (λ r e a x. changed_owned c (cell c r +ℤ lin_value env v) r x) h.2,
  )

  pub rows_owned :
      (acts : List Action) (db after : List Row) → after_actions side env acts db ≡ Some after → AllByRecursion (PutsListed d f.ty) acts
      → All (PutsOwn d self) acts → All (IsOwned d w) db → All (IsOwned d w) after
  rows_owned acts db after e l p h =
      All-from_recursion (IsOwned d w) after (along side env Owned one_owned acts db after e
      (l, recursion_from_All (PutsOwn d self) acts p, recursion_from_All (IsOwned d w) db h)).2
