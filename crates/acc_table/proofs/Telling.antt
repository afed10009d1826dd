-- The first entry that passes a test is the lowest that forbids, or because of which two points clash.
use Rattle.std.proofs.Common.{arith, Option, Some, None, ℤ}
use Rattle.std.proofs.Common.{◌≡◌, ℕ, zero, suc, ◌+◌, ◌-◌, ◌<◌, ◌≤◌, inl, inr, Bool, true, false, ◌||◌, List, []}
use Rattle.std.proofs.Common.{◌∷◌, sym, ap, refl, ◌∙◌, if◌then◌else◌}
use Rattle.std.specs.Prelude.{◌==◌, ◌&&◌, All, slice_get}
use Rattle.std.specs.List.{list_any}
use Rattle.std.specs.Cmp.Derive.{both_true}
use Rattle.std.specs.Cmp.{first_so, second_so}
use Rattle.std.proofs.lemmas.Option.{same_Some, none-some}
use Rattle.std.proofs.lemmas.Bool.{and_parts, eqb-true}
use Rattle.std.proofs.lemmas.Bool.Decides.{nat_tests, Decides-int_eq}
use Rattle.std.proofs.lemmas.List.Elements.{All-nil, All-cons, All-head, All-tail}
use Rattle.acc_base.specs.declared.designs.At.{At}
use Rattle.acc_base.specs.declared.designs.Side.{Side}
use Rattle.acc_base.specs.declared.designs.Side.TheVariants.{Undo}
use Rattle.acc_base.specs.declared.designs.Entry.{Entry}
use Rattle.acc_base.specs.declared.designs.Design.{Design}
use Rattle.acc_base.specs.Linear.{var}
use Rattle.acc_base.specs.PointEquality.{at_eq, at_decides, side_eq, side_decides}
use Rattle.acc_base.specs.Effects.{first_from}
use Rattle.acc_base.specs.Entries.{Forbids}
use Rattle.acc_base.specs.Locks.{Clashes, ClashesEither}
use Rattle.acc_table.specs.Closures.{is_set, IsClosure}
use Rattle.acc_table.specs.Entries.{pair_agrees, pairs_agree, entry_forbids, entry_clashes, either_clashes, entry_may_clash}
use Rattle.acc_table.specs.Entries.{either_may_clash, TellsLowest}

-- ---- the first that passes

true_false : (b : Bool) → b ≡ true → b ≡ false → ⊥
true_false true e f = cc
true_false false e f = cc

record Found {X : Type 0} (test : X → Bool) (i : ℕ) (xs : List X) (n : ℕ) : Type 0 where
  k : ℕ
  x : X
  number : n ≡ i + k
  at : slice_get xs k ≡ Some x
  passes : test x ≡ true
  before : (j : ℕ) (y : X) → j < k → slice_get xs j ≡ Some y → test y ≡ false

module _ {X : Type 0} (test : X → Bool) where
  none_pass : (i : ℕ) (xs : List X) → first_from test i xs ≡ None → (k : ℕ) (x : X) → slice_get xs k ≡ Some x → test x ≡ false
  none_pass i [] h k x e = absurd (none-some x e)
  none_pass i (y ∷ xs) h k x e = by (test y) refl h (λ g j m. none_pass (i + 1) xs g j x m)
    where
      at : test y ≡ false → (first_from test (i + 1) xs ≡ None → (j : ℕ) → slice_get xs j ≡ Some x → test x ≡ false)
          → first_from test (i + 1) xs ≡ None → (k : ℕ) → slice_get (y ∷ xs) k ≡ Some x → test x ≡ false
      at q ih g zero m = ap test (sym (same_Some y x m)) ∙ q
      at q ih g (suc j) m = ih g j m

      by : (b : Bool) → test y ≡ b → (if b then Some i else first_from test (i + 1) xs) ≡ None
          → (first_from test (i + 1) xs ≡ None → (j : ℕ) → slice_get xs j ≡ Some x → test x ≡ false) → test x ≡ false
      by true q g ih = cc
      by false q g ih = at q ih g k e

  found : (i : ℕ) (xs : List X) (n : ℕ) → first_from test i xs ≡ Some n → Found test i xs n
  found i [] n h = cc
  found i (y ∷ xs) n h = by (test y) refl h (found (i + 1) xs n)
    where
      before : test y ≡ false → (f : Found test (i + 1) xs n) → (j : ℕ) (z : X) → j < f.k + 1 → slice_get (y ∷ xs) j ≡ Some z → test z
          ≡ false
      before q f zero z l e = ap test (sym (same_Some y z e)) ∙ q
      before q f (suc j) z l e = f.before j z (omega arith) e

      by : (b : Bool) → test y ≡ b → (if b then Some i else first_from test (i + 1) xs) ≡ Some n
          → (first_from test (i + 1) xs ≡ Some n → Found test (i + 1) xs n) → Found test i (y ∷ xs) n
      by true q g ih = let s : i ≡ n = same_Some i n g in record {
        k = 0;
        x = y;
        number = omega arith;
        at = refl;
        passes = q;
        before = λ j z l e. absurd (omega arith);
      }
      by false q g ih =
          let f = ih g in
          let s = f.number in
          record {
            k = f.k + 1;
            x = f.x;
            number = omega arith;
            at = (let e : f.k + 1 ≡ suc f.k = omega arith in ap (slice_get (y ∷ xs)) e ∙ f.at);
            passes = f.passes;
            before = before q f;
          }

-- an entry by its number from 1, which passes
pub record Passing (entries : List Entry) (test : Entry → Bool) (n : ℕ) : Type 0 where
  pub entry : Entry
  pub first : 1 ≤ n
  pub is_entry : slice_get entries (n - 1) ≡ Some entry
  pub passes : test entry ≡ true

module _ (P : ℕ → Type 0) (entries : List Entry) (test : Entry → Bool) (to : (n : ℕ) → P n → Passing entries test n)
    (from : (n : ℕ) → Passing entries test n → P n) where
  pub tells : (o : Option ℕ) → first_from test 1 entries ≡ o → TellsLowest P o
  tells None h = λ n p.
      let k = to n p in
      true_false (test k.entry) k.passes (none_pass test 1 entries h (n - 1) k.entry k.is_entry)
  tells (Some n) h =
      let f = found test 1 entries n h in
      let s = f.number in
      let e : f.k ≡ n - 1 = omega arith in (
        from n (record {
          entry = f.x;
          first = omega arith;
          is_entry = ap (slice_get entries) (sym e) ∙ f.at;
          passes = f.passes;
        }),
        λ m l p.
            let k = to m p in
            let g = k.first in
            true_false (test k.entry) k.passes (f.before (m - 1) k.entry (omega arith) k.is_entry),
      )

-- ---- forbidding

equal_passes : (m n : ℕ) → m ≡ n → (m == n) ≡ true
equal_passes m n e = grind (arith, nat_tests)

module _ (held locals : List ℤ) where
  pairs_are : (pairs : List (ℕ × ℕ)) → pairs_agree held locals pairs ≡ true → All (λ p. var held p.0 ≡ var locals p.1) pairs
  pairs_are [] h = All-nil (λ p. var held p.0 ≡ var locals p.1)
  pairs_are (p ∷ pairs) h =
      All-cons (λ p. var held p.0 ≡ var locals p.1) p pairs
      ((Decides-int_eq (var held p.0) (var locals p.1)).0 (first_so (pair_agrees held locals p) (pairs_agree held locals pairs) h))
      (pairs_are pairs (second_so (pair_agrees held locals p) (pairs_agree held locals pairs) h))

  pairs_pass : (pairs : List (ℕ × ℕ)) → All (λ p. var held p.0 ≡ var locals p.1) pairs → pairs_agree held locals pairs ≡ true
  pairs_pass [] h = refl
  pairs_pass (p ∷ pairs) h =
      both_true ((Decides-int_eq (var held p.0) (var locals p.1)).1 (All-head (λ p. var held p.0 ≡ var locals p.1) p pairs h))
      (pairs_pass pairs (All-tail (λ p. var held p.0 ≡ var locals p.1) p pairs h))

module _ (d : Design) (held : At) (held_locals : List ℤ) (step : At) (side : Side) (locals : List ℤ) (n : ℕ) where
  pub forbids_to : Forbids d held held_locals step side locals n → Passing d.entries (entry_forbids held held_locals step side locals) n
  forbids_to f = record {
    entry = f.entry;
    first = f.first;
    is_entry = f.is_entry;
    passes = both_true (both_true (both_true ((at_decides f.entry.held held).1 f.held_is) ((at_decides f.entry.step step).1 f.step_is))
        ((side_decides f.entry.side side).1 f.side_is)) (pairs_pass held_locals locals f.entry.pairs f.pairs);
  }

  pub forbids_from : Passing d.entries (entry_forbids held held_locals step side locals) n → Forbids d held held_locals step side locals n
  forbids_from p =
      let e = p.entry in
      let a = and_parts (at_eq e.held held && at_eq e.step step && side_eq e.side side) (pairs_agree held_locals locals e.pairs) p.passes in
      let b = and_parts (at_eq e.held held && at_eq e.step step) (side_eq e.side side) a.0 in
      let c = and_parts (at_eq e.held held) (at_eq e.step step) b.0 in
      record {
        entry = e;
        first = p.first;
        is_entry = p.is_entry;
        held_is = (at_decides e.held held).0 c.0;
        step_is = (at_decides e.step step).0 c.1;
        side_is = (side_decides e.side side).0 b.1;
        pairs = pairs_are held_locals locals e.pairs a.1;
      }

-- ---- clashes

module _ (d : Design) (a : At) (a_locals : List ℤ) (b : At) (b_locals : List ℤ) (n : ℕ) where
  may_clash_to : (c : Clashes d a a_locals b b_locals n) → entry_may_clash a.ty a_locals b.ty b_locals c.forbids.entry ≡ true
  may_clash_to c =
      let f = c.forbids in
      both_true (both_true (both_true ((side_decides f.entry.side Undo).1 f.side_is)
      (equal_passes f.entry.step.ty a.ty (ap (λ z. z.ty) f.step_is))) (equal_passes f.entry.held.ty b.ty (ap (λ z. z.ty) f.held_is)))
      (pairs_pass b_locals a_locals f.entry.pairs f.pairs)

module _ (d : Design) (a : At) (a_points : List Bool) (a_locals : List ℤ) (b : At) (b_points : List Bool) (b_locals : List ℤ)
    (a_closed : IsClosure d a.ty a.point a_points) (b_closed : IsClosure d b.ty b.point b_points) (n : ℕ) where
  pub clash_to : Clashes d a a_locals b b_locals n → Passing d.entries (entry_clashes a.ty a_points a_locals b.ty b_points b_locals) n
  clash_to c =
      let f = c.forbids in
      let step_point : f.entry.step.point ≡ c.step = ap (λ z. z.point) f.step_is in
      let held_point : f.entry.held.point ≡ c.held = ap (λ z. z.point) f.held_is in
      record {
        entry = f.entry;
        first = f.first;
        is_entry = f.is_entry;
        passes = both_true (both_true (may_clash_to d a a_locals b b_locals n c)
            (ap (is_set a_points) step_point ∙ (a_closed c.step).1 c.step_reached))
            (ap (is_set b_points) held_point ∙ (b_closed c.held).1 c.held_reached);
      }

  pub clash_from : Passing d.entries (entry_clashes a.ty a_points a_locals b.ty b_points b_locals) n → Clashes d a a_locals b b_locals n
  clash_from p =
      let e = p.entry in
      let may = entry_may_clash a.ty a_locals b.ty b_locals e in
      let k = and_parts (may && is_set a_points e.step.point) (is_set b_points e.held.point) p.passes in
      let l = and_parts may (is_set a_points e.step.point) k.0 in
      let m = and_parts (side_eq e.side Undo && (e.step.ty == a.ty) && (e.held.ty == b.ty)) (pairs_agree b_locals a_locals e.pairs) l.0 in
      let q = and_parts (side_eq e.side Undo && (e.step.ty == a.ty)) (e.held.ty == b.ty) m.0 in
      let r = and_parts (side_eq e.side Undo) (e.step.ty == a.ty) q.0 in
      let step_ty = eqb-true e.step.ty a.ty r.1 in
      let held_ty = eqb-true e.held.ty b.ty q.1 in
      record {
        step = e.step.point;
        held = e.held.point;
        step_reached = (a_closed e.step.point).0 l.1;
        held_reached = (b_closed e.held.point).0 k.1;
        forbids = record {
          entry = e;
          first = p.first;
          is_entry = p.is_entry;
          held_is = λ i. record { ty = held_ty i; point = e.held.point };
          step_is = λ i. record { ty = step_ty i; point = e.step.point };
          side_is = (side_decides e.side Undo).0 r.0;
          pairs = pairs_are b_locals a_locals e.pairs m.1;
        };
      }

module _ (d : Design) (a : At) (a_points : List Bool) (a_locals : List ℤ) (b : At) (b_points : List Bool) (b_locals : List ℤ)
    (a_closed : IsClosure d a.ty a.point a_points) (b_closed : IsClosure d b.ty b.point b_points) (n : ℕ) where
  pub either_to : ClashesEither d a a_locals b b_locals n
      → Passing d.entries (either_clashes a.ty a_points a_locals b.ty b_points b_locals) n
  either_to (inl c) =
      let p = clash_to d a a_points a_locals b b_points b_locals a_closed b_closed n c in
      record {
        entry = p.entry;
        first = p.first;
        is_entry = p.is_entry;
        passes = ap (λ z. z || entry_clashes b.ty b_points b_locals a.ty a_points a_locals p.entry) p.passes;
      }
  either_to (inr c) =
      let p = clash_to d b b_points b_locals a a_points a_locals b_closed a_closed n c in
      record {
        entry = p.entry;
        first = p.first;
        is_entry = p.is_entry;
        passes = right (entry_clashes a.ty a_points a_locals b.ty b_points b_locals p.entry)
            (entry_clashes b.ty b_points b_locals a.ty a_points a_locals p.entry) p.passes;
      }
    where
      right : (x y : Bool) → y ≡ true → (x || y) ≡ true
      right true y e = refl
      right false y e = e

  pub either_from : Passing d.entries (either_clashes a.ty a_points a_locals b.ty b_points b_locals) n
      → ClashesEither d a a_locals b b_locals n
  either_from p =
      by (entry_clashes a.ty a_points a_locals b.ty b_points b_locals p.entry) refl p.passes
    where
      by : (x : Bool) → entry_clashes a.ty a_points a_locals b.ty b_points b_locals p.entry ≡ x
          → (x || entry_clashes b.ty b_points b_locals a.ty a_points a_locals p.entry) ≡ true → ClashesEither d a a_locals b b_locals n
      by true e h = inl (clash_from d a a_points a_locals b b_points b_locals a_closed b_closed n (record {
        entry = p.entry;
        first = p.first;
        is_entry = p.is_entry;
        passes = e;
      }))
      by false e h = inr (clash_from d b b_points b_locals a a_points a_locals b_closed a_closed n (record {
        entry = p.entry;
        first = p.first;
        is_entry = p.is_entry;
        passes = h;
      }))

-- ---- clashes that no entry can make

none_any : (test : Entry → Bool) (es : List Entry) → list_any test es ≡ false → (k : ℕ) (e : Entry) → slice_get es k ≡ Some e
    → test e ≡ false
none_any test [] h k e at = absurd (none-some e at)
none_any test (x ∷ es) h k e at = by (test x) refl h k at (λ g j m. none_any test es g j e m)
  where
    by : (b : Bool) → test x ≡ b → (b || list_any test es) ≡ false → (k : ℕ) → slice_get (x ∷ es) k ≡ Some e
        → (list_any test es ≡ false → (j : ℕ) → slice_get es j ≡ Some e → test e ≡ false) → test e ≡ false
    by true q g k m rest = cc
    by false q g zero m rest = ap test (sym (same_Some x e m)) ∙ q
    by false q g (suc j) m rest = rest g j m

or_right : (x y : Bool) → y ≡ true → (x || y) ≡ true
or_right true y e = refl
or_right false y e = e

pub no_clash : (d : Design) (a : At) (a_locals : List ℤ) (b : At) (b_locals : List ℤ)
    → list_any (either_may_clash a.ty a_locals b.ty b_locals) d.entries ≡ false → (n : ℕ) → ¬ ClashesEither d a a_locals b b_locals n
no_clash d a a_locals b b_locals h n (inl c) =
    let f = c.forbids in
    let test = either_may_clash a.ty a_locals b.ty b_locals in
    true_false (test f.entry)
    (ap (λ z. z || entry_may_clash b.ty b_locals a.ty a_locals f.entry) (may_clash_to d a a_locals b b_locals n c))
    (none_any test d.entries h (n - 1) f.entry f.is_entry)
no_clash d a a_locals b b_locals h n (inr c) =
    let f = c.forbids in
    let test = either_may_clash a.ty a_locals b.ty b_locals in
    true_false (test f.entry)
    (or_right (entry_may_clash a.ty a_locals b.ty b_locals f.entry) (entry_may_clash b.ty b_locals a.ty a_locals f.entry)
    (may_clash_to d b b_locals a a_locals n c))
    (none_any test d.entries h (n - 1) f.entry f.is_entry)
