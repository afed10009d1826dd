-- A step that a held point doesn't forbid: some pair of the entry for it differs.
use Rattle.std.proofs.Common.{◌≡◌, ℕ, zero, suc, ◌+◌, ◌-◌, ◌<◌, Bool, true, false, cond, List, [], ◌∷◌, map, length, get_or, set, refl, ap}
use Rattle.std.proofs.Common.{sym, ◌∙◌, arith, Some, ℤ, pos, negsuc, ◌+ℤ◌, ◌*ℤ◌, ◌==◌, length-set}
use Rattle.std.specs.Prelude.{slice_get, find, IsTrue, ◌&&◌, nat_lt}
use Rattle.std.specs.List.{list_all, AllByRecursion}
use Rattle.std.specs.Cmp.{first_so, second_so}
use Rattle.std.proofs.lemmas.Int.{ints}
use Rattle.std.proofs.lemmas.Bool.{false≢true, and_parts, eqb-true, ltb-true}
use Rattle.std.proofs.lemmas.Option.{same_Some, none-some}
use Rattle.std.proofs.lemmas.List.{get_or-map}
use Rattle.std.proofs.lemmas.List.Elements.{recursion_from_All, All-from_recursion}
use Rattle.acc_base.specs.declared.tables.Row.{Row}
use Rattle.acc_base.specs.declared.steps.Read.{Read}
use Rattle.acc_base.specs.declared.designs.At.{At}
use Rattle.acc_base.specs.declared.designs.Side.{Side}
use Rattle.acc_base.specs.declared.designs.Side.TheVariants.{Next, Undo}
use Rattle.acc_base.specs.declared.designs.Entry.{Entry}
use Rattle.acc_base.specs.declared.designs.TxType.{TxType}
use Rattle.acc_base.specs.declared.designs.Design.{Design}
use Rattle.acc_base.specs.declared.machines.Frame.{Frame}
use Rattle.acc_base.specs.Linear.{var, lin_value}
use Rattle.acc_base.specs.Reads.{Reading, assigned}
use Rattle.acc_base.specs.Truth.{is_lin_zero, rel_true}
use Rattle.acc_preconditions.proofs.PartValues.{one_times, minus_times}
use Rattle.acc_formed.specs.Ranges.{locals_of, pair_in}
use Rattle.acc_formed.specs.Entries.{same_point, same_side}
use Rattle.acc_formed.proofs.InRange.{EntryInRange}
use Rattle.acc_base.specs.Entries.{at_of, judged, IsFree}
use Rattle.acc_base.specs.Items.{numbers_from}
use Rattle.acc_oblig.specs.Settings.{Setting, now_after, first_now, last_now, step_vars}
use Rattle.acc_oblig.specs.Spares.{is_for, entry_for, judged_var, pair_lin, pairs_differ}
use Rattle.acc_oblig.proofs.FormValues.{meets_zero, differ_true}

-- ---- an entry that is found

pub record IsFound (entries : List Entry) (held step : At) (side : Side) (e : Entry) : Type 0 where
  pub n : ℕ
  pub there : slice_get entries n ≡ Some e
  pub passes : is_for held step side e ≡ true

pub found :
    (entries : List Entry) (held step : At) (side : Side) (e : Entry) → entry_for entries held step side ≡ Some e
    → IsFound entries held step side e
found [] held step side e h = absurd (none-some e h)
found (x ∷ xs) held step side e h = by (is_for held step side x) refl h (found xs held step side e)
  where
    by :
        (b : Bool) → is_for held step side x ≡ b → cond b (Some x) (find (is_for held step side) xs) ≡ Some e
        → (find (is_for held step side) xs ≡ Some e → IsFound xs held step side e) → IsFound (x ∷ xs) held step side e
    by true k g ih = record { n = zero; there = g; passes = ap (is_for held step side) (sym (same_Some x e g)) ∙ k }
    by false k g ih = let r = ih g in record { n = suc r.n; there = r.there; passes = r.passes }

at_is : (a b : At) → same_point a b ≡ true → a ≡ b
at_is a b h =
    let p = and_parts (a.ty == b.ty) (a.point == b.point) h in
    let t = eqb-true a.ty b.ty p.0 in
    let q = eqb-true a.point b.point p.1 in
    λ i. record { ty = t i; point = q i }

side_is : (a b : Side) → same_side a b ≡ true → a ≡ b
side_is Next Next h = refl
side_is Undo Undo h = refl
side_is Next Undo h = absurd (false≢true h)
side_is Undo Next h = absurd (false≢true h)

pub record IsForThese (held step : At) (side : Side) (e : Entry) : Type 0 where
  pub held_is : e.held ≡ held
  pub step_is : e.step ≡ step
  pub side_is : e.side ≡ side

pub for_these : (held step : At) (side : Side) (e : Entry) → is_for held step side e ≡ true → IsForThese held step side e
for_these held step side e h =
    let a = and_parts (same_point e.held held && same_point e.step step) (same_side e.side side) h in
    let b = and_parts (same_point e.held held) (same_point e.step step) a.0 in
    record { held_is = at_is e.held held b.0; step_is = at_is e.step step b.1; side_is = side_is e.side side a.1 }

-- an entry whose pairs agree forbids
pub forbids :
    (d : Design) (g f : Frame) (side : Side) (last : Reading) (e : Entry) → IsFound d.entries (at_of g) (at_of f) side e
    → IsFree d g f side last → AllByRecursion (λ (p : ℕ × ℕ). var g.locals p.0 ≡ var (judged side f last) p.1) e.pairs → ⊥
forbids d g f side last e here free agree =
    let t = for_these (at_of g) (at_of f) side e here.passes in
    let n : here.n + 1 - 1 ≡ here.n = omega arith in
    free (here.n + 1) (record {
      entry = e;
      first = omega arith;
      is_entry = ap (slice_get d.entries) n ∙ here.there;
      held_is = t.held_is;
      step_is = t.step_is;
      side_is = t.side_is;
      pairs = All-from_recursion (λ (p : ℕ × ℕ). var g.locals p.0 ≡ var (judged side f last) p.1) e.pairs agree;
    })

-- ---- the pairs under their names

pub numbers_long : (x n : ℕ) → length (numbers_from x n) ≡ n
numbers_long x zero = refl
numbers_long x (suc n) = ap suc (numbers_long (x + 1) n)

pub now_long : (now : List ℕ) (x : ℕ) (rs : List Read) → length (now_after now x rs) ≡ length now
now_long now x [] = refl
now_long now x (r ∷ rs) = now_long (set now (assigned r) x) (x + 1) rs ∙ length-set now (assigned r) x

module _ (db : List Row) (E : List ℤ) (s : Setting) (side : Side) (held : List ℤ) (f : Frame) (reading : Reading) where
  abbrev judges : Side → List ℤ
  judges z = judged z f reading

  module _ (held_worth : (i : ℕ) → i < length held → var E (step_vars s + i) ≡ var held i)
      (first_worth : (i : ℕ) → i < s.locals → var E i ≡ var f.locals i) (last_worth : map (var E) (last_now s) ≡ reading.locals) where
    judged_worth : (z : Side) (y : ℕ) → y < s.locals → var E (judged_var s z y) ≡ var (judges z) y
    judged_worth Next y l =
        let long : length (last_now s) ≡ s.locals = now_long (first_now s) (s.locals + 1) s.reads ∙ numbers_long 0 s.locals in
        let within : y < length (last_now s) = omega (arith, long, l) in
        sym (ap (λ z. var z y) (sym last_worth) ∙ get_or-map (var E) (last_now s) y 0 (pos 0) within)
    judged_worth Undo y l = first_worth y l

    same_when_zero : (x y : ℤ) → (pos 1 *ℤ x +ℤ (negsuc 0 *ℤ y +ℤ pos 0)) +ℤ pos 0 ≡ pos 0 → x ≡ y
    same_when_zero x y h =
        let e = one_times x in
        let f = minus_times y in
        omega (arith, ints, h, e, f)

    pub pairs_agree :
        (pairs : List (ℕ × ℕ)) → AllByRecursion (λ (p : ℕ × ℕ). (p.0 < length held) × (p.1 < s.locals)) pairs
        → list_all (is_lin_zero E) (map (pair_lin s side) pairs) ≡ true
        → AllByRecursion (λ (p : ℕ × ℕ). var held p.0 ≡ var (judged side f reading) p.1) pairs
    pairs_agree [] l h = tt
    pairs_agree (p ∷ ps) l h =
        let zero = meets_zero (lin_value E (pair_lin s side p))
        (first_so (is_lin_zero E (pair_lin s side p)) (list_all (is_lin_zero E) (map (pair_lin s side) ps)) h) in
        let same = same_when_zero (var E (step_vars s + p.0)) (var E (judged_var s side p.1)) zero in (
          sym (held_worth p.0 l.0.0) ∙ (same ∙ judged_worth side p.1 l.0.1),
          pairs_agree ps l.1 (second_so (is_lin_zero E (pair_lin s side p)) (list_all (is_lin_zero E) (map (pair_lin s side) ps)) h),
        )

    -- where not all pairs agree, the relation is true
    pub pairs_differ_true :
        (pairs : List (ℕ × ℕ)) → AllByRecursion (λ (p : ℕ × ℕ). (p.0 < length held) × (p.1 < s.locals)) pairs
        → (AllByRecursion (λ (p : ℕ × ℕ). var held p.0 ≡ var (judged side f reading) p.1) pairs → ⊥)
        → rel_true db E (pairs_differ s side pairs) ≡ true
    pairs_differ_true pairs l differ =
        differ_true db E (map (pair_lin s side) pairs) (by (list_all (is_lin_zero E) (map (pair_lin s side) pairs)) refl)
      where
        by : (b : Bool) → list_all (is_lin_zero E) (map (pair_lin s side) pairs) ≡ b → b ≡ false
        by true e = absurd (differ (pairs_agree pairs l e))
        by false e = refl

-- the locals of an entry's pairs
pub pairs_within :
    (types : List TxType) (e : Entry) → EntryInRange types e → (hx x : TxType) → slice_get types e.held.ty ≡ Some hx
    → slice_get types e.step.ty ≡ Some x → AllByRecursion (λ (p : ℕ × ℕ). (p.0 < length hx.locals) × (p.1 < length x.locals)) e.pairs
pairs_within types e r hx x a b =
    recursion_from_All (λ (p : ℕ × ℕ). (p.0 < length hx.locals) × (p.1 < length x.locals)) e.pairs
    (λ k p l. at (get_or e.pairs k p) (r.pairs k p l))
  where
    at :
        (p : ℕ × ℕ) → IsTrue (pair_in (locals_of (slice_get types e.held.ty)) (locals_of (slice_get types e.step.ty)) p)
        → (p.0 < length hx.locals) × (p.1 < length x.locals)
    at p h =
        let q = and_parts (nat_lt p.0 (locals_of (slice_get types e.held.ty))) (nat_lt p.1 (locals_of (slice_get types e.step.ty))) h in (
          ltb-true p.0 (length hx.locals) (ap (λ o. nat_lt p.0 (locals_of o)) (sym a) ∙ q.0),
          ltb-true p.1 (length x.locals) (ap (λ o. nat_lt p.1 (locals_of o)) (sym b) ∙ q.1),
        )
