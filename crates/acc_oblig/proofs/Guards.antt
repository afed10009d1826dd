-- The guards of earlier paths aren't true where a path is taken.
use Rattle.std.proofs.Common.{◌≡◌, ℕ, ◌+◌, Bool, true, false, if◌then◌else◌, List, [], ◌∷◌, ◌++◌, map, take, refl, ap, sym, ◌∙◌, subst}
use Rattle.std.proofs.Common.{arith, suc, Some, ℤ}
use Rattle.std.specs.Prelude.{◌&&◌, slice_get}
use Rattle.std.specs.List.{list_all, AllByRecursion}
use Rattle.std.specs.Cmp.{first_so, second_so}
use Rattle.std.proofs.lemmas.Bool.{false≢true}
use Rattle.std.proofs.lemmas.Option.{same_Some, none-some}
use Rattle.acc_base.specs.declared.tables.Row.{Row}
use Rattle.acc_base.specs.declared.forms.LinRel.{LinRel}
use Rattle.acc_base.specs.declared.steps.Path.{Path}
use Rattle.acc_base.specs.Linear.{lin_rel_true}
use Rattle.acc_base.specs.Truth.{rel_true, ClauseTrue}
use Rattle.acc_base.specs.Effects.{first_from, taken_path}
use Rattle.acc_oblig.specs.declared.naming.Naming.{Naming}
use Rattle.acc_oblig.specs.Relations.{guard_rel, but_last, last_denied, untaken}
use Rattle.acc_oblig.specs.Settings.{all_untaken}
use Rattle.acc_oblig.proofs.Names.{Agrees, AgreesNear}
use Rattle.acc_oblig.proofs.FormValues.{guard_true, denied_true}

module _ (db : List Row) (E : List ℤ) (n : Naming) (e : List ℤ) (agree : Agrees n E e) where
  last_one :
      (guard : List LinRel) → list_all (lin_rel_true e) guard ≡ false → list_all (rel_true db E) (map (guard_rel n) (but_last guard)) ≡ true
      → rel_true db E (last_denied n guard) ≡ true
  last_one [] h g = absurd (false≢true (sym h))
  last_one (r ∷ []) h g = denied_true db E n e agree r (by (lin_rel_true e r) h)
    where
      by : (b : Bool) → (b && true) ≡ false → b ≡ false
      by true k = k
      by false k = refl
  last_one (r ∷ s ∷ rest) h g =
      last_one (s ∷ rest) (by (lin_rel_true e r) h (sym (guard_true db E n e agree r) ∙ first_so (rel_true db E (guard_rel n r)) _ g))
      (second_so (rel_true db E (guard_rel n r)) _ g)
    where
      by : (b : Bool) → (b && list_all (lin_rel_true e) (s ∷ rest)) ≡ false → b ≡ true → list_all (lin_rel_true e) (s ∷ rest) ≡ false
      by true k w = k
      by false k w = absurd (false≢true w)

-- a guard that isn't true gives a true clause
pub untaken_true :
    (db : List Row) (E : List ℤ) (n : Naming) (e : List ℤ) → AgreesNear n E e → (guard : List LinRel)
    → list_all (lin_rel_true e) guard ≡ false → ClauseTrue db E (untaken n guard)
untaken_true db E n e agree guard h own long g =
    last_one db (E ++ own) n e (agree own (omega (arith, long))) guard h g

-- ---- the taken path

abbrev pub opens : List ℤ → Path → Bool
opens e p = list_all (lin_rel_true e) p.guard

-- the taken path's guard is true, and those of the paths before it aren't
pub record IsTaken (e : List ℤ) (paths : List Path) (k : ℕ) (p : Path) : Type 0 where
  pub here : opens e p ≡ true
  pub before : AllByRecursion (λ q. opens e q ≡ false) (take k paths)

taken_from :
    (e : List ℤ) (paths : List Path) (i j : ℕ) → first_from (opens e) i paths ≡ Some j
    → (k : ℕ) × (j ≡ i + k) × ((p : Path) → slice_get paths k ≡ Some p → IsTaken e paths k p)
taken_from e [] i j h = absurd (none-some j h)
taken_from e (q ∷ rest) i j h = by (opens e q) refl h (taken_from e rest (i + 1) j)
  where
    by :
        (b : Bool) → opens e q ≡ b → (if b then Some i else first_from (opens e) (i + 1) rest) ≡ Some j
        → (first_from (opens e) (i + 1) rest ≡ Some j
        → (k : ℕ) × (j ≡ i + 1 + k) × ((p : Path) → slice_get rest k ≡ Some p → IsTaken e rest k p))
        → (k : ℕ) × (j ≡ i + k) × ((p : Path) → slice_get (q ∷ rest) k ≡ Some p → IsTaken e (q ∷ rest) k p)
    by true t g ih =
        (0, let s = same_Some i j g in omega (arith, s), λ p w. record { here = ap (opens e) (sym (same_Some q p w)) ∙ t; before = tt })
    by false t g ih =
        let r = ih g in
        (suc r.0, let s = r.1 in omega (arith, s), λ p w. let z = r.2 p w in record { here = z.here; before = (t, z.before) })

pub taken_is :
    (e : List ℤ) (paths : List Path) (j : ℕ) (p : Path) → taken_path e paths ≡ Some j → slice_get paths j ≡ Some p → IsTaken e paths j p
taken_is e paths j p h g =
    let r = taken_from e paths 0 j h in
    let same : r.0 ≡ j = let s = r.1 in omega (arith, s) in
    subst (λ z. IsTaken e paths z p) same (r.2 p (ap (slice_get paths) same ∙ g))

pub all_untaken_true :
    (db : List Row) (E : List ℤ) (n : Naming) (e : List ℤ) → AgreesNear n E e → (paths : List Path)
    → AllByRecursion (λ q. opens e q ≡ false) paths → AllByRecursion (ClauseTrue db E) (all_untaken n paths)
all_untaken_true db E n e agree [] h = tt
all_untaken_true db E n e agree (p ∷ ps) h = (untaken_true db E n e agree p.guard h.0, all_untaken_true db E n e agree ps h.1)
