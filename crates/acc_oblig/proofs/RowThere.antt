-- The rows that a path changes are there, where the obligations on them are true.
use Rattle.std.proofs.Common.{◌≡◌, ℕ, zero, suc, Bool, true, false, if◌then◌else◌, List, [], ◌∷◌, ◌++◌, take, refl, subst, arith, Some, ℤ}
use Rattle.std.proofs.Common.{pos, negsuc, ◌+ℤ◌, ◌*ℤ◌}
use Rattle.std.specs.Prelude.{slice_get, IsTrue}
use Rattle.std.specs.List.{list_any}
use Rattle.std.proofs.lemmas.Int.{ints}
use Rattle.acc_base.specs.declared.tables.Row.{Row}
use Rattle.acc_base.specs.declared.forms.Lin.{Lin}
use Rattle.acc_base.specs.declared.steps.Action.{Action}
use Rattle.acc_base.specs.declared.steps.Action.TheVariants as action
use Rattle.acc_base.specs.Tables.{is_at, has_row}
use Rattle.acc_base.specs.Linear.{lin_values}
use Rattle.acc_base.specs.Actions.{after_action}
use Rattle.acc_base.specs.Truth.{ClauseTrue}
use Rattle.acc_base.specs.RowsAfter.{rows_after, IsThere, AreThere}
use Rattle.acc_preconditions.proofs.PartValues.{one_times}
use Rattle.acc_oblig.specs.PathPromises.{changed_row, row_there}
use Rattle.acc_oblig.proofs.FormValues.{meets_zero}
use Rattle.std.proofs.lemmas.List.{append-nil}

-- what holds of each action before which all are there holds along the actions
pub all_there :
    (env : List ℤ) (acts : List Action) (db : List Row)
    → ((k : ℕ) (a : Action) → slice_get acts k ≡ Some a → AreThere env (take k acts) db → IsThere env a (rows_after env (take k acts) db))
    → AreThere env acts db
all_there env [] db h = tt
all_there env (a ∷ rest) db h =
    let first : IsThere env a db = h zero a refl tt in
    (first, all_there env rest (after_action env a db) (λ k b e t. h (suc k) b e (first, t)))

has_one : (h : ℤ) → (pos 1 *ℤ h +ℤ pos 0) +ℤ negsuc 0 ≡ pos 0 → h ≡ pos 1
has_one h e = let o = one_times h in omega (arith, ints, e, o)

there_if_one : (b : Bool) → (if b then pos 1 else pos 0) ≡ pos 1 → b ≡ true
there_if_one true h = refl
there_if_one false h = absurd (omega (arith, ints, h))

row_is_there :
    (db : List Row) (env : List ℤ) (t : ℕ) (k : List Lin) → ClauseTrue db env (row_there (t, k))
    → IsTrue (list_any (is_at t (lin_values env k)) db)
row_is_there db env t k h =
    let v = subst (λ z. has_row db t (lin_values z k) ≡ pos 1) (append-nil env)
    (has_one (has_row db t (lin_values (env ++ []) k)) (meets_zero _ (h [] refl refl))) in
    there_if_one (list_any (is_at t (lin_values env k)) db) v

-- the row of one action is there, where its clause is true
pub is_there :
    (db : List Row) (env : List ℤ) (a : Action) → ((r : ℕ × List Lin) → changed_row a ≡ Some r → ClauseTrue db env (row_there r))
    → IsThere env a db
is_there db env (action.Put t k vs) h = tt
is_there db env (action.Del t k) h = tt
is_there db env (action.Set t k c v) h = row_is_there db env t k (h (t, k) refl)
is_there db env (action.Add t k c v) h = row_is_there db env t k (h (t, k) refl)
