-- How far from 0 the stored values are after actions.
use Rattle.std.proofs.Common.{◌≡◌, ℕ, ◌+◌, ◌≤◌, ◌^◌, Bool, true, false, cond, List, [], ◌∷◌, arith, subst, ℤ, pos, ◌+ℤ◌, Some}
use Rattle.std.specs.Prelude.{find, unsigned_abs, slice_index_or}
use Rattle.std.specs.List.{list_all, AllByRecursion}
use Rattle.std.proofs.lemmas.Int.{ints}
use Rattle.std.proofs.lemmas.List.Elements.{All-weaker, All-set, All-head, All-tail, All-from_recursion, recursion_from_All}
use Rattle.acc_base.specs.declared.tables.Row.{Row}
use Rattle.acc_base.specs.declared.steps.Action.{Action}
use Rattle.acc_base.specs.declared.steps.Action.TheVariants.{Put, Del, Set, Add}
use Rattle.acc_base.specs.Numbers.{is_small, IsSmall}
use Rattle.acc_base.specs.Linear.{lin_value, lin_values}
use Rattle.acc_base.specs.Tables.{cell, set_cell}
use Rattle.acc_base.specs.Actions.{action_numbers, after_action}
use Rattle.acc_base.proofs.Smalls.{all_small, small_back, small_last}
use Rattle.acc_base.proofs.RowChanges.{put_all, drop_all, change_all}
use Rattle.acc_store.specs.Bounds.{IsWithin, AreWithin}
use Rattle.acc_store.specs.Rows.{columns_of}
use Rattle.acc_store.proofs.Withins.{value_within}

pub abs-add : (x y : ℤ) → unsigned_abs (x +ℤ y) ≤ unsigned_abs x + unsigned_abs y
abs-add x y = omega (arith, ints)

module _ (m n : ℕ) (more : m ≤ n) where
  row_weaker : (r : Row) → IsWithin m r → IsWithin n r
  row_weaker r h = All-weaker (λ v. unsigned_abs v ≤ m) (λ v. unsigned_abs v ≤ n) (λ v k. omega arith) r.cols h

  pub within_weaker : (db : List Row) → AreWithin m db → AreWithin n db
  within_weaker db h = All-weaker (IsWithin m) (IsWithin n) row_weaker db h

-- a column of a row that is found is within the bound
pub found_within : (m : ℕ) (test : Row → Bool) (db : List Row) (cols : List ℤ) (c : ℕ) → AreWithin m db →
    columns_of (find test db) ≡ Some cols → unsigned_abs (slice_index_or cols c (pos 0)) ≤ m
found_within m test [] cols c h e = cc
found_within m test (r ∷ db) cols c h e = by (test r) e (found_within m test db cols c (All-tail (IsWithin m) r db h))
  where
    by : (b : Bool) → columns_of (cond b (Some r) (find test db)) ≡ Some cols →
        (columns_of (find test db) ≡ Some cols → unsigned_abs (slice_index_or cols c (pos 0)) ≤ m) →
        unsigned_abs (slice_index_or cols c (pos 0)) ≤ m
    by true g ih =
        let same : r.cols ≡ cols = cc in
        subst (λ xs. unsigned_abs (slice_index_or xs c (pos 0)) ≤ m) same (value_within m r.cols c (All-head (IsWithin m) r db h))
    by false g ih = ih g

module _ (env : List ℤ) (m : ℕ) (large : 2 ^ 45 ≤ m) where
  abbrev n : ℕ
  n = m + 2 ^ 45

  set_within : (c : ℕ) (v : ℤ) (r : Row) → unsigned_abs v ≤ n → IsWithin n r → IsWithin n (set_cell c v r)
  set_within c v r k h = All-set (λ x. unsigned_abs x ≤ n) r.cols c v k h

  -- an action takes the values at most 2^45 farther from 0
  after_by_recursion : (a : Action) (db : List Row) → list_all is_small (action_numbers env a) ≡ true → AllByRecursion (IsWithin m) db →
      AllByRecursion (IsWithin n) db → AllByRecursion (IsWithin n) (after_action env a db)
  after_by_recursion (Put t k vs) db s old h =
      put_all (IsWithin n) (record { table = t; key = record { parts = lin_values env k }; cols = lin_values env vs }) db
      (All-weaker IsSmall (λ v. unsigned_abs v ≤ n) (λ v x. omega arith) (lin_values env vs)
      (all_small (lin_values env vs) (small_back (lin_values env k) (lin_values env vs) s))) h
  after_by_recursion (Del t k) db s old h = drop_all (IsWithin n) t (lin_values env k) db h
  after_by_recursion (Set t k c v) db s old h =
      let small = small_last (lin_values env k) (lin_value env v) s in
      change_all (IsWithin n) (IsWithin n) t (lin_values env k) (set_cell c (lin_value env v)) (λ r x. x) db
      (λ r f a x. set_within c (lin_value env v) r (omega arith) x) h
  after_by_recursion (Add t k c v) db s old h =
      let small = small_last (lin_values env k) (lin_value env v) s in
      change_all (IsWithin m) (IsWithin n) t (lin_values env k) (λ r. set_cell c (cell c r +ℤ lin_value env v) r)
      (row_weaker m n (omega arith)) db (λ r f a x. let q = value_within m r.cols c x in let y = abs-add (cell c r) (lin_value env v) in
      set_within c (cell c r +ℤ lin_value env v) r (omega arith) (row_weaker m n (omega arith) r x)) old

  pub action_within : (a : Action) (db : List Row) → list_all is_small (action_numbers env a) ≡ true → AreWithin m db →
      AreWithin n (after_action env a db)
  action_within a db s h =
      All-from_recursion (IsWithin n) (after_action env a db)
      (after_by_recursion a db s (recursion_from_All (IsWithin m) db h)
      (recursion_from_All (IsWithin n) db (within_weaker m n (omega arith) db h)))
