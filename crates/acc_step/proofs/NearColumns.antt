-- How far from 0 the columns at a place are after an action.
use Rattle.std.proofs.Common.{◌≡◌, ℕ, ◌+◌, ◌≤◌, ◌^◌, Bool, true, false, cond, List, [], ◌∷◌, arith, ℤ, Option, Some, None, if◌then◌else◌}
use Rattle.std.proofs.Common.{refl}
use Rattle.std.specs.Prelude.{All, find, unsigned_abs, slice_index_or, slice_set, option_map, pos}
use Rattle.std.specs.List.{list_all}
use Rattle.std.specs.Ordering.{is_eq}
use Rattle.std.proofs.lemmas.List.Elements.{All-weaker, All-set, All-head, All-tail}
use Rattle.acc_base.specs.declared.tables.Row.{Row}
use Rattle.acc_base.specs.declared.steps.Action.{Action}
use Rattle.acc_base.specs.declared.steps.Action.TheVariants.{Put, Del, Set, Add}
use Rattle.acc_base.specs.Numbers.{is_small, IsSmall}
use Rattle.acc_base.specs.Linear.{lin_value, lin_values}
use Rattle.acc_base.specs.Tables.{Place, place_cmp}
use Rattle.acc_base.specs.Actions.{action_numbers}
use Rattle.acc_base.proofs.Smalls.{all_small, small_back, small_last}
use Rattle.acc_store.specs.Bounds.{IsWithin, AreWithin}
use Rattle.acc_store.specs.Rows.{columns_of}
use Rattle.acc_store.proofs.Withins.{value_within}
use Rattle.acc_step.specs.Overlay.{sum_in}
use Rattle.acc_step.specs.Changing.{place_at, change_of, change_if_small}
use Rattle.acc_step.specs.RowColumns.{key_of, columns_made, columns_acted, AreNear}
use Rattle.acc_step.proofs.Bounds.{abs-add}

pub nearer : (m n : ℕ) (cols : Option (List ℤ)) → m ≤ n → AreNear m cols → AreNear n cols
nearer m n None more h = tt
nearer m n (Some cols) more h = All-weaker (λ v. unsigned_abs v ≤ m) (λ v. unsigned_abs v ≤ n) (λ v k. omega arith) cols h

module _ (env : List ℤ) (m : ℕ) (large : 2 ^ 45 ≤ m) where
  abbrev n : ℕ
  n = m + 2 ^ 45

  set_near : (c : ℕ) (by : List ℤ → ℤ) → ((cols : List ℤ) → All (λ v. unsigned_abs v ≤ m) cols → unsigned_abs (by cols) ≤ n) →
      (old : Option (List ℤ)) → AreNear m old → AreNear n (option_map (λ cols. slice_set cols c (by cols)) old)
  set_near c by near None h = tt
  set_near c by near (Some cols) h =
      All-set (λ v. unsigned_abs v ≤ n) cols c (by cols) (near cols h)
      (All-weaker (λ v. unsigned_abs v ≤ m) (λ v. unsigned_abs v ≤ n) (λ v k. omega arith) cols h)

  made_near : (a : Action) (old : Option (List ℤ)) → list_all is_small (action_numbers env a) ≡ true → AreNear m old →
      AreNear n (columns_made (change_of env a) old)
  made_near (Put t k vs) old s h =
      All-weaker IsSmall (λ v. unsigned_abs v ≤ n) (λ v x. omega arith) (lin_values env vs)
      (all_small (lin_values env vs) (small_back (lin_values env k) (lin_values env vs) s))
  made_near (Del t k) old s h = tt
  made_near (Set t k c v) old s h =
      let small = small_last (lin_values env k) (lin_value env v) s in
      set_near c (λ cols. lin_value env v) (λ cols near. omega arith) old h
  made_near (Add t k c v) old s h =
      let small = small_last (lin_values env k) (lin_value env v) s in
      set_near c (sum_in c (lin_value env v)) (λ cols near. let q = value_within m cols c near in let y =
      abs-add (slice_index_or cols c (pos 0)) (lin_value env v) in omega arith) old h

  -- an action takes them at most 2^45 farther
  pub acted_near : (p : Place) (a : Action) (old : Option (List ℤ)) → AreNear m old →
      AreNear n (columns_acted p (change_if_small env a) old)
  acted_near p a old h = by (list_all is_small (action_numbers env a)) refl
    where
      moved : (b : Bool) → list_all is_small (action_numbers env a) ≡ true →
          AreNear n (if b then columns_made (change_of env a) old else old)
      moved true s = made_near a old s h
      moved false s = nearer m n old (omega arith) h

      by : (b : Bool) → list_all is_small (action_numbers env a) ≡ b →
          AreNear n (columns_acted p (if b then Some (change_of env a) else None) old)
      by true s = moved (is_eq (place_cmp p (place_at (key_of (change_of env a))))) s
      by false s = nearer m n old (omega arith) h

-- a row that is found has columns within the bound
pub found_near : (m : ℕ) (test : Row → Bool) (db : List Row) → AreWithin m db → AreNear m (columns_of (find test db))
found_near m test [] h = tt
found_near m test (r ∷ db) h = by (test r) (found_near m test db (All-tail (IsWithin m) r db h))
  where
    by : (b : Bool) → AreNear m (columns_of (find test db)) → AreNear m (columns_of (cond b (Some r) (find test db)))
    by true ih = All-head (IsWithin m) r db h
    by false ih = ih
