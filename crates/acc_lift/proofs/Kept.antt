-- The rows that a step leaves: their shapes, their keys, how far from 0 their values lie, and whose the private ones are.
use Rattle.std.proofs.Common.{◌≡◌, ℕ, zero, suc, ◌+◌, ◌*◌, ◌≤◌, ◌^◌, ◌⊎◌, inl, inr, List, [], ◌∷◌, Bool, true, false, cond, sym, subst}
use Rattle.std.proofs.Common.{refl, ap, ◌∙◌, arith, Some, ℤ, pos, ◌+ℤ◌, get_or, set, length-set}
use Rattle.std.proofs.lemmas.List.{length-map}
use Rattle.std.specs.Prelude.{All, ◌/◌, ◌&&◌, ◌||◌, ◌==◌, not, find, count_by, slice_get, unsigned_abs}
use Rattle.std.specs.List.{list_all, list_any, AllByRecursion}
use Rattle.std.specs.Cmp.{first_so, second_so}
use Rattle.std.proofs.Math.Nat.{mul-div-le, add-mul, one-mul, zero-add}
use Rattle.std.proofs.lemmas.Int.{ints}
use Rattle.std.proofs.lemmas.Bool.Decides.{nat_tests}
use Rattle.std.proofs.lemmas.List.Sums.{sum_by-cons}
use Rattle.std.proofs.lemmas.List.Elements.{All-from_recursion, recursion_from_All}
use Rattle.acc_base.specs.declared.tables.Table.{Table}
use Rattle.acc_base.specs.declared.tables.Row.{Row}
use Rattle.acc_base.specs.declared.steps.Action.{Action}
use Rattle.acc_base.specs.declared.steps.Action.TheVariants.{Put, Del, Set, Add}
use Rattle.acc_base.specs.declared.designs.Side.{Side}
use Rattle.acc_base.specs.declared.designs.Side.TheVariants.{Next, Undo as UndoSide}
use Rattle.acc_base.specs.Numbers.{is_small, IsSmall}
use Rattle.acc_base.specs.Tables.{compared, is_at, set_cell, cell, cell_of, column_of}
use Rattle.acc_base.specs.Linear.{lin_value, lin_values}
use Rattle.acc_base.specs.Actions.{action_numbers, after_action, stores_small, after_actions}
use Rattle.acc_base.proofs.ActionRuns.{along}
use Rattle.acc_base.proofs.Lookups.{any_some}
use Rattle.acc_base.proofs.Places.{same_place, is_equal}
use Rattle.acc_base.proofs.RowChanges.{put_all, drop_all, change_all}
use Rattle.acc_base.proofs.Smalls.{small_is, all_small, small_front, small_back, small_last}
use Rattle.acc_base.specs.Shapes.{IsFullKey, AreColumns, ActionFits, RowFits}
use Rattle.acc_base.specs.Soundness.{adds_to, IsShared}
use Rattle.acc_base.specs.Invariant.{IsWithin}

abbrev pub row_of : ℕ → List ℤ → List ℤ → Row
row_of t k vs = record { table = t; key = record { parts = k }; cols = vs }

-- ---- shapes and keys

module _ (tables : List Table) (side : Side) (env : List ℤ) where
  abbrev Shaped : List Action → List Row → Type 0
  Shaped acts db = AllByRecursion (ActionFits tables) acts × AllByRecursion (RowFits tables) db

  set_fits : (c : ℕ) (v : ℤ) (r : Row) → RowFits tables r → RowFits tables (set_cell c v r)
  set_fits c v r h = (h.0, subst (AreColumns (slice_get tables r.table)) (sym (length-set r.cols c v)) h.1)

  one_shaped :
      (a : Action) (rest : List Action) (db : List Row) → list_all is_small (action_numbers env a) ≡ true
      → stores_small side env a db ≡ true → Shaped (a ∷ rest) db → Shaped rest (after_action env a db)
  one_shaped (Put t k vs) rest db s g h = (
    h.0.1,
    put_all (RowFits tables) (row_of t (lin_values env k) (lin_values env vs)) db (
      subst (IsFullKey (slice_get tables t)) (sym (length-map k (lin_value env))) h.0.0.0,
      subst (AreColumns (slice_get tables t)) (sym (length-map vs (lin_value env))) h.0.0.1,
    ) h.1,
  )
  one_shaped (Del t k) rest db s g h = (h.0.1, drop_all (RowFits tables) t (lin_values env k) db h.1)
  one_shaped (Set t k c v) rest db s g h = (
    h.0.1,
    change_all (RowFits tables) (RowFits tables) t (lin_values env k) (set_cell c (lin_value env v)) (λ r x. x) db
        (λ r f a x. set_fits c (lin_value env v) r x) h.1,
  )
  one_shaped (Add t k c v) rest db s g h = (
    h.0.1,
    change_all (RowFits tables) (RowFits tables) t (lin_values env k) (λ r. set_cell c (cell c r +ℤ lin_value env v) r) (λ r x. x)
        db (λ r f a x. set_fits c (cell c r +ℤ lin_value env v) r x) h.1,
  )

  pub rows_shaped :
      (acts : List Action) (db after : List Row) → after_actions side env acts db ≡ Some after → All (ActionFits tables) acts
      → All (RowFits tables) db → All (RowFits tables) after
  rows_shaped acts db after e w h =
      All-from_recursion (RowFits tables) after
      (along side env Shaped one_shaped acts db after e
      (recursion_from_All (ActionFits tables) acts w, recursion_from_All (RowFits tables) db h)).1

abbrev pub HasSmallKey : Row → Type 0
HasSmallKey r = All IsSmall r.key.parts

module _ (side : Side) (env : List ℤ) where
  one_keyed :
      (a : Action) (rest : List Action) (db : List Row) → list_all is_small (action_numbers env a) ≡ true
      → stores_small side env a db ≡ true → AllByRecursion HasSmallKey db → AllByRecursion HasSmallKey (after_action env a db)
  one_keyed (Put t k vs) rest db s g h =
      put_all HasSmallKey (row_of t (lin_values env k) (lin_values env vs)) db
      (all_small (lin_values env k) (small_front (lin_values env k) (lin_values env vs) s)) h
  one_keyed (Del t k) rest db s g h = drop_all HasSmallKey t (lin_values env k) db h
  one_keyed (Set t k c v) rest db s g h =
      change_all HasSmallKey HasSmallKey t (lin_values env k) (set_cell c (lin_value env v)) (λ r x. x) db (λ r f a x. x) h
  one_keyed (Add t k c v) rest db s g h =
      change_all HasSmallKey HasSmallKey t (lin_values env k) (λ r. set_cell c (cell c r +ℤ lin_value env v) r) (λ r x. x) db (λ r f a x. x)
      h

  pub rows_keyed :
      (acts : List Action) (db after : List Row) → after_actions side env acts db ≡ Some after → All HasSmallKey db → All HasSmallKey after
  rows_keyed acts db after e h =
      All-from_recursion HasSmallKey after (along side env (λ rest rows. AllByRecursion HasSmallKey rows) one_keyed acts db after e
      (recursion_from_All HasSmallKey db h))

-- ---- values within bounds

pub set_read : (l : List ℤ) (i j : ℕ) (a d : ℤ) → ((j ≡ i) × (get_or (set l i a) j d ≡ a)) ⊎ (get_or (set l i a) j d ≡ get_or l j d)
set_read [] i j a d = inr refl
set_read (x ∷ l) zero zero a d = inl (refl, refl)
set_read (x ∷ l) zero (suc j) a d = inr refl
set_read (x ∷ l) (suc i) zero a d = inr refl
set_read (x ∷ l) (suc i) (suc j) a d = by (set_read l i j a d)
  where
    by :
        ((j ≡ i) × (get_or (set l i a) j d ≡ a)) ⊎ (get_or (set l i a) j d ≡ get_or l j d)
        → ((suc j ≡ suc i) × (get_or (set l i a) j d ≡ a)) ⊎ (get_or (set l i a) j d ≡ get_or l j d)
    by (inl h) = inl (ap suc h.0, h.1)
    by (inr h) = inr h

small_at : (l : List ℤ) (c : ℕ) → list_all is_small l ≡ true → unsigned_abs (get_or l c (pos 0)) ≤ 2 ^ 45
small_at [] c h = omega (arith, ints)
small_at (x ∷ l) zero h = small_is x (first_so (is_small x) (list_all is_small l) h)
small_at (x ∷ l) (suc c) h = small_at l c (second_so (is_small x) (list_all is_small l) h)

last_of_or : (a b : Bool) → a ≡ true → (not a || b) ≡ true → b ≡ true
last_of_or true b h g = g
last_of_or false b h g = cc

-- forward, each number that is stored is small
module _ (env : List ℤ) (m : ℕ) (large : 2 ^ 45 ≤ m) where
  set_within : (c : ℕ) (v : ℤ) (r : Row) → unsigned_abs v ≤ m → IsWithin m r → IsWithin m (set_cell c v r)
  set_within c v r k h e = by (set_read r.cols c e v (pos 0))
    where
      by :
          ((e ≡ c) × (get_or (set r.cols c v) e (pos 0) ≡ v)) ⊎ (get_or (set r.cols c v) e (pos 0) ≡ get_or r.cols e (pos 0))
          → unsigned_abs (get_or (set r.cols c v) e (pos 0)) ≤ m
      by (inl x) = subst (λ z. unsigned_abs z ≤ m) (sym x.1) k
      by (inr x) = subst (λ z. unsigned_abs z ≤ m) (sym x) (h e)

  one_within :
      (a : Action) (rest : List Action) (db : List Row) → list_all is_small (action_numbers env a) ≡ true
      → stores_small Next env a db ≡ true → AllByRecursion (IsWithin m) db → AllByRecursion (IsWithin m) (after_action env a db)
  one_within (Put t k vs) rest db s g h =
      put_all (IsWithin m) (row_of t (lin_values env k) (lin_values env vs)) db
      (λ c. let b = small_at (lin_values env vs) c (small_back (lin_values env k) (lin_values env vs) s) in omega arith) h
  one_within (Del t k) rest db s g h = drop_all (IsWithin m) t (lin_values env k) db h
  one_within (Set t k c v) rest db s g h =
      change_all (IsWithin m) (IsWithin m) t (lin_values env k) (set_cell c (lin_value env v)) (λ r x. x) db
      (λ r f a x. set_within c (lin_value env v) r (let b = small_last (lin_values env k) (lin_value env v) s in omega arith) x) h
  one_within (Add t k c v) rest db s g h =
      change_all (IsWithin m) (IsWithin m) t (lin_values env k) (λ r. set_cell c (cell c r +ℤ lin_value env v) r) (λ r x. x) db
      (λ r f a x. set_within c (cell c r +ℤ lin_value env v) r (stored r f) x) h
    where
      stored : (r : Row) → find (is_at t (lin_values env k)) db ≡ Some r → unsigned_abs (cell c r +ℤ lin_value env v) ≤ m
      stored r f =
          let n = last_of_or (list_any (is_at t (lin_values env k)) db) (is_small (column_of db t (lin_values env k) c +ℤ lin_value env v))
          (any_some (is_at t (lin_values env k)) db r f) g in
          let b : unsigned_abs (cell c r +ℤ lin_value env v) ≤ 2 ^ 45 =
          subst (λ o. unsigned_abs (cell_of c o +ℤ lin_value env v) ≤ 2 ^ 45) f
          (small_is (column_of db t (lin_values env k) c +ℤ lin_value env v) n) in
          omega arith

  pub rows_within :
      (acts : List Action) (db after : List Row) → after_actions Next env acts db ≡ Some after → AllByRecursion (IsWithin m) db
      → AllByRecursion (IsWithin m) after
  rows_within acts db after e h = along Next env (λ x rows. AllByRecursion (IsWithin m) rows) one_within acts db after e h

both_equal : (a b c : ℕ) → a ≡ b → ((a == b) && (c == c)) ≡ true
both_equal a b c e = grind (arith, nat_tests)

abs_add : (x y : ℤ) → unsigned_abs (x +ℤ y) ≤ unsigned_abs x + unsigned_abs y
abs_add x y = omega (arith, ints)

-- undone, the adds on one column share the range
module _ (env : List ℤ) (m : ℕ) (large : 2 ^ 45 ≤ m) (whole : List Action) where
  abbrev share : ℕ → ℕ → ℕ
  share t c = 2 ^ 45 / count_by (adds_to t c) whole

  abbrev budget : List Action → ℕ → ℕ → ℕ
  budget rest t c = count_by (adds_to t c) rest * share t c

  abbrev Within : List Action → Row → Type 0
  Within rest r = (c : ℕ) → unsigned_abs (cell c r) + budget rest r.table c ≤ m + 2 ^ 45

  abbrev Shared : List Action → List Row → Type 0
  Shared rest db = (AllByRecursion (IsShared env whole) rest × ((t c : ℕ) → budget rest t c ≤ 2 ^ 45)) × AllByRecursion (Within rest) db

  one_term : (b : Bool) (n u : ℕ) → (cond b 1 0 + n) * u ≡ cond b u 0 + n * u
  one_term true n u = add-mul 1 n u ∙ ap (λ x. x + n * u) (one-mul u)
  one_term false n u = ap (λ x. x * u) (zero-add n) ∙ sym (zero-add (n * u))

  budget_cons : (a : Action) (rest : List Action) (t c : ℕ) → budget (a ∷ rest) t c ≡ cond (adds_to t c a) (share t c) 0 + budget rest t c
  budget_cons a rest t c =
      ap (λ n. n * share t c) (sum_by-cons (λ x. cond (adds_to t c x) 1 0) a rest)
      ∙ one_term (adds_to t c a) (count_by (adds_to t c) rest) (share t c)

  budget_less : (a : Action) (rest : List Action) (t c : ℕ) → budget rest t c ≤ budget (a ∷ rest) t c
  budget_less a rest t c = let e = budget_cons a rest t c in omega arith

  keeps : (a : Action) (rest : List Action) (r : Row) → Within (a ∷ rest) r → Within rest r
  keeps a rest r h c = let l = budget_less a rest r.table c in let k = h c in omega arith

  set_kept :
      (a : Action) (rest : List Action) (c : ℕ) (v : ℤ) (r : Row) → unsigned_abs v + budget rest r.table c ≤ m + 2 ^ 45
      → Within (a ∷ rest) r → Within rest (set_cell c v r)
  set_kept a rest c v r k h e = by (set_read r.cols c e v (pos 0))
    where
      by :
          ((e ≡ c) × (get_or (set r.cols c v) e (pos 0) ≡ v)) ⊎ (get_or (set r.cols c v) e (pos 0) ≡ get_or r.cols e (pos 0))
          → unsigned_abs (get_or (set r.cols c v) e (pos 0)) + budget rest r.table e ≤ m + 2 ^ 45
      by (inl x) =
          let q : unsigned_abs (get_or (set r.cols c v) e (pos 0)) ≡ unsigned_abs v = ap unsigned_abs x.1 in
          let p : budget rest r.table e ≡ budget rest r.table c = ap (budget rest r.table) x.0 in
          omega arith
      by (inr x) =
          let q : unsigned_abs (get_or (set r.cols c v) e (pos 0)) ≡ unsigned_abs (cell e r) = ap unsigned_abs x in
          let l = keeps a rest r h e in
          omega arith

  small_kept :
      (v : ℤ) (rest : List Action) (t c : ℕ) → budget rest t c ≤ 2 ^ 45 → unsigned_abs v ≤ 2 ^ 45
      → unsigned_abs v + budget rest t c ≤ m + 2 ^ 45
  small_kept v rest t c b h = omega arith

  keep_rows : (a : Action) (rest : List Action) (db : List Row) → AllByRecursion (Within (a ∷ rest)) db → AllByRecursion (Within rest) db
  keep_rows a rest [] h = tt
  keep_rows a rest (r ∷ db) h = (keeps a rest r h.0, keep_rows a rest db h.1)

  later_budget : (a : Action) (rest : List Action) → ((t c : ℕ) → budget (a ∷ rest) t c ≤ 2 ^ 45) → (t c : ℕ) → budget rest t c ≤ 2 ^ 45
  later_budget a rest h t c = let l = budget_less a rest t c in let k = h t c in omega arith

  one_shared :
      (a : Action) (rest : List Action) (db : List Row) → list_all is_small (action_numbers env a) ≡ true
      → stores_small UndoSide env a db ≡ true → Shared (a ∷ rest) db → Shared rest (after_action env a db)
  one_shared (Put t k vs) rest db s g h = (
    (h.0.0.1, later_budget (Put t k vs) rest h.0.1),
    put_all (Within rest) (row_of t (lin_values env k) (lin_values env vs)) db
        (λ c. small_kept (get_or (lin_values env vs) c (pos 0)) rest t c (later_budget (Put t k vs) rest h.0.1 t c)
        (small_at (lin_values env vs) c (small_back (lin_values env k) (lin_values env vs) s))) (keep_rows (Put t k vs) rest db h.1),
  )
  one_shared (Del t k) rest db s g h =
      ((h.0.0.1, later_budget (Del t k) rest h.0.1), drop_all (Within rest) t (lin_values env k) db (keep_rows (Del t k) rest db h.1))
  one_shared (Set t k c v) rest db s g h = (
    (h.0.0.1, later_budget (Set t k c v) rest h.0.1),
    change_all (Within (Set t k c v ∷ rest)) (Within rest) t (lin_values env k) (set_cell c (lin_value env v))
        (λ r x. keeps (Set t k c v) rest r x) db (λ r f a x. set_kept (Set t k c v) rest c (lin_value env v) r
        (small_kept (lin_value env v) rest r.table c (later_budget (Set t k c v) rest h.0.1 r.table c)
        (small_last (lin_values env k) (lin_value env v) s)) x) h.1,
  )
  one_shared (Add t k c v) rest db s g h = (
    (h.0.0.1, later_budget (Add t k c v) rest h.0.1),
    change_all (Within (Add t k c v ∷ rest)) (Within rest) t (lin_values env k) (λ r. set_cell c (cell c r +ℤ lin_value env v) r)
        (λ r x. keeps (Add t k c v) rest r x) db (λ r f a x. set_kept (Add t k c v) rest c (cell c r +ℤ lin_value env v) r (added r a x) x)
        h.1,
  )
    where
      added :
          (r : Row) → is_at t (lin_values env k) r ≡ true → Within (Add t k c v ∷ rest) r
          → unsigned_abs (cell c r +ℤ lin_value env v) + budget rest r.table c ≤ m + 2 ^ 45
      added r a x =
          let e = same_place t (lin_values env k) r (is_equal (compared t (lin_values env k) r) a) in
          let b = budget_cons (Add t k c v) rest r.table c in
          let o : adds_to r.table c (Add t k c v) ≡ true = both_equal r.table t c (sym e.0) in
          let q : cond (adds_to r.table c (Add t k c v)) (share r.table c) 0 ≡ share r.table c = ap (λ z. cond z (share r.table c) 0) o in
          let l : unsigned_abs (lin_value env v) ≤ share t c = h.0.0.0 in
          let p : share r.table c ≡ share t c = ap (λ z. share z c) (sym e.0) in
          let k = x c in
          let i = abs_add (cell c r) (lin_value env v) in
          omega arith

  pub rows_shared :
      (db after : List Row) → after_actions UndoSide env whole db ≡ Some after → All (IsShared env whole) whole
      → AllByRecursion (IsWithin m) db → AllByRecursion (IsWithin (m + 2 ^ 45)) after
  rows_shared db after e w h =
      last after (along UndoSide env Shared one_shared whole db after e
      ((recursion_from_All (IsShared env whole) whole w, first), begin db h)).1
    where
      first : (t c : ℕ) → budget whole t c ≤ 2 ^ 45
      first t c = mul-div-le (2 ^ 45) (count_by (adds_to t c) whole)

      begin : (rows : List Row) → AllByRecursion (IsWithin m) rows → AllByRecursion (Within whole) rows
      begin [] g = tt
      begin (r ∷ rows) g = ((λ c. let l = first r.table c in let k = g.0 c in omega arith), begin rows g.1)

      last : (rows : List Row) → AllByRecursion (Within []) rows → AllByRecursion (IsWithin (m + 2 ^ 45)) rows
      last [] g = tt
      last (r ∷ rows) g = ((λ c. let k = g.0 c in omega arith), last rows g.1)
