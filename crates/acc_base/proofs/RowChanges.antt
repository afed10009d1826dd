-- What stays true of the rows when one is put, dropped or changed.
use Rattle.std.proofs.Common.{◌≡◌, ℕ, suc, ◌+◌, ◌≤◌, List, [], ◌∷◌, length, Bool, true, false, cond, refl, ap, ◌∙◌, if◌then◌else◌, arith}
use Rattle.std.proofs.Common.{Some, ℤ}
use Rattle.std.specs.Prelude.{find}
use Rattle.std.specs.List.{AllByRecursion}
use Rattle.std.specs.declared.cmp.Ordering.{Ordering}
use Rattle.std.specs.declared.cmp.Ordering.TheVariants.{Less, Equal, Greater}
use Rattle.acc_base.specs.declared.tables.Row.{Row}
use Rattle.acc_base.specs.Tables.{compared, is_at, put, put_here, drop_row, change_row}

-- ---- what holds of each row

module _ (P : Row → Type 0) where
  pub put_all : (new : Row) (db : List Row) → P new → AllByRecursion P db → AllByRecursion P (put new db)
  put_all new [] p a = (p, tt)
  put_all new (r ∷ db) p a = by (compared new.table new.key.parts r) (put_all new db p a.1)
    where
      by : (o : Ordering) → AllByRecursion P (put new db) → AllByRecursion P (put_here o new r db (put new db))
      by Less ih = (p, a)
      by Equal ih = (p, a.1)
      by Greater ih = (a.0, ih)

  pub drop_all : (t : ℕ) (k : List ℤ) (db : List Row) → AllByRecursion P db → AllByRecursion P (drop_row t k db)
  drop_all t k [] a = tt
  drop_all t k (r ∷ db) a = by (is_at t k r) (drop_all t k db a.1)
    where
      by : (b : Bool) → AllByRecursion P (drop_row t k db) → AllByRecursion P (if b then db else (r ∷ drop_row t k db))
      by true ih = a.1
      by false ih = (a.0, ih)

module _ (P Q : Row → Type 0) (t : ℕ) (k : List ℤ) (change : Row → Row) (others : (r : Row) → P r → Q r) where
  -- a changed row is the one that a look-up finds
  pub change_all : (db : List Row) → ((r : Row) → find (is_at t k) db ≡ Some r → is_at t k r ≡ true → P r → Q (change r))
      → AllByRecursion P db → AllByRecursion Q (change_row t k change db)
  change_all [] h a = tt
  change_all (r ∷ db) h a = by (is_at t k r) refl
      (λ e. change_all db (λ x g. h x (ap (λ b. cond b (Some r) (find (is_at t k) db)) e ∙ g)) a.1)
    where
      weaker : (rows : List Row) → AllByRecursion P rows → AllByRecursion Q rows
      weaker [] x = tt
      weaker (y ∷ rows) x = (others y x.0, weaker rows x.1)

      by : (b : Bool) → is_at t k r ≡ b → (is_at t k r ≡ false → AllByRecursion Q (change_row t k change db))
          → AllByRecursion Q (if b then (change r ∷ db) else (r ∷ change_row t k change db))
      by true e ih = (h r (ap (λ b. cond b (Some r) (find (is_at t k) db)) e) e a.0, weaker db a.1)
      by false e ih = (others r a.0, ih e)

-- ---- how many rows

pub length-put : (new : Row) (db : List Row) → length (put new db) ≤ length db + 1
length-put new [] = omega arith
length-put new (r ∷ db) = by (compared new.table new.key.parts r) (length-put new db)
  where
    by : (o : Ordering) → length (put new db) ≤ length db + 1 → length (put_here o new r db (put new db)) ≤ suc (length db) + 1
    by Less ih = omega arith
    by Equal ih = omega arith
    by Greater ih = omega arith

pub length-drop_row : (t : ℕ) (k : List ℤ) (db : List Row) → length (drop_row t k db) ≤ length db
length-drop_row t k [] = omega arith
length-drop_row t k (r ∷ db) = by (is_at t k r) (length-drop_row t k db)
  where
    by : (b : Bool) → length (drop_row t k db) ≤ length db → length (if b then db else (r ∷ drop_row t k db)) ≤ suc (length db)
    by true ih = omega arith
    by false ih = omega arith

pub length-change_row : (t : ℕ) (k : List ℤ) (change : Row → Row) (db : List Row) → length (change_row t k change db) ≡ length db
length-change_row t k change [] = refl
length-change_row t k change (r ∷ db) = by (is_at t k r) (length-change_row t k change db)
  where
    by : (b : Bool) → length (change_row t k change db) ≡ length db
        → length (if b then (change r ∷ db) else (r ∷ change_row t k change db)) ≡ suc (length db)
    by true ih = refl
    by false ih = ap suc ih
