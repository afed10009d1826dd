-- The rows of a store with writes over them, a place at a time.
use Rattle.std.specs.Prelude.{◌≤◌, ℕ, Bool, true, List, [], ◌∷◌, ◌++◌, length, Option, Some, None, IfSome, find, if◌then◌else◌, ℤ, pos}
use Rattle.std.specs.Prelude.{◌+ℤ◌, slice_set, slice_index_or}
use Rattle.std.specs.Ordering.{is_eq}
use Rattle.acc_base.specs.declared.bounds.TheConstants.{MOST_COLUMNS}
use Rattle.acc_base.specs.declared.tables.Row.{Row}
use Rattle.acc_base.specs.declared.designs.Side.{Side}
use Rattle.acc_base.specs.declared.designs.Side.TheVariants.{Next, Undo}
use Rattle.acc_base.specs.Numbers.{is_small}
use Rattle.acc_base.specs.Tables.{Place, place_cmp, is_at}
use Rattle.acc_store.specs.declared.writes.Write.{Write}
use Rattle.acc_store.specs.declared.writes.Write.TheVariants.{Row as Puts, Gone}
use Rattle.acc_store.specs.Rows.{row_of, columns_of}

-- the columns of the row at a place, if there is one
abbrev pub columns_at : Place → List Row → Option (List ℤ)
columns_at p db = columns_of (find (is_at p.0 p.1) db)

-- the columns at a place after a write, and after writes
abbrev pub columns_step : Place → Write → Option (List ℤ) → Option (List ℤ)
columns_step p (Puts r) old = if is_at p.0 p.1 r then Some r.cols else old
columns_step p (Gone t k) old = if is_eq (place_cmp p (t, k.parts)) then None else old

abbrev pub columns_after : Place → List Write → Option (List ℤ) → Option (List ℤ)
columns_after p [] old = old
columns_after p (w ∷ ws) old = columns_after p ws (columns_step p w old)

-- the columns of a row, if there is one, are at most 12
abbrev pub AreFew : Option (List ℤ) → Type 0
AreFew cols = IfSome cols (λ c. length c ≤ MOST_COLUMNS)

-- ---- the writes of changes

-- the row with one column set
abbrev pub put_with : Place → ℕ → ℤ → List ℤ → Write
put_with p c v cols = Puts (row_of p (slice_set cols c v))

-- the write that sets a column of the row at a place, given its columns; an absent row needs none
abbrev pub set_of : Place → ℕ → ℤ → Option (List ℤ) → Option Write
set_of p c v None = None
set_of p c v (Some cols) = Some (put_with p c v cols)

-- whether a sum may be stored: a forward step stores numbers in range alone
abbrev pub may_store : Side → ℤ → Bool
may_store Next v = is_small v
may_store Undo v = true

abbrev pub sum_in : ℕ → ℤ → List ℤ → ℤ
sum_in c v cols = slice_index_or cols c (pos 0) +ℤ v

-- the write that adds to a column, or none at all where the sum may not be stored
abbrev pub add_of : Side → Place → ℕ → ℤ → Option (List ℤ) → Option (Option Write)
add_of side p c v None = Some None
add_of side p c v (Some cols) = if may_store side (sum_in c v cols) then Some (Some (put_with p c (sum_in c v cols) cols)) else None

-- writes, and one more if there is one
abbrev pub with_write : List Write → Option Write → List Write
with_write ws None = ws
with_write ws (Some w) = ws ++ w ∷ []
