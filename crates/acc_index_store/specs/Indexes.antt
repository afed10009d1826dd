-- Totals of a table's rows, under the prefixes of one length.
use Rattle.std.specs.Prelude.{◌≡◌, ◌≤◌, ℕ, Bool, true, not, ◌&&◌, ◌||◌, ◌==◌, nat_le, if◌then◌else◌, List, length, take, filter}
use Rattle.std.specs.Prelude.{count_by, find}
use Rattle.std.specs.Prelude.{All, Option, Some, None, ℤ, pos, unsigned_abs}
use Rattle.std.specs.List.{list_any, list_all}
use Rattle.std.specs.Ordering.{is_eq}
use Rattle.acc_base.specs.declared.bounds.TheConstants.{LARGEST_SUM}
use Rattle.acc_base.specs.declared.tables.Row.{Row}
use Rattle.acc_base.specs.Tables.{Place, place_of, place_cmp, is_at, is_under, cell, sum_of}
use Rattle.acc_store.specs.declared.writes.Write.{Write}
use Rattle.acc_store.specs.declared.writes.Write.TheVariants.{Row as Puts, Gone}
use Rattle.acc_index_store.specs.declared.prefixes.Prefixes.{Prefixes}
use Rattle.acc_index_store.specs.declared.indexes.Index.{Index}
use Rattle.acc_index_store.specs.declared.totals.TheConstants.{UNCOUNTED}
use Rattle.acc_index_store.specs.declared.totals.Total.{Total}
use Rattle.acc_index_store.specs.declared.totals.Way.{Way}
use Rattle.acc_index_store.specs.declared.totals.Way.TheVariants.{In, Out}
use Rattle.acc_index_store.specs.Totals.{Counts, Entries, counted, found, has_total}

-- ---- writes

-- the place that a write names
abbrev pub place_written : Write → Place
place_written (Puts r) = place_of r
place_written (Gone t k) = (t, k.parts)

abbrev pub names : Place → Write → Bool
names p w = is_eq (place_cmp p (place_written w))

-- whether one of some writes names the place
abbrev pub are_naming : List Write → Place → Bool
are_naming ws p = list_any (names p) ws

-- the rows that no write names
abbrev pub others : List Write → List Row → List Row
others ws rows = filter (λ r. not (are_naming ws (place_of r))) rows

-- the row at the place that a write names
abbrev pub row_named : Write → List Row → Option Row
row_named w rows = find (is_at (place_written w).0 (place_written w).1) rows

-- ---- prefixes

-- the prefix under which a row at a place counts, if rows like it are counted
abbrev pub prefix_at : Prefixes → Place → Option (List ℤ)
prefix_at k p = if (k.table == p.0) && nat_le k.parts (length p.1) then Some (take k.parts p.1) else None

-- the value that a row adds under a prefix, if its key begins with it
abbrev pub share : Prefixes → List ℤ → Option Row → Option ℤ
share k p None = None
share k p (Some r) = if is_under k.table p r then Some (cell k.col r) else None

-- ---- totals

-- the total is that of the rows under a prefix
pub record IsTotal (k : Prefixes) (p : List ℤ) (rows : List Row) (v : Total) : Type 0 where
  pub number : Counts v.rows (count_by (is_under k.table p) rows)
  pub sum : v.sum ≡ sum_of rows k.table p k.col

abbrev pub AreTotals : Prefixes → List Row → Entries → Type 0
AreTotals k rows es = (p : List ℤ) → length p ≡ k.parts → IsTotal k p rows (found p es)

-- where no row counts, nothing adds up
abbrev pub AreNone : Prefixes → Entries → Type 0
AreNone k es = (p : List ℤ) → length p ≡ k.parts → (found p es).rows ≡ 0 → (found p es).sum ≡ pos 0

-- the row of a place, if there is one, came into the totals or went out of them
abbrev pub Moves : Prefixes → Way → Option Row → Entries → Entries → Type 0
Moves k way o es fs = (p : List ℤ) → length p ≡ k.parts → found p fs ≡ counted way (share k p o) (found p es)

abbrev pub CanMove : Prefixes → Way → Option Row → Entries → Type 0
CanMove k way o es = (p : List ℤ) → length p ≡ k.parts → unsigned_abs (counted way (share k p o) (found p es)).sum ≤ LARGEST_SUM

-- ---- room

abbrev pub has_prefix : Entries → Option (List ℤ) → Bool
has_prefix es None = true
has_prefix es (Some p) = has_total es p

-- there is a total under the prefix of what a write names
abbrev pub has_room : Prefixes → Entries → Write → Bool
has_room k es w = has_prefix es (prefix_at k (place_written w))

abbrev pub HaveRoom : Prefixes → List Write → Entries → Type 0
HaveRoom k ws es = list_all (has_room k es) ws ≡ true

-- ---- a batch

-- the rows that are counted once some first writes were gone through: those that writes name go out and come in again
abbrev pub is_counted : Way → List Write → List Write → Row → Bool
is_counted Out ws done r = not (are_naming done (place_of r))
is_counted In ws done r = not (are_naming ws (place_of r)) || are_naming done (place_of r)

abbrev pub before : Way → List Write → List Row → List Row
before Out ws rows = rows
before In ws rows = others ws rows

abbrev pub behind : Way → List Write → List Row → List Row
behind Out ws rows = others ws rows
behind In ws rows = rows

-- ---- indexes

abbrev pub IsIndexOf : List Row → Index → Type 0
IsIndexOf rows x = AreTotals x.kept rows x.totals.entries

abbrev pub AreIndexes : List Row → List Index → Type 0
AreIndexes rows xs = All (IsIndexOf rows) xs

-- what is an index of some rows still is
abbrev pub StayIndexes : List Index → List Index → Type 0
StayIndexes xs ys = (rows : List Row) → AreIndexes rows xs → AreIndexes rows ys

abbrev pub HaveNone : List Index → Type 0
HaveNone xs = All (λ x. AreNone x.kept x.totals.entries) xs

abbrev pub HaveAllRoom : List Write → List Index → Type 0
HaveAllRoom ws xs = All (λ x. HaveRoom x.kept ws x.totals.entries) xs

-- ---- answers

-- the number of rows, where it is known
abbrev pub known_number : Total → Option ℕ
known_number v = if v.rows == UNCOUNTED then None else Some v.rows

abbrev pub number_in : Index → ℕ → List ℤ → Option ℕ
number_in x t p = if (x.kept.table == t) && (x.kept.parts == length p) then known_number (found p x.totals.entries) else None

abbrev pub sum_in : Index → ℕ → List ℤ → ℕ → Option ℤ
sum_in x t p c = if (x.kept.table == t) && (x.kept.parts == length p) && (x.kept.col == c) then Some (found p x.totals.entries).sum else
    None
