-- The entries of a map as rows. A blank entry is no row.
use Rattle.std.specs.Prelude.{◌≡◌, ℕ, ◌≤◌, Bool, true, false, not, ◌&&◌, ◌||◌, ◌==◌, List, [], ◌∷◌, length, filter, Option, Some, None}
use Rattle.std.specs.Prelude.{is_some, is_none, nat_le, slice_get, slice_index_or, ℤ, pos, ⊤, unsigned_abs, All, ◌≤ℤ◌}
use Rattle.std.specs.List.{list_any, starts_with, sum_by, AllByRecursion}
use Rattle.std.specs.Ordering.{int_eq}
use Rattle.std.specs.List.Sorted.{IsStrictlySortedBy}
use Rattle.std.specs.Map.{keys_of, lookup}
use Rattle.std.specs.BTreeMap.{is_at as at}
use Rattle.acc_base.specs.declared.bounds.TheConstants.{LARGEST_SUM, MOST_COLUMNS, MOST_KEY_PARTS}
use Rattle.acc_base.specs.declared.tables.Row.{Row}
use Rattle.acc_base.specs.Tables.{Place, place_of, place_cmp, put, drop_row, cell}
use Rattle.acc_store.specs.Contents.{Content}
use Rattle.acc_store.specs.Places.{top}
use Rattle.acc_store.specs.declared.writes.Write.{Write}
use Rattle.acc_store.specs.declared.writes.Write.TheVariants.{Row as Puts, Gone}

abbrev pub Entry : Type 0
Entry = Place × Content

abbrev pub row_of : Place → List ℤ → Row
row_of p cols = record { table = p.0; key = record { parts = p.1 }; cols = cols }

abbrev pub with_row : Place → Option (List ℤ) → List Row → List Row
with_row p None rows = rows
with_row p (Some cols) rows = row_of p cols ∷ rows

-- the rows, in the order of the entries
abbrev pub live : List Entry → List Row
live [] = []
live (e ∷ es) = with_row e.0 e.1.cells (live es)

abbrev pub entry_at : Place → List Entry → Option Content
entry_at p es = lookup (at (place_cmp p)) es

-- what a look-up finds, where a blank counts as nothing
abbrev pub flat : Option Content → Option (List ℤ)
flat None = None
flat (Some s) = s.cells

abbrev pub cells_at : Place → List Entry → Option (List ℤ)
cells_at p es = flat (entry_at p es)

-- how many rows an entry is
abbrev pub one_in : Option (List ℤ) → ℕ
one_in None = 0
one_in (Some cols) = 1

-- the columns of a row, if there is one
abbrev pub columns_of : Option Row → Option (List ℤ)
columns_of None = None
columns_of (Some r) = Some r.cols

abbrev pub column_in : ℕ → Option (List ℤ) → ℤ
column_in c None = pos 0
column_in c (Some cols) = slice_index_or cols c (pos 0)

-- the keys rise
abbrev pub IsUp : List Entry → Type 0
IsUp es = IsStrictlySortedBy place_cmp (keys_of es)

-- a key is short, and its parts are of 64 bits
pub record IsFit (p : Place) : Type 0 where
  pub short : length p.1 ≤ MOST_KEY_PARTS
  pub parts : All (λ x. x ≤ℤ top) p.1

abbrev pub AreFit : List Entry → Type 0
AreFit es = AllByRecursion IsFit (keys_of es)

-- whether a place is of a table and its key begins with a prefix
abbrev pub is_below : ℕ → List ℤ → Place → Bool
is_below t p q = (q.0 == t) && starts_with int_eq q.1 p

-- the entries whose keys begin with a prefix
abbrev pub entries_below : ℕ → List ℤ → List Entry → List Entry
entries_below t p es = filter (λ e. is_below t p e.0) es

-- ---- the parts of keys after a prefix

-- the part at place n of the key of an entry that is not blank
abbrev pub part_in : ℕ → Place → Option (List ℤ) → Option ℤ
part_in n p None = None
part_in n p (Some cols) = slice_get p.1 n

-- no number is above a later one
abbrev pub IsRising : List ℤ → Type 0
IsRising [] = ⊤
IsRising (x ∷ xs) = AllByRecursion (λ y. x ≤ℤ y) xs × IsRising xs

-- ---- writes

abbrev pub write : Write → List Row → List Row
write (Puts r) rows = put r rows
write (Gone t k) rows = drop_row t k.parts rows

-- the rows after writes, one after the other
abbrev pub written : List Write → List Row → List Row
written [] rows = rows
written (w ∷ ws) rows = written ws (write w rows)

-- a row that is put has a key of at most 6 parts and at most 12 columns
abbrev pub IsNarrow : Write → Type 0
IsNarrow (Puts r) = (length r.key.parts ≤ MOST_KEY_PARTS) × (length r.cols ≤ MOST_COLUMNS)
IsNarrow (Gone t k) = ⊤

-- ---- room for writes

abbrev pub has_entry : List Entry → Place → Bool
has_entry es p = is_some (entry_at p es)

abbrev pub is_blank : Option Content → Bool
is_blank None = false
is_blank (Some s) = is_none s.cells

abbrev pub is_blank_at : List Entry → Place → Bool
is_blank_at es p = is_blank (entry_at p es)

abbrev pub can_hold : ℕ → Option Content → Bool
can_hold n None = false
can_hold n (Some s) = nat_le n s.room

-- whether there is an entry with room for n cells
abbrev pub has_room_at : List Entry → Place → ℕ → Bool
has_room_at es p n = can_hold n (entry_at p es)

-- no entry is lost, and none has less room
abbrev pub KeepsRoom : List Entry → List Entry → Type 0
KeepsRoom es fs = (p : Place) (n : ℕ) → has_room_at es p n ≡ true → has_room_at fs p n ≡ true

-- whether the row that is written has room
abbrev pub has_room : List Entry → Write → Bool
has_room es (Puts r) = has_room_at es (place_of r) (length r.cols)
has_room es (Gone t k) = true

-- ---- sums

-- the rows of a table
abbrev pub in_table : ℕ → List Row → List Row
in_table t rows = filter (λ r. r.table == t) rows

-- the absolute values of each column of each table add up to at most 2^120
abbrev pub SumsFit : List Row → Type 0
SumsFit rows = (t c : ℕ) → sum_by (λ r. unsigned_abs (cell c r)) (in_table t rows) ≤ LARGEST_SUM

-- ---- blank entries

-- whether a write puts a row at a place, and whether it drops the row there
abbrev pub is_put : Place → Write → Bool
is_put p (Puts r) = at (place_cmp (place_of r)) p
is_put p (Gone t k) = false

abbrev pub is_gone : Place → Write → Bool
is_gone p (Puts r) = false
is_gone p (Gone t k) = at (place_cmp (t, k.parts)) p

-- whether a write can leave a blank at a place: by its room, or where rows were put by the row that it drops
abbrev pub leaves_blank : Bool → Place → Write → Bool
leaves_blank true p w = is_gone p w
leaves_blank false p w = is_put p w

-- no entry is blank
abbrev pub HasNoBlank : List Entry → Type 0
HasNoBlank es = (p : Place) → is_blank_at es p ≡ false

-- blank entries stand where a write passes the test
abbrev pub BlanksAre : (Place → Write → Bool) → List Write → List Entry → Type 0
BlanksAre test ws es = (p : Place) → is_blank_at es p ≡ true → list_any (test p) ws ≡ true

-- blank entries came at most where the test passes
abbrev pub AddsBlanks : (Place → Bool) → List Entry → List Entry → Type 0
AddsBlanks test es fs = (p : Place) → is_blank_at fs p ≡ true → (is_blank_at es p || test p) ≡ true

-- none came, and none are where the test passes
abbrev pub ClearsBlanks : (Place → Bool) → List Entry → List Entry → Type 0
ClearsBlanks test es fs = (p : Place) → is_blank_at fs p ≡ true → (is_blank_at es p && not (test p)) ≡ true

-- a blank entry is where a row was dropped, or was there and no row was put
abbrev pub WritesBlanks : Write → List Entry → List Entry → Type 0
WritesBlanks w es fs = (p : Place) → is_blank_at fs p ≡ true → (is_gone p w || (is_blank_at es p && not (is_put p w))) ≡ true
