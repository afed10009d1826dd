-- The values over which a variable of a clause ranges.
use Rattle.std.specs.Prelude.{◌≡◌, ℕ, ◌+◌, ◌==◌, Bool, false, ◌&&◌, ◌||◌, List, [], ◌∷◌, Option, Some, None, slice_get, ℤ, pos}
use Rattle.std.specs.List.{list_any}
use Rattle.std.specs.List.Sorted.{IsStrictlySortedBy}
use Rattle.std.specs.Ordering.{int_cmp, is_eq}
use Rattle.std.specs.BTreeSet.{BTreeSet, contains}
use Rattle.acc_base.specs.declared.tables.Row.{Row}
use Rattle.acc_base.specs.declared.forms.Lin.{Lin}
use Rattle.acc_base.specs.declared.forms.Atom.{Atom}
use Rattle.acc_base.specs.declared.forms.Rel.{Rel}
use Rattle.acc_base.specs.declared.forms.Clause.{Clause}
use Rattle.acc_base.specs.Atoms.{table_of, key_of}
use Rattle.acc_base.specs.Sums.{Term}
use Rattle.acc_formed.specs.Widths.{is_variable}

-- two numbers are the same
abbrev pub same : ℤ → ℤ → Bool
same x q = is_eq (int_cmp x q)

-- what passes the test was added to a set, and nothing else
abbrev pub Adds : (ℤ → Bool) → BTreeSet ℤ → BTreeSet ℤ → Type 0
Adds test old new = (q : ℤ) → contains int_cmp new q ≡ (contains int_cmp old q || test q)

-- ---- components of keys

abbrev pub is_part : ℤ → Option ℤ → Bool
is_part q None = false
is_part q (Some x) = same x q

-- whether a row of the table has q at place j of its key
abbrev pub has_part : ℕ → ℕ → ℤ → Row → Bool
has_part t j q r = (r.table == t) && is_part q (slice_get r.key.parts j)

abbrev pub parts_have : List Row → ℕ → ℕ → ℤ → Bool
parts_have db t j q = list_any (has_part t j q) db

-- whether rows of a table have q where the variable stands alone in a key, whose first component is at place j
abbrev pub key_gives : List Row → ℕ → ℕ → ℤ → ℕ → List Lin → Bool
key_gives db t v q j [] = false
key_gives db t v q j (l ∷ ls) = (is_variable v l && parts_have db t j q) || key_gives db t v q (j + 1) ls

abbrev pub table_gives : List Row → Option ℕ → ℕ → ℤ → List Lin → Bool
table_gives db None v q k = false
table_gives db (Some t) v q k = key_gives db t v q 0 k

-- the same of an atom's key or prefix, of a relation, and of a clause
abbrev pub atom_gives : List Row → ℕ → ℤ → Atom → Bool
atom_gives db v q a = table_gives db (table_of a) v q (key_of a)

abbrev pub term_gives : List Row → ℕ → ℤ → Term → Bool
term_gives db v q t = atom_gives db v q t.0.atom

abbrev pub rel_gives : List Row → ℕ → ℤ → Rel → Bool
rel_gives db v q r = list_any (term_gives db v q) r.form.terms

abbrev pub clause_gives : List Row → ℕ → ℤ → Clause → Bool
clause_gives db v q c = list_any (rel_gives db v q) c.guards || rel_gives db v q c.rel

-- ---- ranges

-- whether q is 0, or the value of a variable outside the clause, or what a row has where variable v stands alone
abbrev pub is_in_range : List Row → List ℤ → Clause → ℕ → ℤ → Bool
is_in_range db env c v q = (same (pos 0) q || list_any (λ x. same x q) env) || clause_gives db v q c

-- these are the values over which variable v ranges, in ascending order
pub record IsRange (db : List Row) (env : List ℤ) (c : Clause) (v : ℕ) (values : List ℤ) : Type 0 where
  pub rising : IsStrictlySortedBy int_cmp values
  pub each : (q : ℤ) → list_any (same q) values ≡ is_in_range db env c v q
