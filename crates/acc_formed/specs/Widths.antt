-- Rules 2, 3 and 10: how many components keys and prefixes have, one value a column, and whose rows private tables hold.
use Rattle.std.specs.Prelude.{ℕ, ◌-◌, Bool, true, false, not, ◌&&◌, ◌||◌, ◌==◌, nat_le, nat_lt, List, [], ◌∷◌, length, Option, Some, None}
use Rattle.std.specs.Prelude.{slice_get, ℤ, pos}
use Rattle.std.specs.List.{list_all}
use Rattle.std.specs.Ordering.{int_eq}
use Rattle.acc_base.specs.declared.forms.Lin.{Lin}
use Rattle.acc_base.specs.declared.forms.Atom.{Atom}
use Rattle.acc_base.specs.declared.forms.Unknown.{Unknown}
use Rattle.acc_base.specs.declared.forms.Rel.{Rel}
use Rattle.acc_base.specs.declared.forms.Clause.{Clause}
use Rattle.acc_base.specs.declared.tables.Table.{Table}
use Rattle.acc_base.specs.declared.steps.Read.{Read}
use Rattle.acc_base.specs.declared.steps.Read.TheVariants as read
use Rattle.acc_base.specs.declared.steps.Action.{Action}
use Rattle.acc_base.specs.declared.steps.Action.TheVariants as action
use Rattle.acc_base.specs.Atoms.{table_of, key_of, is_of_prefix}

-- ---- rule 2: a key has as many components as the table's width, a prefix 1 up to the width, a row that is put a value a column

-- as many components as the table has in its keys
abbrev pub is_key : Option Table → List Lin → Bool
is_key None k = false
is_key (Some t) k = length k == t.width

-- 1 component up to the whole key
abbrev pub is_prefix : Option Table → List Lin → Bool
is_prefix None p = false
is_prefix (Some t) p = nat_le 1 (length p) && nat_le (length p) t.width

-- a value for each column
abbrev pub fills : Option Table → List Lin → Bool
fills None vs = false
fills (Some t) vs = length vs == length t.cols

-- a key of a table, or a prefix; where no table is named, there is neither
abbrev pub key_fits : List Table → Option ℕ → Bool → List Lin → Bool
key_fits tables None of_prefix k = true
key_fits tables (Some t) true k = is_prefix (slice_get tables t) k
key_fits tables (Some t) false k = is_key (slice_get tables t) k

-- an atom of rows names a key or a prefix
abbrev pub atom_fits : List Table → Atom → Bool
atom_fits tables a = key_fits tables (table_of a) (is_of_prefix a) (key_of a)

-- an atom and its coefficient
abbrev pub product_fits : List Table → Unknown × ℤ → Bool
product_fits tables t = atom_fits tables t.0.atom

-- a relation of forms
abbrev pub rel_fits : List Table → Rel → Bool
rel_fits tables r = list_all (product_fits tables) r.form.terms

-- the guards of a clause, and what it says
abbrev pub clause_fits : List Table → Clause → Bool
clause_fits tables c = list_all (rel_fits tables) c.guards && rel_fits tables c.rel

-- a read names a key or a prefix
abbrev pub read_fits : List Table → Read → Bool
read_fits tables (read.Let x v) = true
read_fits tables (read.Col x t k c) = is_key (slice_get tables t) k
read_fits tables (read.Has x t k) = is_key (slice_get tables t) k
read_fits tables (read.Count x t p) = is_prefix (slice_get tables t) p
read_fits tables (read.Sum x t p c) = is_prefix (slice_get tables t) p
read_fits tables (read.Least x t p) = true
read_fits tables (read.Greatest x t p) = true
read_fits tables (read.Take x) = true
read_fits tables (read.Mul x y z) = true
read_fits tables (read.Div x y c) = true

-- an action names a key
abbrev pub action_fits : List Table → Action → Bool
action_fits tables (action.Put t k vs) = is_key (slice_get tables t) k && fills (slice_get tables t) vs
action_fits tables (action.Del t k) = is_key (slice_get tables t) k
action_fits tables (action.Set t k c v) = is_key (slice_get tables t) k
action_fits tables (action.Add t k c v) = is_key (slice_get tables t) k

-- ---- rule 3: a prefix whose next component is looked for is shorter than the width

-- fewer components than the whole key
abbrev pub is_short_prefix : Option Table → List Lin → Bool
is_short_prefix None p = false
is_short_prefix (Some t) p = nat_lt (length p) t.width

-- a read for the least or the greatest component
abbrev pub read_leaves_a_component : List Table → Read → Bool
read_leaves_a_component tables (read.Let x v) = true
read_leaves_a_component tables (read.Col x t k c) = true
read_leaves_a_component tables (read.Has x t k) = true
read_leaves_a_component tables (read.Count x t p) = true
read_leaves_a_component tables (read.Sum x t p c) = true
read_leaves_a_component tables (read.Least x t p) = is_short_prefix (slice_get tables t) p
read_leaves_a_component tables (read.Greatest x t p) = is_short_prefix (slice_get tables t) p
read_leaves_a_component tables (read.Take x) = true
read_leaves_a_component tables (read.Mul x y z) = true
read_leaves_a_component tables (read.Div x y c) = true

-- ---- rule 10: a write to a private table has `self` alone as last component of its key

-- one coefficient: the variable, once
abbrev pub is_once : ℕ → List (ℕ × ℤ) → Bool
is_once x [] = false
is_once x (t ∷ []) = (t.0 == x) && int_eq t.1 (pos 1)
is_once x (t ∷ u ∷ rest) = false

-- the variable alone
abbrev pub is_variable : ℕ → Lin → Bool
is_variable x l = is_once x l.coeffs && int_eq l.constant (pos 0)

-- a component is there, and is `self` alone
abbrev pub is_own_component : ℕ → Option Lin → Bool
is_own_component me None = false
is_own_component me (Some l) = is_variable me l

-- by its last component
abbrev pub is_own_key : ℕ → List Lin → Bool
is_own_key me k = is_own_component me (slice_get k (length k - 1))

-- a table that is private takes its owner's keys alone
abbrev pub may_write : Option Table → ℕ → List Lin → Bool
may_write None me k = false
may_write (Some t) me k = not t.own || is_own_key me k

-- where `self` is this variable
abbrev pub action_is_own : List Table → ℕ → Action → Bool
action_is_own tables me (action.Put t k vs) = may_write (slice_get tables t) me k
action_is_own tables me (action.Del t k) = may_write (slice_get tables t) me k
action_is_own tables me (action.Set t k c v) = may_write (slice_get tables t) me k
action_is_own tables me (action.Add t k c v) = may_write (slice_get tables t) me k
