-- Private rows: whose they are, and which types make them. A private table's rows end in the number of their transaction.
-- Soundness, the invariant of runs and true obligations speak of them.
use Rattle.std.specs.Prelude.{◌≡◌, ℕ, ◌-◌, Bool, false, ◌||◌, ◌==◌, IsTrue, List, length, All, Option, Some, None, slice_get, ℤ}
use Rattle.std.specs.List.{list_any}
use Rattle.acc_base.specs.declared.tables.Row.{Row}
use Rattle.acc_base.specs.declared.tables.Table.{Table}
use Rattle.acc_base.specs.declared.steps.Action.{Action}
use Rattle.acc_base.specs.declared.steps.Action.TheVariants.{Put, Del, Set, Add}
use Rattle.acc_base.specs.declared.steps.Path.{Path}
use Rattle.acc_base.specs.declared.steps.Step.{Step}
use Rattle.acc_base.specs.declared.designs.Design.{Design}
use Rattle.acc_base.specs.declared.designs.TxType.{TxType}
use Rattle.acc_base.specs.declared.designs.Point.{Point}

-- ---- whose a row is

abbrev pub is_own_table : Option Table → Bool
is_own_table None = false
is_own_table (Some t) = t.own

abbrev pub last_is : ℤ → Option ℤ → Type 0
last_is n None = ⊥
last_is n (Some k) = k ≡ n

-- the row is of a private table, and its key ends in this number
pub record IsPrivateOf (d : Design) (t : ℤ) (r : Row) : Type 0 where
  pub own : IsTrue (is_own_table (slice_get d.tables r.table))
  pub ends : last_is t (slice_get r.key.parts (length r.key.parts - 1))

-- no private row ends in this number
abbrev pub HasNoPrivate : Design → ℤ → List Row → Type 0
HasNoPrivate d t db = All (λ r. ¬ IsPrivateOf d t r) db

-- ---- which types put rows into a table

abbrev pub puts_into : ℕ → Action → Bool
puts_into t (Put u k vs) = u == t
puts_into t (Del u k) = false
puts_into t (Set u k c v) = false
puts_into t (Add u k c v) = false

abbrev pub step_puts : ℕ → Step → Bool
step_puts t s = list_any (λ (p : Path). list_any (puts_into t) p.actions) s.paths

-- a step of the type has a path that puts into the table
abbrev pub type_puts : ℕ → Option TxType → Bool
type_puts t None = false
type_puts t (Some x) = list_any (λ (p : Point). step_puts t p.next || step_puts t p.undo) x.points

-- no row of a private table that the type puts into ends in this number
abbrev pub HasNoneOf : Design → ℕ → ℤ → List Row → Type 0
HasNoneOf d ty t db =
    All (λ r. IsTrue (type_puts r.table (slice_get d.types ty)) → ¬ IsPrivateOf d t r) db
