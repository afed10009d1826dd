-- Rule 4: the limits, within a statement: names of 32 bytes, numbers within 2^45, and short lists. Numbers that are coefficients
-- count as they are collected.
use Rattle.std.specs.Prelude.{ℕ, Bool, true, ◌&&◌, nat_le, List, length, ℤ, Option, Some, None, slice_get}
use Rattle.std.specs.List.{list_all}
use Rattle.acc_base.specs.declared.bounds.TheConstants.{LONGEST_NAME, MOST_COLUMNS, MOST_GUARDS, MOST_KEY_PARTS, MOST_VARIABLES}
use Rattle.acc_base.specs.declared.forms.Lin.{Lin}
use Rattle.acc_base.specs.declared.forms.LinRel.{LinRel}
use Rattle.acc_base.specs.declared.forms.Atom.{Atom}
use Rattle.acc_base.specs.declared.forms.Unknown.{Unknown}
use Rattle.acc_base.specs.declared.forms.Rel.{Rel}
use Rattle.acc_base.specs.declared.forms.Clause.{Clause}
use Rattle.acc_base.specs.declared.tables.Table.{Table}
use Rattle.acc_base.specs.declared.steps.Read.{Read}
use Rattle.acc_base.specs.declared.steps.Read.TheVariants as read
use Rattle.acc_base.specs.declared.steps.Action.{Action}
use Rattle.acc_base.specs.declared.steps.Action.TheVariants as action
use Rattle.acc_base.specs.declared.steps.Target.{Target}
use Rattle.acc_base.specs.declared.steps.Target.TheVariants as target
use Rattle.acc_base.specs.declared.designs.Point.{Point}
use Rattle.acc_base.specs.Atoms.{key_of}
use Rattle.acc_base.specs.Numbers.{is_small}

-- a name
abbrev pub is_short : List ℕ → Bool
is_short name = nat_le (length name) LONGEST_NAME

-- a name, where there is one
abbrev pub is_short_or_none : Option (List ℕ) → Bool
is_short_or_none None = true
is_short_or_none (Some name) = is_short name

-- a coefficient
abbrev pub term_small : ℕ × ℤ → Bool
term_small t = is_small t.1

-- the coefficients and the constant of a linear value
abbrev pub lin_small : Lin → Bool
lin_small l = list_all term_small l.coeffs && is_small l.constant

-- a relation of linear values
abbrev pub lin_rel_small : LinRel → Bool
lin_rel_small r = lin_small r.lin

-- the key or the prefix of an atom
abbrev pub atom_small : Atom → Bool
atom_small a = list_all lin_small (key_of a)

-- an atom and its coefficient
abbrev pub product_small : Unknown × ℤ → Bool
product_small t = atom_small t.0.atom && is_small t.1

-- a relation of forms
abbrev pub rel_small : Rel → Bool
rel_small r = list_all product_small r.form.terms && is_small r.form.constant

-- at most 8 variables, and 16 guards
abbrev pub clause_small : Clause → Bool
clause_small c =
    nat_le (length c.vars) MOST_VARIABLES && list_all is_short c.vars && nat_le (length c.guards) MOST_GUARDS
    && list_all rel_small c.guards && rel_small c.rel

-- a key has 1 to 6 components, a row at most 12 columns
abbrev pub table_small : Table → Bool
table_small t =
    is_short t.name && nat_le 1 t.width && nat_le t.width MOST_KEY_PARTS && nat_le (length t.cols) MOST_COLUMNS && list_all is_short t.cols

-- the numbers of a read, the divisor among them
abbrev pub read_small : Read → Bool
read_small (read.Let x v) = lin_small v
read_small (read.Col x t k c) = list_all lin_small k
read_small (read.Has x t k) = list_all lin_small k
read_small (read.Count x t p) = list_all lin_small p
read_small (read.Sum x t p c) = list_all lin_small p
read_small (read.Least x t p) = list_all lin_small p
read_small (read.Greatest x t p) = list_all lin_small p
read_small (read.Take x) = true
read_small (read.Mul x y z) = true
read_small (read.Div x y c) = is_small c

-- the numbers of an action
abbrev pub action_small : Action → Bool
action_small (action.Put t k vs) = list_all lin_small k && list_all lin_small vs
action_small (action.Del t k) = list_all lin_small k
action_small (action.Set t k c v) = list_all lin_small k && lin_small v
action_small (action.Add t k c v) = list_all lin_small k && lin_small v

-- at most 16 relations
abbrev pub guard_small : List LinRel → Bool
guard_small guard = nat_le (length guard) MOST_GUARDS && list_all lin_rel_small guard

-- the name of a point
abbrev pub point_small : Option Point → Bool
point_small None = true
point_small (Some p) = is_short p.name

-- the name of the point that a path leads to
abbrev pub target_small : List Point → Target → Bool
target_small points (target.Point p) = point_small (slice_get points p)
target_small points target.Commit = true
target_small points target.Undone = true
target_small points (target.Refuse n) = true

-- the names of the locals that are returned
abbrev pub returns_small : List (List ℕ) → List ℕ → Bool
returns_small locals returns = list_all (λ x. is_short_or_none (slice_get locals x)) returns
