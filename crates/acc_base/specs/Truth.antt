-- When an assertion is true of rows and of values for its variables.
use Rattle.std.specs.Prelude.{◌≡◌, Bool, IsTrue, if◌then◌else◌, List, ◌++◌, length, map, ℤ, pos, ◌+ℤ◌, ◌*ℤ◌}
use Rattle.std.specs.List.{list_all}
use Rattle.std.specs.Ordering.{int_eq}
use Rattle.acc_base.specs.declared.tables.Row.{Row}
use Rattle.acc_base.specs.declared.forms.Lin.{Lin}
use Rattle.acc_base.specs.declared.forms.Atom.{Atom}
use Rattle.acc_base.specs.declared.forms.Atom.TheVariants.{One, Var, Has, Col, Count, Sum}
use Rattle.acc_base.specs.declared.forms.Unknown.{Unknown}
use Rattle.acc_base.specs.declared.forms.Form.{Form}
use Rattle.acc_base.specs.declared.forms.Rel.{Rel}
use Rattle.acc_base.specs.declared.forms.Clause.{Clause}
use Rattle.acc_base.specs.Numbers.{total}
use Rattle.acc_base.specs.Linear.{var, lin_value, lin_values, meets}
use Rattle.acc_base.specs.Tables.{has_row, column_of, count_of, sum_of}

-- the value of an atom: the number 1, a variable, or what the rows give at a key or under a prefix
abbrev pub atom_value : List Row → List ℤ → Atom → ℤ
atom_value db env One = pos 1
atom_value db env (Var x) = var env x
atom_value db env (Has t k) = has_row db t (lin_values env k)
atom_value db env (Col t k c) = column_of db t (lin_values env k) c
atom_value db env (Count t p) = count_of db t (lin_values env p)
atom_value db env (Sum t p c) = sum_of db t (lin_values env p) c

abbrev pub is_lin_zero : List ℤ → Lin → Bool
is_lin_zero env l = int_eq (lin_value env l) (pos 0)

-- the value of an unknown: its atom's where each linear value of `under` is 0, and else 0. So One without `under` counts as 1
abbrev pub unknown_value : List Row → List ℤ → Unknown → ℤ
unknown_value db env u = if list_all (is_lin_zero env) u.under then atom_value db env u.atom else pos 0

-- a coefficient times its unknown
abbrev pub product_value : List Row → List ℤ → Unknown × ℤ → ℤ
product_value db env term = term.1 *ℤ unknown_value db env term.0

-- the value of a form: the sum of its terms, and its constant
abbrev pub form_value : List Row → List ℤ → Form → ℤ
form_value db env f = total (map (product_value db env) f.terms) +ℤ f.constant

-- whether a relation is true
abbrev pub rel_true : List Row → List ℤ → Rel → Bool
rel_true db env r = meets r.equal (form_value db env r.form)

-- a clause is true: for all whole numbers for its own variables, which come behind the others, the guards imply the relation
abbrev pub ClauseTrue : List Row → List ℤ → Clause → Type 0
ClauseTrue db env c =
    (own : List ℤ) → length own ≡ length c.vars → IsTrue (list_all (rel_true db (env ++ own)) c.guards)
    → IsTrue (rel_true db (env ++ own) c.rel)
